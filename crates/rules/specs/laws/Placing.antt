-- What a round of a replan by lines places under its caps: every charge of every line, once.
use Rattle.std.specs.Prelude.{◌≡◌, ℕ, zero, suc, ◌≤◌, List, [], ◌++◌, map}
use Rattle.rules.specs.Basics.{Each}
use Rattle.rules.specs.Load.{Load, IsLine}
use Rattle.rules.specs.Charge.{Charge, waiting_charges}
use Rattle.rules.specs.Search.{Caps}
use Rattle.rules.specs.Priority.{Fitting, fits_at}
use Rattle.rules.specs.Replan.{all, of_line, place_lines}
use Rattle.rules.specs.Valid.{Rising}
use Rattle.rules.specs.laws.Arrangements.{Rearranged}

-- a cap is never below k
abbrev pub AtLeast : ℕ → Caps → Type 0
AtLeast k cap = (l t : ℕ) → k ≤ cap l t

abbrev pub tickets : List Charge → List ℕ
tickets cs = map (λ c. c.ticket) cs

-- the charges of the first l lines
abbrev pub up_to_line : ℕ → List Charge → List Charge
up_to_line zero cs = []
up_to_line (suc l) cs = up_to_line l cs ++ of_line (suc l) cs

-- the charges of the first l lines are placed, each once
pub record LinesPlaced (fits : Fitting) (clock : ℕ) (base : List Load) (waiting : List Charge) (l : ℕ) : Type 0 where
  pub plan : List Charge
  pub gives : place_lines fits clock base waiting l ≡ all plan
  pub each : Rearranged (tickets plan) (tickets (up_to_line l waiting))

-- Under caps that are not below k, charges of a rate up to k and W are all placed.
abbrev pub ChargesUnderCapsArePlaced : Type 0
ChargesUnderCapsArePlaced =
    (k w : ℕ) (cap : Caps) (clock : ℕ) (base : List Load) (held : List Charge)
    → k ≤ w
    → AtLeast k cap
    → Each (λ c. c.rate ≤ k) held
    → Rising 1 held
    → LinesPlaced (fits_at w cap) clock base (waiting_charges clock held) 3

-- The charges of the three lines are all charges.
abbrev pub LinesHaveEveryCharge : Type 0
LinesHaveEveryCharge =
    (cs : List Charge) → Each (λ c. IsLine c.line) cs → Rearranged (tickets cs) (tickets (up_to_line 3 cs))
