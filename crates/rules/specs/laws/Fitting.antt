-- Which charges fit at a start under caps, what stays so when more is placed, and which of them is taken.
use Rattle.std.specs.Prelude.{◌≡◌, ℕ, ◌≤◌, ◌<◌, false, List, [], ◌∷◌, ◌++◌, leb}
use Rattle.rules.specs.Basics.{at, run_of, some, Each}
use Rattle.rules.specs.Load.{Load, Draw}
use Rattle.rules.specs.Charge.{Charge, loads_of}
use Rattle.rules.specs.Search.{Caps, room_for, fits_under}
use Rattle.rules.specs.Priority.{Crowd, taken_before, chosen, foremost, Fitting, fits_at, first_fit, without_ticket}

-- A charge fits at a start exactly when the run of minutes from it on with room for its rate is at least its p + r.
abbrev pub FitsExactlyInTheRun : Type 0
FitsExactlyInTheRun =
    (w : ℕ) (cap : Caps) (xs : List Load) (a : Draw) (most s : ℕ)
    → a.time ≤ most
    → fits_under w cap xs a s ≡ leb a.time (run_of (room_for w cap xs a.line a.rate) most s)

-- What did not fit at a start does not fit there after a placement.
abbrev pub UnfitStaysUnfit : Type 0
UnfitStaysUnfit =
    (w : ℕ) (cap : Caps) (base : List Load) (placed : List Charge) (d : Charge) (s : ℕ) (c : Charge)
    → fits_at w cap (base ++ loads_of placed) s c ≡ false
    → fits_at w cap (base ++ loads_of (placed ++ (d ∷ []))) s c ≡ false

-- no charge that is left fits at a start below s
abbrev pub NoneBelow : Fitting → ℕ → List Load → List Charge → ℕ → Type 0
NoneBelow fits clock xs left s = (u : ℕ) → clock ≤ u → u < s → some (fits xs u) left ≡ false

-- Where none fitted below a start, none does after a placement, wherever its start is.
abbrev pub NoneBelowStaysNone : Type 0
NoneBelowStaysNone =
    (w : ℕ) (cap : Caps) (clock : ℕ) (base : List Load) (placed : List Charge) (d : Charge) (t : ℕ) (left : List Charge) (s : ℕ)
    → NoneBelow (fits_at w cap) clock (base ++ loads_of placed) left s
    → NoneBelow (fits_at w cap) clock (base ++ loads_of (placed ++ (d ∷ []))) (without_ticket t left) s

-- The smallest start never falls from one placement of a line to the next.
abbrev pub StartsOfALineRise : Type 0
StartsOfALineRise =
    (w : ℕ) (cap : Caps) (clock : ℕ) (base : List Load) (placed : List Charge) (d : Charge) (t : ℕ) (left : List Charge) (s next : ℕ)
    → first_fit (fits_at w cap) clock (base ++ loads_of placed) left ≡ at s
    → first_fit (fits_at w cap) clock (base ++ loads_of (placed ++ (d ∷ []))) (without_ticket t left) ≡ at next
    → s ≤ next

-- No charge that fits comes before the one that takes the start, whichever way the list is walked.
abbrev pub NoneComesBeforeTheTaken : Type 0
NoneComesBeforeTheTaken =
    (q : Crowd) (s : ℕ) (l : List Charge) (c : Charge)
    → Each (λ d. 1 ≤ d.time) l
    → foremost (taken_before q s) l ≡ chosen c
    → (1 ≤ c.time) × Each (λ d. taken_before q s d c ≡ false) l
