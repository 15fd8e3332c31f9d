-- The starts that a replan gave, place by place, and in ticket order.
use Rattle.std.specs.Prelude.{◌≡◌, ℕ, ◌<◌, List, length, get_or}
use Rattle.rules.specs.Charge.{Charge, waiting_charges}
use Rattle.rules.specs.Replan.{start_in, starts_in}
use Rattle.charges.specs.declared.Charges.{Charges}
use Rattle.charges.specs.Arrays.{charge_at, charges_of}

-- how many charges wait
abbrev pub waiting_count : ℕ → Charges → ℕ
waiting_count clock c = length (waiting_charges clock (charges_of c))

-- the start of each placed charge stands at its place, and 0 where a charge is not placed
abbrev pub Stored : Charges → List ℕ → List Charge → Type 0
Stored c by_place placed = (i : ℕ) → i < c.held → start_in placed (charge_at c i).ticket ≡ get_or by_place i 0

-- the starts of the waiting charges, in ticket order
pub record WaitingStarts (clock : ℕ) (c : Charges) (by_place r : List ℕ) : Type 0 where
  pub many : length r ≡ waiting_count clock c
  pub gives : (placed : List Charge) → Stored c by_place placed → starts_in placed (waiting_charges clock (charges_of c)) ≡ r
