-- The board: what its walk along the charges of a feeder asks, and what it leaves.
use Rattle.std.specs.Prelude.{◌≡◌, ℕ, ◌≤◌, true, cond, List, [], ◌∷◌, eqb, length}
use Rattle.rules.specs.Basics.{keep}
use Rattle.rules.specs.Charge.{Charge}
use Rattle.rules.specs.Calls.{rises_from, is_looked_at}
use Rattle.charges.specs.declared.Charges.{Charges}
use Rattle.charges.specs.Held.{Rising}

-- the start of a ticket that is held by these charges, and what was there for another
abbrev pub start_or : ℕ → List Charge → ℕ → ℕ
start_or other [] ticket = other
start_or other (c ∷ cs) ticket = cond (eqb c.ticket ticket) c.start (start_or other cs ticket)

-- the list with the starts of those tickets that these charges hold: "Later places of the answer list are kept."
abbrev pub answered_by : List Charge → List ℕ → List ℕ → List ℕ
answered_by cs [] list = list
answered_by cs (ticket ∷ asked) [] = []
answered_by cs (ticket ∷ asked) (other ∷ list) = start_or other cs ticket ∷ answered_by cs asked list

-- charges in ticket order, tickets that rise, and a place for each answer
pub record CanBoard (c : Charges) (asked list : List ℕ) : Type 0 where
  pub rising : Rising c
  pub rises : rises_from 0 asked ≡ true
  pub room : length asked ≤ length list

-- how many of some charges were looked at, and the answer list whole
pub record Boarded (cs : List Charge) (asked list after : List ℕ) (looked : ℕ) : Type 0 where
  pub looked_at : looked ≡ length (keep (is_looked_at asked) cs)
  pub list_is : after ≡ answered_by cs asked list
