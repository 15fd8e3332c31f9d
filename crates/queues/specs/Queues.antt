-- Queues, which are places of held charges in some order: those on a line, and the charges that they give.
use Rattle.std.specs.Prelude.{ℕ, ℤ, ◌≤◌, ◌<◌, ◌≡◌, Bool, List, map, eqb, length, get_or}
use Rattle.rules.specs.Site.{places}
use Rattle.rules.specs.Charge.{Charge}
use Rattle.charges.specs.declared.Charges.{Charges}
use Rattle.charges.specs.Arrays.{charge_at}

-- place i is on the line
abbrev pub is_on_line : List ℕ → ℕ → ℕ → Bool
is_on_line lines line i = eqb (get_or lines i 0) line

-- at the places of a feeder this key is given
abbrev pub GivesKey : (ℕ → ℤ → Type 0) → (ℕ → ℤ) → Type 0
GivesKey gives k = (i : ℕ) → i < places → (v : ℤ) → gives i v → v ≡ k i

-- places of held charges, no place twice
pub record PlacesIn (c : Charges) (is : List ℕ) : Type 0 where
  pub few : length is ≤ c.held
  pub inside : (j : ℕ) → j < length is → get_or is j 0 < c.held
  pub apart : (j k : ℕ) → j < k → k < length is → get_or is j 0 ≡ get_or is k 0 → ⊥

-- these places of held charges give exactly these charges
pub record Ordered (c : Charges) (xs : List Charge) (is : List ℕ) : Type 0 where
  pub charges : map (charge_at c) is ≡ xs
  pub places : PlacesIn c is
