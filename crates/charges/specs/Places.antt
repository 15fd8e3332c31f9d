-- Places of held charges in some order, and those of the charges that pass a test.
use Rattle.std.specs.Prelude.{ℕ, ◌≤◌, ◌<◌, ◌≡◌, Bool, List, length, get_or}
use Rattle.rules.specs.Site.{places}
use Rattle.rules.specs.Basics.{tabulate, keep}
use Rattle.rules.specs.Charge.{Charge}
use Rattle.charges.specs.declared.Charges.{Charges}
use Rattle.charges.specs.Arrays.{charge_at}

-- places in arrays of 180, and no more than these
pub record Inside (is : List ℕ) : Type 0 where
  pub few : length is ≤ places
  pub below : (j : ℕ) → j < length is → get_or is j 0 < places

-- at the places held the answers are what this test gives for the charges there
abbrev pub Tests : (ℕ → Bool → Type 0) → Charges → (Charge → Bool) → Type 0
Tests answers c f = (i : ℕ) → i < c.held → (b : Bool) → answers i b → b ≡ f (charge_at c i)

-- the places of the charges that pass a test, in ticket order
abbrev pub places_where : (Charge → Bool) → Charges → List ℕ
places_where f c = keep (λ i. f (charge_at c i)) (tabulate (λ i. i) c.held 0)
