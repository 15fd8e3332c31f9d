-- The places of the charges that pass a test.
use mathlib.Core.Path.{◌≡◌, ap, sym, ◌∙◌}
use Prim.Native.Nat.{ℕ, ◌≤◌, ◌<◌}
use mathlib.Core.Bool.{Bool}
use mathlib.Core.List.{map}
use native.Mathlib.Omega.{arith}
use lib.ListN.{length, length-map}
use Rattle.rules.specs.Basics.{Each, tabulate, keep}
use Rattle.rules.specs.Charge.{Charge}
use Rattle.rules.proofs.Lists.{length_tabulate, length_keep, map_tabulate, keep_each, each_tabulate}
use Rattle.charges.specs.declared.Charges.{Charges}
use Rattle.charges.specs.Arrays.{charge_at, charges_of}
use Rattle.charges.specs.Places.{places_where}
use Rattle.charges.proofs.Members.{map_keep}

module _ (f : Charge → Bool) (c : Charges) where
  pub where_below : Each (λ i. i < c.held) (places_where f c)
  where_below =
      keep_each (λ i. i < c.held) (λ i. f (charge_at c i)) (tabulate (λ i. i) c.held 0)
      (each_tabulate (λ i. i < c.held) (λ i. i) c.held 0 (λ i a b. omega arith))

  pub where_few : length (places_where f c) ≤ c.held
  where_few =
      omega (arith, length_keep (λ i. f (charge_at c i)) (tabulate (λ i. i) c.held 0), length_tabulate {A = ℕ} (λ i. i) c.held 0)

  pub where_charges : map (charge_at c) (places_where f c) ≡ keep f (charges_of c)
  where_charges =
      map_keep (charge_at c) f (tabulate (λ i. i) c.held 0)
      ∙ ap (keep f) (map_tabulate (charge_at c) (λ i. i) c.held 0)

  pub where_many : length (places_where f c) ≡ length (keep f (charges_of c))
  where_many = sym (length-map (places_where f c) (charge_at c)) ∙ ap length where_charges
