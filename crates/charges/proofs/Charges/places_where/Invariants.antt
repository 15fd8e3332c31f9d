-- The invariant: of the first i places those that pass the test, whichever test of charges it computes.
use mathlib.Core.Path.{◌≡◌}
use Prim.Native.Nat.{◌≤◌}
use mathlib.Core.Bool.{Bool}
use lib.ListN.{length}
use Rattle.rules.specs.Basics.{tabulate, keep}
use Rattle.rules.specs.Charge.{Charge}
use Rattle.charges.specs.Arrays.{charge_at}
use Rattle.charges.specs.Places.{Tests}
use Rattle.charges.proofs.Charges.places_where.Given as goal

abbrev pub invariant-loop-i : goal.invariant-loop-i
invariant-loop-i g l =
    (length l.places ≤ l.i)
    × ((p : Charge → Bool)
    → Tests (goal.F-post g l.test) l.self p
    → l.places ≡ keep (λ j. p (charge_at l.self j)) (tabulate (λ j. j) l.i 0))
