-- `search::walk::first_passing` meets its contract. The invariant: the search has come to s in step i, and whichever test the answers are
-- those of, no start below s passes it.
use Prim.Native.Nat.{ℕ, ◌-◌}
use mathlib.Core.Bool.{Bool}
use lib.ListN.{length}
use Rattle.search.specs.Rooms.{Tests}
use Rattle.search.proofs.Passings.{Reached, Failed}
use Rattle.search.proofs.walk.first_passing.Given as goal

abbrev pub invariant-loop-s : goal.invariant-loop-s
invariant-loop-s g l =
    Reached l.steps l.time l.start l.until l.i l.s
    × ((f : ℕ → Bool) → Tests (goal.F-post g l.test) l.steps l.time l.start l.until f → Failed f l.time l.start l.until l.s)

abbrev pub decreases-loop-s : goal.decreases-loop-s
decreases-loop-s g l = length l.steps - l.i
