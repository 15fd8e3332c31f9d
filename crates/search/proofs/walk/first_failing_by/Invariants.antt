-- `search::walk::first_failing_by` meets its contract. The invariant: whichever test the answers are those of, every minute before the step
-- that comes next passes it.
use Prim.Native.Nat.{ℕ, ◌+◌}
use mathlib.Core.Bool.{Bool}
use Rattle.search.specs.Rooms.{Tells}
use Rattle.search.proofs.Walks.{Walk}
use Rattle.search.proofs.walk.first_failing_by.Given as goal

abbrev pub invariant-loop-k : goal.invariant-loop-k
invariant-loop-k g l =
    (f : ℕ → Bool) → Tells (goal.F-post g l.fails) l.steps l.minutes.end f → Walk f l.steps l.minutes.start l.minutes.end (l.first + l.k)
