-- The invariant: the best of those looked at.
use Prim.Native.Nat.{◌-◌}
use lib.ListN.{length}
use Rattle.priority.proofs.Choosing.{BestSoFar}
use Rattle.priority.proofs.choice.Left.choose.Given as goal

abbrev pub invariant-loop-j : goal.invariant-loop-j
invariant-loop-j l = BestSoFar l.self l.start l.runs l.best l.taken l.from

abbrev pub decreases-loop-j : goal.decreases-loop-j
decreases-loop-j l = length l.self.places.now - l.from
