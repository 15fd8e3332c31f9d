use native.Mathlib.Omega.{arith}
use Rattle.priority.proofs.Crowding.{times_more}
use Rattle.priority.proofs.crowd.times_of.Goals as goal

pub loop-place-preserved : goal.loop-place-preserved
loop-place-preserved c = times_more c.requires c.loop-place.invariant c.loop-place-test.true c.joined-times.ensures (omega arith) (omega arith) (omega arith)
