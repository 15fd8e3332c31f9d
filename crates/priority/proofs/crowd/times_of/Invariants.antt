-- The invariant: the times of those so far.
use Rattle.priority.specs.Crowds.{FirstTimes}
use Rattle.priority.proofs.crowd.times_of.Given as goal

abbrev pub invariant-loop-place : goal.invariant-loop-place
invariant-loop-place l = FirstTimes l.charges l.left l.place-index l.times
