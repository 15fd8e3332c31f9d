-- The first charges of the queue are placed as the rules place them.
use Rattle.planner.specs.Ready.{terms_of}
use Rattle.planner.proofs.Plans.{PlacedSoFar}
use Rattle.planner.proofs.latest.latest.Given as goal

abbrev pub invariant-loop-place : goal.invariant-loop-place
invariant-loop-place g l = PlacedSoFar (terms_of l.beside) l.beside.clock l.charges l.place-items l.place-index l.profile l.by_place
