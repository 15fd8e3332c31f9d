-- The first steps of the part have the rate more on the line.
use Rattle.profile.proofs.Edited.{Raising}
use Rattle.profile.proofs.loads.Profile.raise.Given as goal

abbrev pub invariant-loop-step : goal.invariant-loop-step
invariant-loop-step g l = Raising l.initial.step-items l.step-items l.line l.rate l.step-index
