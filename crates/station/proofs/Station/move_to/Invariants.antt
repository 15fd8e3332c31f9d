-- The first feeders have dropped their finished charges.
use Rattle.station.proofs.Moves.{Dropping}
use Rattle.station.proofs.Station.move_to.Given as goal

abbrev pub invariant-loop-feeder : goal.invariant-loop-feeder
invariant-loop-feeder l = Dropping l.initial.feeder-items l.feeder-items l.target l.feeder-index
