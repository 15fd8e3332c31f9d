-- All feeders but those that are left are looked at.
use Rattle.site.proofs.OnTheBoard.{BoardedBehind}
use Rattle.site.proofs.board.board_feeders.Given as goal

abbrev pub invariant-loop-feeder : goal.invariant-loop-feeder
invariant-loop-feeder l = BoardedBehind l.station l.feeder-iterator.iter.rest.now l.asked l.initial.answers l.answers l.looked
