-- The invariant: the requests before what is left are answered. The measure is what is left.
use Rattle.std.proofs.Common.{length, ◌-◌}
use Rattle.station.specs.View.{view}
use Rattle.session.specs.Turns.{Answers}
use Rattle.session.proofs.Serving.{Left}
use Rattle.session.proofs.turn.Buffers.answer_requests.Given as goal

abbrev pub invariant-loop-lists : goal.invariant-loop-lists
invariant-loop-lists g l =
    record {
      answers : Answers (view l.initial.station) l.bytes l.station (length l.bytes - length l.left) l.out;
      left : Left l.bytes l.left;
    }

abbrev pub decreases-loop-lists : goal.decreases-loop-lists
decreases-loop-lists g l = length l.left
