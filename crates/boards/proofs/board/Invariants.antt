-- The invariant: so many charges are passed, and so many tickets done.
use Prim.Native.Nat.{◌+◌, ◌-◌}
use lib.ListN.{length}
use Rattle.boards.proofs.Boarding.{Walked}
use Rattle.boards.proofs.board.Given as goal

abbrev pub invariant-loop-answered : goal.invariant-loop-answered
invariant-loop-answered l = Walked l.charges l.asked l.initial.answers l.answers l.place l.answered

abbrev pub decreases-loop-answered : goal.decreases-loop-answered
decreases-loop-answered l = (l.charges.held - l.place) + (length l.asked - l.answered)
