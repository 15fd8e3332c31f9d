-- The rounds that are left, from the caps as they stand, are the whole of the replan.
use Prim.Native.Nat.{◌-◌}
use Rattle.lines.proofs.Counting.{Rounds}
use Rattle.lines.proofs.rounds.by_lines.Given as goal

abbrev pub invariant-loop-rounds : goal.invariant-loop-rounds
invariant-loop-rounds g l = Rounds l.beside l.charges l.allowance l.caps (l.rounds - 1)
