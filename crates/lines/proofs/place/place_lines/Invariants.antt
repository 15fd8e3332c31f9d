-- The invariant: whatever the caps are, the charges of the lines before this one are placed as the rules place them.
use Prim.Native.Nat.{◌-◌}
use Rattle.lines.specs.Lines.{LinesUnder}
use Rattle.lines.proofs.place.place_lines.Given as goal

abbrev pub invariant-loop-line : goal.invariant-loop-line
invariant-loop-line g l = LinesUnder l.task (l.line - 1) l.profile l.by_place
