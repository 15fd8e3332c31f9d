-- Line by line, from no waiting charge placed.
use native.Mathlib.Omega.{arith}
use mathlib.Core.Path.{refl}
use Rattle.lines.proofs.Beginning.{lines_start}
use Rattle.lines.proofs.Ending.{lines_same}
use Rattle.lines.proofs.place.place_lines.Goals as goal

pub loop-line-init : goal.loop-line-init
loop-line-init g c = λ cap shown. lines_start c.requires.0 c.requires.1 refl refl

pub loop-line-preserved : goal.loop-line-preserved
loop-line-preserved g c = lines_same c.args.task.now c.place_line.ensures (omega arith)

pub returns : goal.returns
returns g c = lines_same c.args.task.now c.loop-line.invariant (omega (arith, c.loop-line-test.false))
