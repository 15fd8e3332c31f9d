-- The four columns have the charges' numbers behind what was drawn before; the lines are 4 where the feeder is another.
use mathlib.Core.Path.{ap}
use mathlib.Core.Bool.{true, false}
use native.Mathlib.Omega.{arith}
use lib.ListN.{length}
use Rattle.std.proofs.Common.{rules}
use Rattle.charges.proofs.Drawing.{loads_length, copied, filled, joined}
use Rattle.charges.proofs.drawn.Drawn.append.Goals.{then-own, else-own}
use Rattle.charges.proofs.drawn.Drawn.append.Goals as goal

pub slice_bounds-lines-end : goal.slice_bounds-lines-end
slice_bounds-lines-end c = let d = c.self.inside in omega (arith, ap length c.self.view_is, loads_length d.held d.lines d.active_times d.starts d.rates)

pub returns : goal.returns
returns c =
    let d = c.self.inside in
    let a = c.args.charges.now in
    let k = d.held in
    let n = a.held in
    elim c.if-own.branch [
      | then-own w ↦
          rw (w.self-inside-is, ← c.self.view_is, w.if-own.true)
          (joined true a k d.lines d.active_times d.starts d.rates
          (copied k n d.lines (search rules) a.lines (search rules) (search rules))
          (copied k n d.active_times (search rules) a.active_times (search rules) (search rules))
          (copied k n d.starts (search rules) a.starts (search rules) (search rules))
          (copied k n d.rates (search rules) a.rates (search rules) (search rules)))
      | else-own w ↦
          rw (w.self-inside-is, ← c.self.view_is, w.if-own.false)
          (joined false a k d.lines d.active_times d.starts d.rates
          (filled k n d.lines (search rules) 4 (search rules))
          (copied k n d.active_times (search rules) a.active_times (search rules) (search rules))
          (copied k n d.starts (search rules) a.starts (search rules) (search rules))
          (copied k n d.rates (search rules) a.rates (search rules) (search rules)))
    ]
