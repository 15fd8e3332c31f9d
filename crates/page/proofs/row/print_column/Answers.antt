-- `page::print_column` meets its contract: the library's digits are put before the end of spaces.
use mathlib.Core.Path.{◌≡◌}
use mathlib.Core.List.{[], ◌∷◌, append_assoc}
use native.Mathlib.Omega.{arith}
use lib.ListN.{take}
use Rattle.text.specs.Numbers.{decimal}
use Rattle.text.proofs.Values.{same_digits}
use Rattle.page.specs.Lines.{at_right}
use Rattle.page.proofs.Aligning.{right_put}
use Rattle.page.proofs.row.print_column.Goals as goal

pub write_digits-requires : goal.write_digits-requires
write_digits-requires g c = rw (same_digits c.args.n c.ranges.n.fits) (omega arith, omega arith)

pub returns-clause-printed : goal.returns-clause-printed
returns-clause-printed g c =
    let w = c.write_digits.ensures in
    let digits = same_digits c.args.n c.ranges.n.fits in
    let put : take c.args.width c.write_digits.new.buf ≡ at_right c.args.width (decimal c.args.n) =
    right_put (decimal c.args.n) c.args.width 9 c.write_digits.result c.write_digits.new.buf (omega arith) (rw digits at w.start) (rw digits at w.written) w.before in
    rw (c.print-2.ensures, c.print.ensures, put, append_assoc c.args.out.now (at_right c.args.width (decimal c.args.n)) (32 ∷ []))
