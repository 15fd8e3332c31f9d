-- `page::print_row` meets its contract: its columns are printed one after another. What a column asks begins with the size of the text, that
-- memory can have one of it.
use mathlib.Core.List.{append_assoc}
use borrow.Author.Rules.{rules}
use borrow.Author.Tests.{lt-ltb, le-ltb}
use native.Mathlib.Omega.{arith}
use Rattle.page.specs.Lines.{row}
use Rattle.page.proofs.Aligning.{ticket_digits, line_digits, start_digits, end_digits}
use Rattle.page.proofs.row.print_row.Goals as goal

pub print_column-requires : goal.print_column-requires
print_column-requires g c = (search rules, (rw c.from.ensures (ticket_digits c.requires.0), omega arith, omega arith))

pub print_column-requires-2 : goal.print_column-requires-2
print_column-requires-2 g c = (search rules, (rw c.from-2.ensures (line_digits c.requires.0), omega arith, omega arith))

pub print_column-requires-3 : goal.print_column-requires-3
print_column-requires-3 g c = (search rules, (rw c.from-3.ensures (start_digits c.requires.0), omega arith, omega arith))

pub print_column-requires-4 : goal.print_column-requires-4
print_column-requires-4 g c =
    let f = c.requires.0 in
    (search rules, (rw c.end_of.ensures.0 (end_digits f _ (omega (arith, f.time_small, f.active_small))), omega arith, omega arith))

pub returns-then-charge-clock-clause-printed : goal.returns-then-charge-clock-clause-printed
unfolding row
returns-then-charge-clock-clause-printed g c =
    rw (c.print.ensures, c.print_column-4.ensures.printed, c.print_column-3.ensures.printed, c.print_column-2.ensures.printed, c.print_column.ensures.printed, c.from.ensures, c.from-2.ensures, c.from-3.ensures, c.end_of.ensures.0, lt-ltb c.args.charge.start c.args.clock c.if-charge-clock.true)
    (simp append_assoc)

pub returns-else-charge-clock-clause-printed : goal.returns-else-charge-clock-clause-printed
unfolding row
returns-else-charge-clock-clause-printed g c =
    rw (c.print-else-charge-clock.ensures, c.print_column-4.ensures.printed, c.print_column-3.ensures.printed, c.print_column-2.ensures.printed, c.print_column.ensures.printed, c.from.ensures, c.from-2.ensures, c.from-3.ensures, c.end_of.ensures.0, le-ltb c.args.charge.start c.args.clock c.if-charge-clock.false)
    (simp append_assoc)
