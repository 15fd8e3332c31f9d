-- `page::Listing::print_place` meets its contract: the row of a charge, or an unused one.
use mathlib.Core.Path.{◌∙◌}
use native.Mathlib.Omega.{arith}
use borrow.Author.Rules.{rules}
use Rattle.page.proofs.Paging.{row_placed, row_behind, fits_at_lem}
use Rattle.page.proofs.pages.Listing.print_place.Goals as goal

pub returns-then-self-q-clause-printed : goal.returns-then-self-q-clause-printed
returns-then-self-q-clause-printed g c =
    c.print.ensures ∙ rw (← row_behind c.args.self.now.clock c.args.self.now.charges.now c.args.q c.if-self-q.true)

pub print_row-requires : goal.print_row-requires
print_row-requires g c =
    (search rules, (rw c.at.ensures (fits_at_lem c.args.self.now.charges.now c.args.q c.args.self.now.fits (omega arith)), omega arith))

pub returns-else-self-q-clause-printed : goal.returns-else-self-q-clause-printed
returns-else-self-q-clause-printed g c =
    c.print_row.ensures.printed ∙ rw (c.at.ensures, row_placed c.args.self.now.clock c.args.self.now.charges.now c.args.q (omega arith))
