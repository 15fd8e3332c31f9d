-- `page::Listing::print_page` meets its contract: the heading, then the rows.
use mathlib.Core.Path.{◌∙◌}
use mathlib.Core.List.{append_assoc}
use Rattle.charges.specs.Arrays.{charges_of}
use Rattle.page.specs.Lines.{heading}
use Rattle.page.specs.Pages.{page, rows}
use Rattle.page.proofs.pages.Listing.print_page.Goals as goal

pub returns-clause-printed : goal.returns-clause-printed
unfolding page
returns-clause-printed g c =
    c.print_rows.ensures.printed
    ∙ rw c.print.ensures (append_assoc c.args.out.now heading (rows c.args.self.now.clock (charges_of c.args.self.now.charges.now) c.args.k))
