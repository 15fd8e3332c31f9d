-- `page::Listing::print_pages` meets its contract: page by page.
use Rattle.std.proofs.Common.{◌≡◌, ◌+◌, ◌*◌, ◌++◌, length}
use Rattle.charges.specs.Arrays.{charges_of}
use Rattle.page.specs.Pages.{texts, page}
use Rattle.page.proofs.pages.Listing.print_pages.Given as goal

abbrev pub invariant-loop-k : goal.invariant-loop-k
invariant-loop-k g l =
    (l.out ≡ l.initial.out ++ texts (page l.self.clock (charges_of l.self.charges.now)) l.k) × (length l.out ≡ length l.initial.out + 950 * l.k)
