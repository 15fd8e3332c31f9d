-- `page::Listing::print_rows` meets its contract: row by row.
use Rattle.std.proofs.Common.{◌≡◌, ◌+◌, ◌*◌, ◌++◌, length}
use Rattle.charges.specs.Arrays.{charges_of}
use Rattle.page.proofs.Paging.{rows_to}
use Rattle.page.proofs.pages.Listing.print_rows.Given as goal

abbrev pub invariant-loop-i : goal.invariant-loop-i
invariant-loop-i g l =
    (l.out ≡ l.initial.out ++ rows_to l.self.clock (charges_of l.self.charges.now) l.k l.i) × (length l.out ≡ length l.initial.out + 38 * l.i)
