use mathlib.Core.Path.{ap, ◌∙◌}
use mathlib.Core.List.{◌++◌}
use Prim.Native.Nat.{◌+◌, ◌*◌}
use native.Mathlib.Omega.{arith}
use Rattle.charges.specs.Arrays.{charges_of}
use Rattle.page.specs.Pages.{row_at}
use Rattle.page.proofs.Paging.{none_behind, one_behind, all_rows}
use Rattle.page.proofs.pages.Listing.print_rows.Goals as goal

pub loop-i-init : goal.loop-i-init
loop-i-init g c = (none_behind (λ j. row_at c.args.self.now.clock (charges_of c.args.self.now.charges.now) (24 * c.args.k + j)) c.args.out.now, omega arith)

pub loop-i-preserved : goal.loop-i-preserved
loop-i-preserved g c = (
  one_behind (λ j. row_at c.args.self.now.clock (charges_of c.args.self.now.charges.now) (24 * c.args.k + j)) c.loop-i.i c.args.out.now _ c.loop-i.invariant.0 c.print_place.ensures.printed (search),
  omega arith,
)

pub returns-clause-printed : goal.returns-clause-printed
returns-clause-printed g c =
    c.loop-i.invariant.0 ∙ ap (λ x. c.args.out.now ++ x) (all_rows c.args.self.now.clock (charges_of c.args.self.now.charges.now) c.args.k c.loop-i.i (omega arith))
