use mathlib.Core.Path.{◌≡◌, sym, ap, ◌∙◌}
use mathlib.Core.List.{◌++◌}
use native.Mathlib.Omega.{arith}
use Rattle.rules.proofs.Lists.{length_tabulate}
use Rattle.charges.specs.Arrays.{charges_of, charge_at}
use Rattle.page.specs.Pages.{page, page_count}
use Rattle.page.proofs.Paging.{none_behind, one_behind, whole_pages}
use Rattle.page.proofs.pages.Listing.print_pages.Goals as goal

pub loop-k-init : goal.loop-k-init
loop-k-init g c = (none_behind (page c.args.self.now.clock (charges_of c.args.self.now.charges.now)) c.args.out.now, omega arith)

pub loop-k-preserved : goal.loop-k-preserved
loop-k-preserved g c = (
  one_behind (page c.args.self.now.clock (charges_of c.args.self.now.charges.now)) c.loop-k.k c.args.out.now _ c.loop-k.invariant.0 c.print_page.ensures.printed (search),
  omega arith,
)

pub returns : goal.returns
returns g c =
    let last : c.loop-k.k ≡ c.page_count-k-end.result = omega arith in
    c.loop-k.invariant.0
    ∙ ap (λ x. c.args.out.now ++ x) (whole_pages c.args.self.now.clock (charges_of c.args.self.now.charges.now) c.loop-k.k (last ∙ c.page_count-k-end.ensures.0 ∙ ap page_count (sym (length_tabulate (charge_at c.args.self.now.charges.now) c.args.self.now.charges.now.held 0))))
