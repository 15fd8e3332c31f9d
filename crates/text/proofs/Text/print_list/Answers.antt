use mathlib.Core.Path.{◌≡◌}
use mathlib.Core.List.{◌++◌}
use native.Mathlib.Omega.{arith}
use lib.ListN.{get_or}
use Rattle.text.specs.Printed.{listed, spaced}
use Rattle.text.proofs.Printing.{listed_more}
use Rattle.text.proofs.Text.print_list.Goals as goal

pub loop-n-preserved : goal.loop-n-preserved
loop-n-preserved g c =
    let n = get_or c.args.list.now c.loop-n.n-index 0 in
    let put : c.print_field.new.self ≡ c.loop-n.self ++ spaced n = rw (← c.from.ensures) (search) in (
      listed_more c.args.list.now c.loop-n.n-index c.loop-n-test.true c.loop-n.self (c.args.self.now ++ listed c.args.list.now) c.loop-n.invariant.0 put,
      omega arith,
    )
