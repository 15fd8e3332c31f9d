-- `search::walk::first_failing_on` meets its contract.
use Rattle.std.proofs.Common.{rules}
use Rattle.search.specs.Caps.{room_under}
use Rattle.search.proofs.Unders.{under_told}
use Rattle.search.proofs.walk.first_failing_on.Goals as goal

pub returns : goal.returns
returns g c =
    c.first_failing_by.ensures (room_under c.args.steps.now c.args.caps.now g.row.LINE c.args.draw.rate)
    (λ i held t u r e. search (rules, under_told))
