-- Tickets rise with the places, so that equal starts, which keep their order, stand in ticket order.
use lib.Signed.{le_z}
use Rattle.std.proofs.Common.{rules}
use Rattle.rules.specs.Calls.{is_passed, start_before}
use Rattle.queues.proofs.Ordering.{ordered, start_at, by_start_before}
use Rattle.queues.proofs.by_start.Goals as goal

pub returns : goal.returns
returns c =
    let key = start_at c.args.charges.now in
    ordered (is_passed c.args.clock c.args.target) c.args.charges.now (λ i j. le_z (key i) (key j)) start_before c.passed_places-passed.result c.requires.rising
    (by_start_before c.args.charges.now)
    (search rules)
    (c.sorted_by_key.ensures key (λ i h v e. search rules))
