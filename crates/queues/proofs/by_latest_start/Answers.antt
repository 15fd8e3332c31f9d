-- Tickets rise with the places, so that places with the same latest start, which keep their order, stand in ticket order.
use lib.Signed.{le_z}
use Rattle.std.proofs.Common.{rules}
use Rattle.rules.specs.Charge.{is_waiting, latest_start_before}
use Rattle.queues.proofs.Ordering.{ordered, latest_start_at, by_latest_start_before}
use Rattle.queues.proofs.by_latest_start.Goals as goal

pub returns : goal.returns
returns c =
    let key = latest_start_at c.args.charges.now in
    ordered (is_waiting c.args.clock) c.args.charges.now (λ i j. le_z (key i) (key j)) latest_start_before c.waiting_places-waiting.result c.requires.rising
    (by_latest_start_before c.args.charges.now)
    (search rules)
    (c.sorted_by_key.ensures key (λ i h v e. search rules))
