use Rattle.theorem.proofs.EveryOrder.{on_a_feeder, not_before, unbroken, reported_once, not_reported, begun_starts_stay, under_the_ceiling}
use Rattle.theorem.proofs.every_order.every_order.Goals as goal

pub returns : goal.returns
returns c =
    record {
      feeder = on_a_feeder;
      not_early = not_before;
      unbroken = unbroken;
      reported_once = reported_once;
      never_before = not_reported;
      unmoved = begun_starts_stay;
      ceiling = under_the_ceiling;
    }
