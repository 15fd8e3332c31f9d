use Rattle.guarantee.proofs.Counted.{rated_counts, tailed_counts, shorter_known, withdrawn_not_counted, of_two_known, counted_by_feeder}
use Rattle.guarantee.proofs.by_hand.shorter_lists.Goals as goal

pub returns : goal.returns
returns c =
    record {
      rates = rated_counts;
      tails = tailed_counts;
      withdrawals = shorter_known;
      withdrawn_not_counted = withdrawn_not_counted;
      feeders = of_two_known;
      counted_apart = counted_by_feeder;
    }
