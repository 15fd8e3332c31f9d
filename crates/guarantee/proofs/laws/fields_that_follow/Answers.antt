use Rattle.guarantee.proofs.DemandOne.{answer_not_refused}
use Rattle.guarantee.proofs.Taking.{each_unbroken, none_before_order, taken_follows}
use Rattle.guarantee.proofs.Leaving.{place_follows}
use Rattle.guarantee.proofs.Unmoved.{reported_unmoved}
use Rattle.guarantee.proofs.laws.fields_that_follow.Goals as goal

pub returns : goal.returns
returns c =
    record {
      answered = answer_not_refused;
      unbroken = each_unbroken;
      not_before_order = none_before_order;
      taken = taken_follows;
      place_free = place_follows;
      unmoved = reported_unmoved;
    }
