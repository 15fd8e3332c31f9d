use Rattle.allowance.proofs.Refuted.{tail_left_out_lem, not_placed_anew_lem, lowered_to_the_count_lem, charges_limited_lem, rounds_told_lem}
use Rattle.allowance.proofs.by_hand.wrong_rules_excluded.Goals as goal

pub returns : goal.returns
returns c =
    record {
      tail_left_out = tail_left_out_lem;
      not_placed_anew = not_placed_anew_lem;
      lowered_to_the_count = lowered_to_the_count_lem;
      charges_limited = charges_limited_lem;
      rounds_told = rounds_told_lem;
    }
