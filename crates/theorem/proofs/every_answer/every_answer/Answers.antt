use Rattle.theorem.proofs.EveryAnswer.{answers_by_the_rules, next_by_the_rules, stations_valid, other_lists_stay, refused_leaves}
use Rattle.theorem.proofs.every_answer.every_answer.Goals as goal

pub returns : goal.returns
returns c =
    record {
      answers = answers_by_the_rules;
      next = next_by_the_rules;
      valid = stations_valid;
      lists = other_lists_stay;
      refused = refused_leaves;
    }
