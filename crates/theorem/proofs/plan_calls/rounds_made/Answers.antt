use Rattle.theorem.proofs.ByLines.{starts_of_an_even_round, cause_one_is_none_active, cause_two_is_allowance_spent}
use Rattle.theorem.proofs.plan_calls.rounds_made.Goals as goal

pub returns-clause-starts : goal.returns-clause-starts
returns-clause-starts c = starts_of_an_even_round

pub returns-clause-one : goal.returns-clause-one
returns-clause-one c = cause_one_is_none_active

pub returns-clause-two : goal.returns-clause-two
returns-clause-two c = cause_two_is_allowance_spent
