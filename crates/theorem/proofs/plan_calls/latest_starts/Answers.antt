use Rattle.theorem.proofs.ByLatestStart.{turns_are_by_latest_start, starts_are_the_smallest, cause_one_is_no_start}
use Rattle.theorem.proofs.plan_calls.latest_starts.Goals as goal

pub returns-clause-turns : goal.returns-clause-turns
returns-clause-turns c = turns_are_by_latest_start

pub returns-clause-starts : goal.returns-clause-starts
returns-clause-starts c = starts_are_the_smallest

pub returns-clause-cause : goal.returns-clause-cause
returns-clause-cause c = cause_one_is_no_start
