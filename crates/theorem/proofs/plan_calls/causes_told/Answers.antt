use Rattle.theorem.proofs.Causes.{cause_is_the_first, cause_of_no_starts}
use Rattle.theorem.proofs.plan_calls.causes_told.Goals as goal

pub returns-clause-first : goal.returns-clause-first
returns-clause-first c = cause_is_the_first

pub returns-clause-none : goal.returns-clause-none
returns-clause-none c = cause_of_no_starts
