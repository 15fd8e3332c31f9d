use Rattle.theorem.proofs.Withdrawn.{waiting_is_withdrawn}
use Rattle.theorem.proofs.other_calls.withdrawals.Goals as goal

pub returns-clause-exactly : goal.returns-clause-exactly
returns-clause-exactly c = waiting_is_withdrawn
