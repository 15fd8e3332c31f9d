use Rattle.earlier.proofs.Earlier.{same_as_order, like_any_other}
use Rattle.earlier.proofs.orders_before.Goals as goal

pub returns-clause-two_calls : goal.returns-clause-two_calls
returns-clause-two_calls c = same_as_order

pub returns-clause-due : goal.returns-clause-due
returns-clause-due c = like_any_other
