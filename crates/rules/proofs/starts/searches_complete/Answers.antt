use Rattle.rules.proofs.Validity.{order_starts}
use Rattle.rules.proofs.starts.searches_complete.Goals as goal

pub returns-clause-order : goal.returns-clause-order
returns-clause-order c = order_starts
