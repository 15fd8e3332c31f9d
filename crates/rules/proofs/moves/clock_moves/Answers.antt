use Rattle.rules.proofs.Reporting.{report_order}
use Rattle.rules.proofs.moves.clock_moves.Goals as goal

pub returns-clause-in_order : goal.returns-clause-in_order
returns-clause-in_order c = report_order
