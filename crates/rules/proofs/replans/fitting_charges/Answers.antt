use Rattle.rules.proofs.Foremost.{foremost_first}
use Rattle.rules.proofs.replans.fitting_charges.Goals as goal

pub returns-clause-foremost : goal.returns-clause-foremost
returns-clause-foremost c = foremost_first
