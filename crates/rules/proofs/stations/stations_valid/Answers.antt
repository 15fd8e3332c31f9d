use Rattle.rules.proofs.Validity.{opening_valid, step_valid}
use Rattle.rules.proofs.stations.stations_valid.Goals as goal

pub returns-clause-opening : goal.returns-clause-opening
returns-clause-opening c = opening_valid

pub returns-clause-step : goal.returns-clause-step
returns-clause-step c = step_valid
