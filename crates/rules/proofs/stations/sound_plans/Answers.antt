use Rattle.rules.proofs.Counts.{sound_from_lem}
use Rattle.rules.proofs.stations.sound_plans.Goals as goal

pub returns-clause-every_minute : goal.returns-clause-every_minute
returns-clause-every_minute c = sound_from_lem
