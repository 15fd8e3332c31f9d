use Rattle.excluded.proofs.Stations.{stations_reached}
use Rattle.excluded.proofs.stations_are_reached.Goals as goal

pub returns : goal.returns
returns c = stations_reached
