-- The least settings are refused by nothing, so that the station of them is fresh.
use Rattle.station.proofs.Opened.{least_fresh}
use Rattle.station.proofs.Station.least.Goals as goal

pub returns : goal.returns
returns c = least_fresh c.fresh.ensures
