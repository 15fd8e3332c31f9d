-- Its feeder is the only one of the least station.
use Rattle.station.proofs.Opened.{least_only}
use Rattle.station.proofs.only.One.least.Goals as goal

pub returns : goal.returns
returns c = least_only c.fresh.ensures
