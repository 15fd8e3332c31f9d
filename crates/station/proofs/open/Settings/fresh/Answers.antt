use Rattle.station.proofs.FreshFeeders.{feeder_fresh}
use Rattle.station.proofs.open.Settings.fresh.Goals as goal

pub returns : goal.returns
returns c = feeder_fresh c.args.self.now (c.bound.ensures.is c.requires) c.none.ensures
