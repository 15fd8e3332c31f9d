-- The settings of each feeder are what a call of the closure gave.
use Rattle.std.proofs.Common.{rules}
use Rattle.station.proofs.FreshFeeders.{settings_read}
use Rattle.station.proofs.open.Asked.from_numbers.Goals as goal

pub returns : goal.returns
returns c =
    settings_read c.from_fn.result c.args.numbers.now c.from_fn.ensures.items.long (search rules) (search rules) (search rules) (search rules)
