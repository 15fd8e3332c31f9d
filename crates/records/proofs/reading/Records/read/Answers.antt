-- The header and the columns are the feeder that the contents are of.
use Rattle.records.proofs.StationRead.{read_from}
use Rattle.records.proofs.reading.Records.read.Goals as goal

pub returns : goal.returns
returns c = read_from c.args.self.now.contents.now _ _ _ c.args.self.now.headed c.bound.ensures c.read_charges.ensures
