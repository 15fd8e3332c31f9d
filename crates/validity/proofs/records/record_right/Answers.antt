use Rattle.validity.proofs.Settling.{times_testable}
use Rattle.validity.proofs.records.record_right.Goals as goal

pub charge_right-requires : goal.charge_right-requires
charge_right-requires c = times_testable c.args.one.now c.requires.0 c.args.q c.at.result c.requires.1 c.at.ensures
