use Rattle.layout.proofs.RoundTrip.{restoring_valid}
use Rattle.layout.proofs.restored_station.Goals as goal

pub returns-clause-valid : goal.returns-clause-valid
returns-clause-valid c = restoring_valid
