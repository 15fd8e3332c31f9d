use Rattle.rules.proofs.Sites.{seen_own, own_seen}
use Rattle.rules.proofs.stations.feeders_seen.Goals as goal

pub returns-clause-own : goal.returns-clause-own
returns-clause-own c = seen_own

pub returns-clause-seen : goal.returns-clause-seen
returns-clause-seen c = own_seen
