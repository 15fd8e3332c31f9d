use Rattle.theorem.proofs.Chains.{theorem as holds}
use Rattle.theorem.proofs.theorem.Goals as goal

pub returns : goal.returns
returns c = holds
