use Rattle.theorem.proofs.Ordered.{commit_gives_the_earliest, commit_refuses_another}
use Rattle.theorem.proofs.order_calls.commits.Goals as goal

pub returns-clause-earliest : goal.returns-clause-earliest
returns-clause-earliest c = commit_gives_the_earliest

pub returns-clause-another : goal.returns-clause-another
returns-clause-another c = commit_refuses_another
