use Rattle.profile.proofs.Balances.{balance_told}
use Rattle.profile.proofs.steps.Step.is_balanced.Goals as goal

pub returns : goal.returns
returns c = rw (c.largest.ensures, c.smallest.ensures) (balance_told c.args.self c.args.bound)
