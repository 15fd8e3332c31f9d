use Rattle.theorem.proofs.EveryWithdrawal.{never_reported, not_found}
use Rattle.theorem.proofs.every_withdrawal.every_withdrawal.Goals as goal

pub returns : goal.returns
returns c =
    record {
      not_reported = never_reported;
      not_found = not_found;
    }
