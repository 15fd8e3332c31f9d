use Rattle.rules.specs.Calls.{fresh, least}
use Rattle.allowance.proofs.Allowance as laws
use Rattle.allowance.proofs.larger_allowance.Goals as goal

pub returns : goal.returns
returns c =
    record {
      everywhere = laws.everywhere;
      wherever_it_stands = laws.wherever;
      largest_yard = laws.largest_yard;
      same = λ s f. (laws.everywhere s f).same;
      lower = λ s f. (laws.everywhere s f).lower;
      nowhere_higher = (laws.everywhere (fresh least) 1).nowhere_higher;
      few_rounds = λ s f. (laws.everywhere s f).few_rounds;
      never_spent = λ s f. (laws.everywhere s f).never_spent;
    }
