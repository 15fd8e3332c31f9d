use Rattle.std.proofs.Common.{rules}
use borrow.Author.Tests.{tests}
use mathlib.Core.Path.{◌≡◌}
use mathlib.Core.Bool.{true, false, ◌&&◌}
use Rattle.std.proofs.lemmas.Iterator.{cases_from_all, YieldsList-from_slice}
use Rattle.rules.specs.Load.{limited, within_site}
use Rattle.profile.specs.Steps.{counts_of}
use Rattle.profile.proofs.Lines.{limits_tests}
use Rattle.profile.proofs.Balances.{minutes_pass}
use Rattle.profile.proofs.balance.within_limits.Goals as goal

pub returns : goal.returns
returns c =
    record {
      answer =
          minutes_pass c.all.result (limits_tests c.args.limit c.args.site) c.requires
          (cases_from_all _ _ _
          (λ x. limited c.args.limit (counts_of x) && within_site c.args.site (counts_of x) ≡ true)
          (λ x. limited c.args.limit (counts_of x) && within_site c.args.site (counts_of x) ≡ false)
          c.all.ensures.ran (YieldsList-from_slice c.args.steps.now cc) (λ x q k. search (rules, tests)) (λ x q k. search (rules, tests)));
    }
