-- `search::candidate::first_fitting` meets its contract: the test of a start is that of its minutes.
use Rattle.std.proofs.Common.{rules}
use Rattle.search.specs.Candidates.{fits_in}
use Rattle.search.proofs.Candidates.{failing_first, fits_rests}
use Rattle.search.proofs.candidate.first_fitting.Goals as goal

pub first_passing-requires-clause-settled : goal.first_passing-requires-clause-settled
first_passing-requires-clause-settled c =
    record {
      passes = fits_in c.args.steps.now c.args.limits c.args.draw;
      tests = λ s i u r e. search (rules, failing_first);
      rests = fits_rests c.requires;
    }

pub returns-clause-first : goal.returns-clause-first
returns-clause-first c =
    c.first_passing.ensures.passing (fits_in c.args.steps.now c.args.limits c.args.draw) (λ s i u r e. search (rules, failing_first))
