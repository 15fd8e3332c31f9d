-- `search::start::fitting_from` meets its contract: every candidate is tested.
use native.Mathlib.Omega.{arith}
use Rattle.search.proofs.Passings.{passing_least}
use Rattle.search.proofs.start.fitting_from.Goals as goal

pub returns : goal.returns
returns c = passing_least c.args.steps.now c.requires.3 c.first_fitting.ensures.first c.first_fitting.ensures.high (omega (arith, c.requires.0.ends_fit))
