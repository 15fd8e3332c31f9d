-- What up to three others draw fits beside a plan.
use mathlib.Core.Path.{◌∙◌}
use Rattle.station.proofs.Held.{valid_others}
use Rattle.station.proofs.Station.surroundings.Goals as goal

pub invariant_of-result : goal.invariant_of-result
invariant_of-result c =
    record {
      others_fit = λ l e. valid_others c.args.self.now c.requires.0 c.args.place c.requires.1 l (e ∙ c.rest.ensures.0) (rw e c.rest.ensures.1);
    }
