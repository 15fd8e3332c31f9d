use Rattle.theorem.proofs.EveryOpening.{opening_refused, opening_refused_for, least_beside, opened_as_asked}
use Rattle.theorem.proofs.every_opening.every_opening.Goals as goal

pub returns : goal.returns
returns c =
    record {
      table = opening_refused;
      first = opening_refused_for;
      beside = least_beside;
      opened = opened_as_asked;
    }
