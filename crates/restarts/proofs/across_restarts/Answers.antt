use Rattle.restarts.proofs.Restarts.{across}
use Rattle.restarts.proofs.Claims.{since_opening, since_refused_restore}
use Rattle.restarts.proofs.across_restarts.Goals as goal

pub returns : goal.returns
returns c =
    record {
      all = across;
      station = λ x events. (across x events).station;
      seen = λ x events. (across x events).seen;
      valid = λ x events. (across x events).valid;
      one = λ x events. (across x events).one;
      two = λ x events. (across x events).two;
      three = λ x events. (across x events).three;
      since_opening = since_opening;
      since_refused_restore = since_refused_restore;
    }
