use Rattle.theorem.proofs.AcrossRestarts.{across_restarts, station_valid, list_same, station_same, seen_same, further_same, known_was_seen, refusals_hold, plans_hold, orders_hold}
use Rattle.theorem.proofs.restarting.code_across_restarts.Goals as goal

pub returns : goal.returns
returns c =
    record {
      all = across_restarts;
      valid = station_valid;
      lists = list_same;
      station = station_same;
      seen = seen_same;
      next = further_same;
      known = known_was_seen;
      one = refusals_hold;
      two = plans_hold;
      three = orders_hold;
    }
