use Rattle.restarts.proofs.CasesElsewhere.{uneven_valid, continued_known, continued_counts}
use Rattle.restarts.proofs.by_hand.uneven_station.Goals as goal

pub returns : goal.returns
returns c = record { valid = uneven_valid; known = continued_known; counts = continued_counts }
