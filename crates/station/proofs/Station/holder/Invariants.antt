-- None of the first feeders holds the ticket.
use Prim.Native.Nat.{ℕ, ◌<◌}
use Rattle.station.specs.Holders.{Lacks}
use Rattle.station.proofs.Station.holder.Given as goal

abbrev pub invariant-loop-feeder : goal.invariant-loop-feeder
invariant-loop-feeder l = (j : ℕ) → j < l.feeder → Lacks l.self l.ticket j
