-- What the others among the first i feeders draw.
use Prim.Native.Nat.{◌+◌, ◌*◌, ◌≤◌, ◌<◌, ◌-◌}
use lib.ListN.{length}
use Rattle.rules.specs.Site.{places}
use Rattle.charges.proofs.Feeders.{OthersDrawn}
use Rattle.station.specs.View.{view}
use Rattle.station.proofs.Station.rest.Given as goal

abbrev pub invariant-loop-i : goal.invariant-loop-i
invariant-loop-i l = OthersDrawn (l.place + 1) (view l.self).feeders l.i l.rest × (l.place < l.i → length l.rest ≤ places * (l.i - 1))
