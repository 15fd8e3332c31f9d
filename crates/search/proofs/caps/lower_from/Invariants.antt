-- `search::caps::lower_from` meets its contract. The invariant: of the places from n on those before the next are lowered.
use Rattle.search.proofs.Lowerings.{FirstLowered}
use Rattle.search.proofs.caps.lower_from.Given as goal

abbrev pub invariant-loop-cap : goal.invariant-loop-cap
invariant-loop-cap l = FirstLowered l.initial.cap-items l.cap-items l.t l.cap-index
