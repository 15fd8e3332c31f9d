-- `search::caps::unlowered` meets its contract.
use native.Mathlib.Omega.{arith}
use Rattle.search.specs.Caps.{cap_places}
use Rattle.search.proofs.Lowerings.{unlowered_filled}
use Rattle.search.proofs.caps.unlowered.Goals as goal

pub returns : goal.returns
returns c = unlowered_filled cap_places (omega arith) (omega arith) (omega arith) (c.fill.ensures.after (λ y e. e))
