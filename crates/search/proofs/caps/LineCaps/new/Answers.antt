-- `search::caps::LineCaps::new` meets its contract.
use native.Mathlib.Omega.{arith}
use Rattle.search.proofs.Lowerings.{unlowered_shown}
use Rattle.search.proofs.caps.LineCaps.new.Goals as goal

pub returns : goal.returns
returns c = unlowered_shown _ _ _ c.unlowered-caps.ensures (omega arith)
