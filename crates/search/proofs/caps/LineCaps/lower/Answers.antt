-- `search::caps::LineCaps::lower` meets its contract.
use native.Mathlib.Omega.{arith}
use Rattle.search.proofs.Lowerings.{lowered_one, lowered_two, lowered_three}
use Rattle.search.proofs.caps.LineCaps.lower.Goals as goal

pub returns-in-1 : goal.returns-in-1
returns-in-1 c = lowered_one c.requires c.lower_from.ensures (omega (arith, c.in-1.is)) (omega arith)

pub returns-in-2 : goal.returns-in-2
returns-in-2 c = lowered_two c.requires c.lower_from-in-2.ensures (omega (arith, c.in-2.is)) (omega arith)

pub returns-in-3 : goal.returns-in-3
returns-in-3 c = lowered_three c.requires c.lower_from-in-3.ensures (omega (arith, c.in-3.is)) (omega arith)
