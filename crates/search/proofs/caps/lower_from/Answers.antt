use native.Mathlib.Omega.{arith}
use Rattle.search.proofs.Lowerings.{lowering_done}
use Rattle.search.proofs.caps.lower_from.Goals as goal

pub returns : goal.returns
returns c = lowering_done c.args.n c.told-caps (omega arith) (omega arith) c.loop-cap.invariant (omega arith) (omega arith)
