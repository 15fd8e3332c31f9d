use native.Mathlib.Omega.{arith}
use Rattle.std.proofs.Common.{rules}
use Rattle.charges.proofs.Clearing.{cleared_none}
use Rattle.charges.proofs.drawn.Drawn.none.Goals as goal

pub returns : goal.returns
returns c = search rules

pub invariant_of-result : goal.invariant_of-result
invariant_of-result c =
    let zeros = cleared_none 720 in
    (omega arith, zeros, zeros, zeros, zeros)
