-- What the other feeders draw fits beside a plan.
use Rattle.std.specs.Prelude.{◌≡◌, List}
use Rattle.rules.specs.Load.{Load}
use Rattle.charges.specs.declared.loads.Loads.{Loads}
use Rattle.charges.specs.Drawn.{loads_lent}
use Rattle.planner.specs.Others.{Others, others_prop}

-- loads beside which a plan may stand, wherever they are lent
abbrev pub OthersFit : List Load → Type 0
OthersFit xs = (l : Loads) → loads_lent l ≡ xs → Others l

-- in one way at most
pub others_fit_prop : (xs : List Load) → IsProp (OthersFit xs)
others_fit_prop xs p q = λ i l e. others_prop l (p l e) (q l e) i
