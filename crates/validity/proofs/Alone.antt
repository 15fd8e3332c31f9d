-- What the test of a plan asks for, where there is no other feeder: a profile with places for the steps of one feeder.
use mathlib.Core.Path.{◌≡◌, ap}
use mathlib.Core.List.{[]}
use native.Mathlib.Omega.{arith}
use lib.ListN.{length}
use Rattle.charges.specs.Drawn.{loads_lent}
use Rattle.planner.specs.declared.Beside.{Beside}
use Rattle.planner.specs.Ready.{Spacious}

pub alone_spacious : (b : Beside) → loads_lent b.others ≡ [] → Spacious b 361
alone_spacious b e = record { enough = omega (arith, ap length e); most = omega arith }
