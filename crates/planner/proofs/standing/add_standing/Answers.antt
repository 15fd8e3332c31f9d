-- The charges that start before a minute are put beside what the other feeders draw.
use native.Mathlib.Omega.{arith}
use Rattle.planner.proofs.StandingLoads.{own_can_add, own_shown}
use Rattle.planner.proofs.standing.add_standing.Goals as goal

pub add_started-requires : goal.add_started-requires
add_started-requires g c = (omega (arith, c.requires.0.most), own_can_add c.args.beside c.add_others.ensures c.requires.2 c.loads.ensures _ c.requires.0)

pub returns : goal.returns
returns g c = own_shown c.args.beside c.add_others.ensures c.requires.2 c.loads.ensures c.args.before _ (omega arith) c.add_started.ensures
