-- All that the other feeders draw is put into a profile of nothing.
use native.Mathlib.Omega.{arith}
use Rattle.planner.proofs.StandingLoads.{others_can_add, others_shown}
use Rattle.planner.proofs.standing.add_others.Goals as goal

pub add_started-requires : goal.add_started-requires
add_started-requires g c = (omega (arith, c.requires.0.most), others_can_add c.args.beside c.requires.0 c.requires.1)

pub returns : goal.returns
returns g c = others_shown c.args.beside c.requires.1 c.add_started.ensures
