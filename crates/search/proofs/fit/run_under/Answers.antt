-- `search::fit::run_under` meets its contract.
use native.Mathlib.Omega.{arith}
use Rattle.search.proofs.Rooms.{told_at, told_nothing}
use Rattle.search.proofs.Unders.{run_ends, run_fails}
use Rattle.search.proofs.fit.run_under.Goals as goal

pub returns-in-None : goal.returns-in-None
returns-in-None c =
    run_ends c.args.steps.now c.args.caps.now c.args.draw.line c.args.draw.rate c.args.draw.time (omega arith)
    (told_nothing _ _ _ _ _ c.first_failing.ensures c.in-None.is) (omega arith)

pub returns-in-Some : goal.returns-in-Some
returns-in-Some c =
    run_fails c.args.steps.now c.args.caps.now c.args.draw.line c.args.draw.rate c.args.draw.time (omega arith)
    (told_at _ _ _ _ _ _ c.first_failing.ensures c.in-Some.is) (omega arith)
