-- `search::start::earliest` meets its contract.
use native.Mathlib.Omega.{arith}
use Rattle.std.proofs.Common.{rules}
use Rattle.profile.proofs.Edited.{minute_at}
use Rattle.search.proofs.Starts.{told_unsound, start_anywhere, start_covers, start_late}
use Rattle.search.proofs.start.earliest.Goals as goal

pub returns-in_default : goal.returns-in_default
returns-in_default c = start_anywhere _ c.unsound_minutes.ensures c.in_default.is (omega (arith, minute_at c.args.steps.now 0)) c.fitting_from-s.ensures

pub returns : goal.returns
returns c =
    let u = told_unsound c.unsound_minutes.ensures c.in-Some.is in
    let m = c.fitting_from-s-2.ensures in
    search (
      rules,
      start_covers _ u (omega (arith, c.reaching-start.ensures, minute_at c.args.steps.now 0)) m.0 m.1,
      start_late _ u (omega (arith, c.reaching-start.ensures, minute_at c.args.steps.now 0)) m.0,
    )
