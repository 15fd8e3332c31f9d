use native.Mathlib.Omega.{arith}
use Rattle.profile.specs.Shows.{line_of}
use Rattle.profile.proofs.Levels.{level_in}
use Rattle.profile.proofs.balance.level.Goals as goal

pub returns : goal.returns
returns c =
    let p = c.args.steps.now in
    omega (arith, c.count.ensures, level_in p (line_of p c.args.line) c.place-i.ensures)
