-- The counts in the minute and the level of what stands decide what is asked for.
use mathlib.Core.Path.{sym}
use native.Mathlib.Omega.{arith}
use lib.ListN.{get_or}
use Rattle.profile.specs.Steps.{empty_step}
use Rattle.profile.specs.Shows.{line_of}
use Rattle.profile.proofs.Levels.{level_in}
use Rattle.profile.proofs.Lines.{line_one}
use Rattle.lines.proofs.Asking.{asked_none, asked_lowers}
use Rattle.lines.proofs.rounds.unbalanced_in.Goals as goal

pub returns-then-largest-drawn : goal.returns-then-largest-drawn
returns-then-largest-drawn c =
    asked_none c.args.plan.now c.args.standing.now c.args.minute c.args.bound (get_or c.args.plan.now c.place.result (empty_step 0)) (λ l i. sym (level_in c.args.plan.now (line_of c.args.plan.now l) c.place.ensures))
    c.largest_line-line.ensures c.largest.ensures (omega (arith, c.level-drawn.ensures)) c.if-largest-drawn.true

pub returns : goal.returns
returns c =
    asked_lowers c.args.plan.now c.args.standing.now c.args.minute c.args.bound (get_or c.args.plan.now c.place.result (empty_step 0)) (λ l i. sym (level_in c.args.plan.now (line_of c.args.plan.now l) c.place.ensures))
    c.largest_line-line.ensures c.largest.ensures (omega (arith, c.level-drawn.ensures)) c.if-largest-drawn.false c.smallest.ensures (omega arith) (omega arith)

pub overflow_add-cap : goal.overflow_add-cap
overflow_add-cap c =
    omega (arith, c.smallest.ensures, level_in c.args.plan.now (line_of c.args.plan.now 1) c.place.ensures, c.requires.small 1 line_one, c.requires.bound_most)
