use mathlib.Core.Logic.{⊎_elim}
use native.Mathlib.Omega.{arith}
use Rattle.std.specs.Prelude.{Some, None}
use Rattle.profile.proofs.Lines.{balanced_tests}
use Rattle.profile.proofs.Levels.{same_or_not}
use Rattle.profile.proofs.Edited.{minute_at}
use Rattle.profile.proofs.Balances.{steps_pass, first_off, compared_off, compared_all, unbalanced_shows}
use Rattle.profile.proofs.balance.first_unbalanced.Goals as goal

pub loop-step-preserved : goal.loop-step-preserved
loop-step-preserved c =
    let near = compared_all c.loop-line.invariant (omega (arith, c.loop-line-test.false)) in
    λ j b. ⊎_elim (λ e. rw e near) (λ ne. c.loop-step.invariant j (omega (arith, b, ne))) (same_or_not j c.loop-step.step-index)

-- a step whose minute is the first out of balance

pub returns-then-bound-abs_diff-clause-first : goal.returns-then-bound-abs_diff-clause-first
returns-then-bound-abs_diff-clause-first c =
    let off = compared_off c.loop-line.invariant (omega (arith, c.loop-line.auto.line)) (omega (arith, c.loop-line-test.true)) c.count-count.ensures c.count-other.ensures c.abs_diff.ensures (omega (arith, c.if-bound-abs_diff.true)) in
    first_off c.args.bound c.requires (omega (arith, c.loop-step-test.true)) off c.loop-step.invariant (omega (arith, minute_at c.args.steps.now c.loop-step.step-index))

pub returns-then-bound-abs_diff-clause-rule : goal.returns-then-bound-abs_diff-clause-rule
returns-then-bound-abs_diff-clause-rule c =
    let off = compared_off c.loop-line.invariant (omega (arith, c.loop-line.auto.line)) (omega (arith, c.loop-line-test.true)) c.count-count.ensures c.count-other.ensures c.abs_diff.ensures (omega (arith, c.if-bound-abs_diff.true)) in
    unbalanced_shows c.args.bound (Some _)
    (first_off c.args.bound c.requires (omega (arith, c.loop-step-test.true)) off c.loop-step.invariant (omega (arith, minute_at c.args.steps.now c.loop-step.step-index))) tt

-- no step is out of balance

pub returns-after-loop-step-clause-none : goal.returns-after-loop-step-clause-none
returns-after-loop-step-clause-none c = steps_pass (balanced_tests c.args.bound) c.requires (λ j b. c.loop-step.invariant j (omega (arith, b, c.loop-step-test.false)))

pub returns-after-loop-step-clause-rule : goal.returns-after-loop-step-clause-rule
returns-after-loop-step-clause-rule c =
    unbalanced_shows c.args.bound None tt (steps_pass (balanced_tests c.args.bound) c.requires (λ j b. c.loop-step.invariant j (omega (arith, b, c.loop-step-test.false))))
