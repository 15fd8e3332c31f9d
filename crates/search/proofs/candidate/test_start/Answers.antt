-- `search::candidate::test_start` meets its contract: by the first failing minute that the walk tells, if it tells one.
use native.Mathlib.Omega.{arith}
use Rattle.std.proofs.Common.{rules}
use Rattle.search.specs.Rooms.{SmallStep}
use Rattle.search.specs.Candidates.{fits_in}
use Rattle.search.proofs.Within.{step_small}
use Rattle.search.proofs.Candidates.{step_told, told_first, told_each, first_shows, each_shows}
use Rattle.search.proofs.candidate.test_start.Goals as goal

pub first_failing_by-failing-requires-clause-callable : goal.first_failing_by-failing-requires-clause-callable
first_failing_by-failing-requires-clause-callable c =
    λ i held t u. let small : SmallStep held = rw u.item (step_small c.requires.formed c.requires.small i u.inside.below) in search rules

-- none of the minutes fails

pub returns-in_default-clause-fits : goal.returns-in_default-clause-fits
returns-in_default-clause-fits c =
    let told = c.first_failing_by-failing.ensures (fits_in c.args.steps.now c.args.limits c.args.draw) (λ i held t u r e. search (rules, step_told)) in
    told_each c.args.steps.now c.args.limits c.args.draw (omega arith) c.in_default.is told

pub returns-in_default-clause-rule : goal.returns-in_default-clause-rule
returns-in_default-clause-rule c =
    let told = c.first_failing_by-failing.ensures (fits_in c.args.steps.now c.args.limits c.args.draw) (λ i held t u r e. search (rules, step_told)) in
    each_shows c.args.limits c.args.draw (told_each c.args.steps.now c.args.limits c.args.draw (omega arith) c.in_default.is told) (omega arith)

-- one does

pub overflow_sub-looked : goal.overflow_sub-looked
overflow_sub-looked c =
    let told = c.first_failing_by-failing.ensures (fits_in c.args.steps.now c.args.limits c.args.draw) (λ i held t u r e. search (rules, step_told)) in
    let x = told_first c.args.steps.now c.args.limits c.args.draw (omega arith) c.in-Some.is told in omega (arith, x.low)

pub overflow_add-looked : goal.overflow_add-looked
overflow_add-looked c =
    let told = c.first_failing_by-failing.ensures (fits_in c.args.steps.now c.args.limits c.args.draw) (λ i held t u r e. search (rules, step_told)) in
    let x = told_first c.args.steps.now c.args.limits c.args.draw (omega arith) c.in-Some.is told in omega (arith, x.high)

pub returns-clause-looked : goal.returns-clause-looked
returns-clause-looked c = omega arith

pub returns-clause-fails : goal.returns-clause-fails
returns-clause-fails c =
    let told = c.first_failing_by-failing.ensures (fits_in c.args.steps.now c.args.limits c.args.draw) (λ i held t u r e. search (rules, step_told)) in
    told_first c.args.steps.now c.args.limits c.args.draw (omega arith) c.in-Some.is told

pub returns-clause-within : goal.returns-clause-within
returns-clause-within c =
    let told = c.first_failing_by-failing.ensures (fits_in c.args.steps.now c.args.limits c.args.draw) (λ i held t u r e. search (rules, step_told)) in
    let x = told_first c.args.steps.now c.args.limits c.args.draw (omega arith) c.in-Some.is told in λ some. (omega arith, omega (arith, x.low, x.high))

pub returns-clause-rule : goal.returns-clause-rule
returns-clause-rule c =
    let told = c.first_failing_by-failing.ensures (fits_in c.args.steps.now c.args.limits c.args.draw) (λ i held t u r e. search (rules, step_told)) in
    first_shows c.args.limits c.args.draw c.in-Some.failing
    (told_first c.args.steps.now c.args.limits c.args.draw (omega arith) c.in-Some.is told) (omega arith)
