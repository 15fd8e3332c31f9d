-- `search::start::unsound_minutes` meets its contract: by the first step that is not sound, and the last.
use Prim.Native.Nat.{◌+◌}
use native.Mathlib.Omega.{arith}
use borrow.Author.Tests.{tests}
use Rattle.std.proofs.Common.{rules}
use Rattle.profile.specs.Steps.{empty_step}
use Rattle.profile.proofs.Edited.{minute_at}
use Rattle.search.proofs.Places.{first_place, last_place}
use Rattle.search.proofs.Unsounds.{is_sound, unsound_nowhere, unsound_below, unsound_from}
use Rattle.search.proofs.start.unsound_minutes.Goals as goal

pub returns-in_err-first : goal.returns-in_err-first
returns-in_err-first c =
    let first = first_place _ (is_sound c.args.limits) (λ x b q k. search (rules, tests)) _ c.position.result (empty_step 0) c.args.steps.now (cc) c.position.ensures.ran in
    let none = rw c.in_err-first.was at first in
    rw c.from_residual.ensures (unsound_nowhere _ c.requires.0 none)

pub bounds-steps-last : goal.bounds-steps-last
bounds-steps-last c =
    let last = last_place _ (is_sound c.args.limits) (λ x b q k. search (rules, tests)) _ c.rposition.result (empty_step 0) c.args.steps.now (cc) c.rposition.ensures.ran in
    unsound_below _ c.requires.0 c.requires.1 (rw c.in_ok-last.was at last)

pub returns : goal.returns
returns c =
    let first = first_place _ (is_sound c.args.limits) (λ x b q k. search (rules, tests)) _ c.position.result (empty_step 0) c.args.steps.now (cc) c.position.ensures.ran in
    let last = last_place _ (is_sound c.args.limits) (λ x b q k. search (rules, tests)) _ c.rposition.result (empty_step 0) c.args.steps.now (cc) c.rposition.ensures.ran in
    unsound_from _ c.requires.0 c.requires.1 (rw c.in_ok-first.was at first) (rw c.in_ok-last.was at last)
    (omega (arith, minute_at c.args.steps.now c.in_ok-first.first)) (omega (arith, minute_at c.args.steps.now (c.in_ok-last.last + 1)))
