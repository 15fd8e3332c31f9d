use mathlib.Core.Path.{◌≡◌}
use native.Mathlib.Omega.{arith}
use Rattle.std.specs.Prelude.{ℕ, Option, None, Err}
use Rattle.std.specs.Option.{ok_or}
use Rattle.std.proofs.lemmas.Result.{err_from_is_err_and}
use Rattle.planner.specs.declared.cause.Cause.{Cause}
use Rattle.planner.specs.declared.cause.Cause.TheVariants.{NoStart}
use Rattle.planner.proofs.Showing.{listed_profiled}
use Rattle.planner.proofs.Queueing.{queue_latest_start}
use Rattle.planner.proofs.Growing.{add_other}
use Rattle.planner.proofs.Plans.{placed_start, placed_end, next_can_start, next_alone, next_stuck, next_can_add, next_placed}
use Rattle.planner.proofs.Proposing.{latest_none, latest_starts}
use Rattle.planner.proofs.latest.latest.Goals as goal

-- where there is no start, that is the cause
same_cause : {start : Option ℕ} {cause : Cause} → start ≡ None → Err cause ≡ ok_or start NoStart → cause ≡ NoStart
same_cause none e = cc

pub add_standing-requires : goal.add_standing-requires
add_standing-requires g c = (omega (arith, c.requires.0.most), (c.requires.0, c.new-profile.ensures, listed_profiled c.requires.1.listed))

pub loop-place-init : goal.loop-place-init
loop-place-init g c = placed_start c.requires.1 c.add_standing.ensures

pub earliest-requires : goal.earliest-requires
earliest-requires g c =
    let u = queue_latest_start c.requires.1.listed c.as_slice-place-items.ensures.0 c.by_latest_start-queue.ensures in
    rw c.steps.ensures
    (next_can_start c.requires.1 u c.loop-place.invariant c.requires.0 c.loop-place-test.true c.draw_at-draw.ensures, next_alone c.requires.1 u c.loop-place.invariant c.requires.0 c.loop-place-test.true c.draw_at-draw.ensures)

pub returns-in_err-start : goal.returns-in_err-start
returns-in_err-start g c =
    let u = queue_latest_start c.requires.1.listed c.as_slice-place-items.ensures.0 c.by_latest_start-queue.ensures in
    let p = err_from_is_err_and c.from_residual.result c.from_residual.ensures.1 in
    let none : c.earliest.result ≡ None = c.in_err-start.ensures.ok_part in
    rw (p.1, p.2, same_cause none c.in_err-start.ensures.value)
    (latest_none _ u
    (next_stuck c.requires.1 u c.loop-place.invariant c.requires.0 c.loop-place-test.true c.draw_at-draw.ensures (rw c.steps.ensures at c.earliest.ensures) none))

pub add-requires : goal.add-requires
add-requires g c =
    let u = queue_latest_start c.requires.1.listed c.as_slice-place-items.ensures.0 c.by_latest_start-queue.ensures in
    let x = next_can_add c.requires.1 u c.loop-place.invariant c.requires.0 c.loop-place-test.true c.draw_at-draw.ensures (rw c.steps.ensures at c.earliest.ensures) (rw c.in_ok-start.was at c.ok_or.ensures.ok_part) in
    (omega (arith, c.requires.0.most), add_other x (omega (arith, x.is_rate.low)) (omega (arith, x.is_rate.high)) (omega (arith, x.ends_fit)))

pub loop-place-preserved : goal.loop-place-preserved
loop-place-preserved g c =
    let u = queue_latest_start c.requires.1.listed c.as_slice-place-items.ensures.0 c.by_latest_start-queue.ensures in
    next_placed c.requires.1 u c.loop-place.invariant c.requires.0 c.loop-place-test.true c.draw_at-draw.ensures (rw c.steps.ensures at c.earliest.ensures) (rw c.in_ok-start.was at c.ok_or.ensures.ok_part) c.add.ensures

pub returns : goal.returns
returns g c =
    let u = queue_latest_start c.requires.1.listed c.as_slice-place-items.ensures.0 c.by_latest_start-queue.ensures in
    latest_starts _ u (placed_end c.requires.1 u c.loop-place.invariant (omega arith)) c.waiting_starts.ensures
