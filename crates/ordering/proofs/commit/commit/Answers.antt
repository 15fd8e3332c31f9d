-- Refused as the order is, or with 16 for another start; otherwise the feeder has room for the charge behind the others.
use mathlib.Core.Path.{refl}
use native.Mathlib.Omega.{arith}
use Rattle.std.proofs.lemmas.Result.{err_from_is_err_and}
use Rattle.ordering.proofs.Answering.{refused_so, refused_other}
use Rattle.ordering.proofs.Taking.{has_room, taken}
use Rattle.ordering.proofs.commit.commit.Goals as goal

pub returns-in_err-place : goal.returns-in_err-place
returns-in_err-place c =
    let p = err_from_is_err_and c.from_residual.result c.from_residual.ensures.1 in
    rw (p.1, p.2) (refused_so c.args.order c.requires c.args.shown c.in_err-place.field-0.0 c.in_err-place.ensures)

pub returns-then-start-shown : goal.returns-then-start-shown
returns-then-start-shown c = refused_other c.in_ok-place.ensures c.args.shown (λ e. omega (arith, e, c.if-start-shown.true))

pub overflow_add-order : goal.overflow_add-order
overflow_add-order c = omega (arith, (has_room c.in_ok-place.ensures c.index-station-place.result).active_most)

pub push-requires : goal.push-requires
push-requires c = (has_room c.in_ok-place.ensures c.index-station-place.result).room

pub returns : goal.returns
returns c =
    let x = c.in_ok-place.ensures in
    let other = c.index-station-place.result in
    taken x other c.args.shown (omega (arith, c.if-start-shown.false)) (record { charges = search c.push.ensures.charges; columns = c.push.ensures.columns (has_room x other).columns }) refl refl
