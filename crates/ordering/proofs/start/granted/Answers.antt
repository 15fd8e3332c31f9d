-- Refused with 29 or by the feeder's numbers; otherwise with the place of its feeder and the start that was found.
use mathlib.Core.Path.{ap, ◌∙◌}
use native.Mathlib.Omega.{arith}
use Rattle.std.proofs.lemmas.Result.{err_from_is_err_and}
use Rattle.refusals.specs.Refusals.{number_of}
use Rattle.ordering.proofs.Rows.{not_there, rows, unrefused}
use Rattle.ordering.proofs.start.granted.Goals as goal

pub returns-in_err-place : goal.returns-in_err-place
returns-in_err-place c =
    let p = err_from_is_err_and c.from_residual.result c.from_residual.ensures.1 in
    let e = c.in_err-place.ensures in
    rw (p.1, p.2) (ap number_of e.1 ∙ not_there c.args.station.now c.args.order e.0)

pub returns-in_err-order_refusal : goal.returns-in_err-order_refusal
returns-in_err-order_refusal c =
    let p = err_from_is_err_and c.from_residual-in_err-order_refusal.result c.from_residual-in_err-order_refusal.ensures.1 in
    rw (p.1, p.2) (c.in_err-order_refusal.ensures ∙ rows c.args.station.now c.args.order _ c.in_ok-place.ensures _ c.requires.formed c.limits-limits.ensures)

pub start_alone-start-requires : goal.start_alone-start-requires
start_alone-start-requires c = (unrefused c.args.station.now c.args.order _ c.in_ok-place.ensures _ c.requires c.limits-limits.ensures c.in_ok-order_refusal.ensures, omega arith)

pub start_beside_others-start-requires : goal.start_beside_others-start-requires
start_beside_others-start-requires c = (unrefused c.args.station.now c.args.order _ c.in_ok-place.ensures _ c.requires c.limits-limits.ensures c.in_ok-order_refusal.ensures, omega arith)

pub returns-then-station-eq1 : goal.returns-then-station-eq1
returns-then-station-eq1 c =
    record {
      unrefused = unrefused c.args.station.now c.args.order _ c.in_ok-place.ensures _ c.requires c.limits-limits.ensures c.in_ok-order_refusal.ensures;
      names = omega arith;
      found = c.start_alone-start.ensures;
    }

pub returns-else-station-eq1 : goal.returns-else-station-eq1
returns-else-station-eq1 c =
    record {
      unrefused = unrefused c.args.station.now c.args.order _ c.in_ok-place.ensures _ c.requires c.limits-limits.ensures c.in_ok-order_refusal.ensures;
      names = omega arith;
      found = c.start_beside_others-start.ensures;
    }
