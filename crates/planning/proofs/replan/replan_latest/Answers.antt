-- What replan by latest start proposes is tested, with no round.
use mathlib.Core.Path.{refl}
use native.Mathlib.Omega.{arith}
use Rattle.std.proofs.lemmas.Result.{err_from_is_err_and}
use Rattle.rules.specs.Calls.{replan_latest}
use Rattle.planning.proofs.Ready.{can_test, own_columns, ready}
use Rattle.planning.proofs.Refusals.{gives_no_feeder}
use Rattle.planning.proofs.Replanning.{enough, latest_tested}
use Rattle.planning.proofs.replan.replan_latest.Goals as goal

pub returns-in_err-place : goal.returns-in_err-place
returns-in_err-place c =
    let p = err_from_is_err_and c.from_residual.result c.from_residual.ensures.1 in
    rw (p.1, p.2) (gives_no_feeder c.args.number (replan_latest c.args.number) c.requires c.in_err-place.ensures.0 c.in_err-place.ensures.1 refl)

pub latest-proposed-requires : goal.latest-proposed-requires
latest-proposed-requires c = ready (can_test c.requires c.in_ok-place.ensures.1 c.surroundings-surroundings.ensures c.lent-beside.ensures refl) _

pub replanned-requires : goal.replanned-requires
replanned-requires c =
    let w = can_test c.requires c.in_ok-place.ensures.1 c.surroundings-surroundings.ensures c.lent-beside.ensures refl in
    (own_columns w _, (ready w _).listed, enough _ _ c.latest-proposed.ensures.many)

pub returns : goal.returns
returns c =
    latest_tested c.in_ok-place.ensures.0 (can_test c.requires c.in_ok-place.ensures.1 c.surroundings-surroundings.ensures c.lent-beside.ensures refl) _
    c.replanned.ensures c.latest-proposed.ensures (search) (search) (omega arith)
