-- As many starts as charges wait are tested whole; any other number is refusal 10.
use mathlib.Core.Path.{refl, ◌∙◌}
use native.Mathlib.Omega.{arith}
use Rattle.std.proofs.lemmas.Result.{err_from_is_err_and}
use Rattle.rules.specs.Calls.{offer}
use Rattle.station.proofs.Views.{feeder_read}
use Rattle.planning.proofs.Ready.{can_test, own_read, own_columns, ready}
use Rattle.planning.proofs.Refusals.{gives_no_feeder, offer_refused}
use Rattle.planning.proofs.Replanning.{offer_tested}
use Rattle.planning.proofs.offer.offer.Goals as goal

pub returns-in_err-place : goal.returns-in_err-place
returns-in_err-place c =
    let p = err_from_is_err_and c.from_residual.result c.from_residual.ensures.1 in
    rw (p.1, p.2) (gives_no_feeder c.args.number (offer c.args.number c.args.starts.now) c.requires c.in_err-place.ensures.0 c.in_err-place.ensures.1 refl)

pub returns-then-starts-waiting_count : goal.returns-then-starts-waiting_count
returns-then-starts-waiting_count c =
    offer_refused _ c.in_ok-place.ensures.0 c.in_ok-place.ensures.1 _ (rw (feeder_read _ c.requires.formed c.in_ok-place.ensures.1 c.index-station-place.result) at c.waiting_count.ensures.0) (omega arith) c.requires c.if-starts-waiting_count.true

pub tested-requires : goal.tested-requires
tested-requires c =
    let w = can_test c.requires c.in_ok-place.ensures.1 c.surroundings-surroundings.ensures c.lent-beside.ensures refl in
    (own_columns w _, (ready w _).listed, rw (w.beside.clock, own_read w _) (c.if-starts-waiting_count.false ∙ (rw (own_read w c.index-station-place.result) at c.waiting_count.ensures.0)))

pub returns : goal.returns
returns c =
    offer_tested c.in_ok-place.ensures.0 (can_test c.requires c.in_ok-place.ensures.1 c.surroundings-surroundings.ensures c.lent-beside.ensures refl) _
    (rw (feeder_read _ c.requires.formed c.in_ok-place.ensures.1 c.index-station-place.result) at c.waiting_count.ensures.0) c.if-starts-waiting_count.false (omega arith) c.tested.ensures
