-- No other charge has the ticket found: its start decides what the rules ask of all charges, and its feeder what has to be sound.
use native.Mathlib.Omega.{arith}
use Rattle.std.proofs.Common.{rules}
use Rattle.std.proofs.lemmas.Result.{err_from_is_err_and}
use Rattle.station.specs.View.{feeder_at}
use Rattle.site.proofs.Enquiring.{place_held}
use Rattle.site.proofs.Withdrawn.{holder_none, holder_some, rest_profiled, withdraw_nobody, withdraw_begun, withdraw_unsound, withdraw_taken}
use Rattle.site.proofs.withdraw.withdraw.Goals as goal

pub returns-in_err-holder : goal.returns-in_err-holder
returns-in_err-holder c =
    let p = err_from_is_err_and c.from_residual.result c.from_residual.ensures.1 in
    rw (p.1, p.2) (withdraw_nobody c.args.station.now c.args.ticket c.requires (holder_none c.args.station.now c.args.ticket c.holder.ensures c.in_err-holder.ensures.ok_part) (search rules))

pub offset_bounds-charges-holder : goal.offset_bounds-charges-holder
offset_bounds-charges-holder c =
    let o = holder_some c.args.station.now c.args.ticket c.holder.ensures c.in_ok-holder.ensures.ok_part in
    omega (arith, place_held c.args.station.now c.args.ticket o, (feeder_at c.args.station.now c.in_ok-holder.holder.feeder).charges.few)

pub bounds-charges-holder : goal.bounds-charges-holder
bounds-charges-holder c =
    let o = holder_some c.args.station.now c.args.ticket c.holder.ensures c.in_ok-holder.ensures.ok_part in
    omega (arith, place_held c.args.station.now c.args.ticket o, (feeder_at c.args.station.now c.in_ok-holder.holder.feeder).charges.few)

pub returns-then-charges-holder : goal.returns-then-charges-holder
returns-then-charges-holder c =
    let o = holder_some c.args.station.now c.args.ticket c.holder.ensures c.in_ok-holder.ensures.ok_part in
    withdraw_begun c.args.station.now c.args.ticket c.requires o c.index-station-holder.result (omega (arith, c.if-charges-holder.true)) (search)

pub surroundings-surroundings-requires : goal.surroundings-surroundings-requires
surroundings-surroundings-requires c = (c.requires, (holder_some c.args.station.now c.args.ticket c.holder.ensures c.in_ok-holder.ensures.ok_part).inside)

pub returns-then-not-plan_sound : goal.returns-then-not-plan_sound
returns-then-not-plan_sound c =
    let o = holder_some c.args.station.now c.args.ticket c.holder.ensures c.in_ok-holder.ensures.ok_part in
    withdraw_unsound c.args.station.now c.args.ticket c.requires o c.index-station-holder.result {kept = c.without-kept.result} c.without-kept.ensures (omega (arith, c.if-charges-holder.false))
    {b = c.lent.result} c.surroundings-surroundings.ensures (search rules) c.lent.ensures c.plan_sound.ensures c.if-not-plan_sound.true (search)

pub returns : goal.returns
returns c =
    let o = holder_some c.args.station.now c.args.ticket c.holder.ensures c.in_ok-holder.ensures.ok_part in
    withdraw_taken c.args.station.now c.args.ticket c.requires o c.index-station-holder.result {kept = c.without-kept.result} c.without-kept.ensures (omega (arith, c.if-charges-holder.false))
    {b = c.lent.result} c.surroundings-surroundings.ensures (search rules) c.lent.ensures c.plan_sound.ensures _ c.if-not-plan_sound.false

pub plan_sound-requires : goal.plan_sound-requires
plan_sound-requires c =
    let o = holder_some c.args.station.now c.args.ticket c.holder.ensures c.in_ok-holder.ensures.ok_part in
    rest_profiled c.args.station.now c.args.ticket c.requires o c.index-station-holder.result c.without-kept.ensures
