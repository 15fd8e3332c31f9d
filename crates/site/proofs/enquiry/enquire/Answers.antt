-- The feeder that holds the ticket tells of it what the site does.
use native.Mathlib.Omega.{arith}
use Rattle.station.proofs.Views.{feeder_read}
use Rattle.station.specs.View.{feeder_at}
use Rattle.site.proofs.Enquiring.{enquired_nobody, enquired_holder, holder_listed, place_held}
use Rattle.site.proofs.enquiry.enquire.Goals as goal

pub returns-in_default : goal.returns-in_default
returns-in_default c = enquired_nobody c.args.station.now c.args.ticket (rw c.in_default.is at c.holder.ensures)

pub at-requires : goal.at-requires
at-requires c =
    let s = c.args.station.now in
    let o = c.in-Some.ensures in
    omega (arith, place_held s c.args.ticket o, (feeder_at s c.in-Some.holder.feeder).charges.few)

pub of-requires : goal.of-requires
of-requires c =
    let s = c.args.station.now in
    let o = c.in-Some.ensures in
    rw (c.at.ensures, feeder_read s c.requires.formed o.inside c.index-station-holder.result)
    ((holder_listed s c.args.ticket o c.requires).small _ (place_held s c.args.ticket o))

pub returns : goal.returns
returns c =
    let s = c.args.station.now in
    let o = c.in-Some.ensures in
    enquired_holder s c.args.ticket o (rw (feeder_read s c.requires.formed o.inside c.index-station-holder.result) at c.at.ensures)
    (search c.of.ensures)
