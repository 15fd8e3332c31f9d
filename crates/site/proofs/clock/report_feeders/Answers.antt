use native.Mathlib.Omega.{arith}
use Rattle.site.proofs.FromTheLast.{last}
use Rattle.site.proofs.Reported.{reported_none, reported_all, last_listed, feeder_can, reported_on}
use borrow.Author.Rules.{rules}
use Rattle.site.proofs.clock.report_feeders.Goals as goal

pub loop-feeder-init : goal.loop-feeder-init
loop-feeder-init c = reported_none c.args.station.now _ _ c.requires.0.formed (search rules) (omega arith)

pub by_start-passed-requires : goal.by_start-passed-requires
by_start-passed-requires c =
    last_listed c.args.station.now c.requires.0 (last c.in-Some.feeder.now c.next.new.self.iter.rest.now c.loop-feeder.invariant.left c.in-Some.ensures.steps)

pub report-requires : goal.report-requires
report-requires c =
    feeder_can c.args.station.now c.requires.0 (last c.in-Some.feeder.now c.next.new.self.iter.rest.now c.loop-feeder.invariant.left c.in-Some.ensures.steps) c.requires.1 c.loop-feeder.invariant
    {is = c.by_start-passed.result} (search c.by_start-passed.ensures)

pub loop-feeder-preserved : goal.loop-feeder-preserved
loop-feeder-preserved c =
    reported_on c.args.station.now c.requires.0 (last c.in-Some.feeder.now c.next.new.self.iter.rest.now c.loop-feeder.invariant.left c.in-Some.ensures.steps) c.requires.1 c.loop-feeder.invariant
    {is = c.by_start-passed.result} (search c.by_start-passed.ensures)
    (search c.report.ensures)
    (search rules)
    (omega (arith, c.len-reported.ensures))

pub returns : goal.returns
returns c = reported_all c.loop-feeder.invariant c.in-None.ensures.steps.0
