-- All feeders but those that are left are reported, and each has room for all that it may hold.
use Rattle.site.proofs.Reported.{ReportedBehind}
use Rattle.site.proofs.clock.report_feeders.Given as goal

abbrev pub invariant-loop-feeder : goal.invariant-loop-feeder
invariant-loop-feeder l = ReportedBehind l.station l.feeder-iterator.iter.rest.now l.target l.initial.list l.list l.reported
