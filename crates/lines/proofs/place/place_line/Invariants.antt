-- The invariant: whatever the caps are, so many charges of the line are placed as the rules place them.
use lib.ListN.{length}
use Rattle.rules.specs.Search.{Caps}
use Rattle.search.specs.Caps.{CapsShown}
use Rattle.lines.proofs.LinePlans.{LineSoFar}
use Rattle.lines.proofs.place.place_line.Given as goal

abbrev pub invariant-loop-next : goal.invariant-loop-next
invariant-loop-next g l =
    (cap : Caps) → CapsShown l.task.caps.now l.task.beside.limits.site cap → LineSoFar cap l.task.beside l.task.charges.now l.line l.places l.profile l.by_place l.times l.from

abbrev pub decreases-loop-next : goal.decreases-loop-next
decreases-loop-next g l = length l.places
