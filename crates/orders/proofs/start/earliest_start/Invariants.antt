-- `orders::start::earliest_start` meets its contract. The invariant: no start before `start` is sound, and the profile has the charges
-- that begin before `low`.
use Prim.Native.Nat.{◌-◌}
use Rattle.charges.specs.Drawn.{loads_lent}
use Rattle.orders.proofs.Seeking.{Seeking}
use Rattle.orders.proofs.start.earliest_start.Given as goal

abbrev pub invariant-loop-until : goal.invariant-loop-until
invariant-loop-until g l = Seeking (loads_lent l.loads) l.sought.clock l.sought.limits l.sought.draw l.profile l.start l.low l.until

-- a window that shows no start ends before the last tail and an active time
abbrev pub decreases-loop-until : goal.decreases-loop-until
decreases-loop-until g l = 100002890 - l.until
