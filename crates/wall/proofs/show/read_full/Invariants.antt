-- Each turn leaves fewer places.
use Prim.Native.Nat.{◌-◌}
use lib.ListN.{length}
use Rattle.wall.proofs.show.read_full.Given as goal

abbrev pub decreases-loop-text : goal.decreases-loop-text
decreases-loop-text l = 65536 - length l.text
