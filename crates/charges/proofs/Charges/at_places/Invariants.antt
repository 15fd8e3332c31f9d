-- The invariant: the charges at the places so far are held.
use mathlib.Core.List.{map}
use lib.ListN.{take}
use Rattle.charges.specs.Arrays.{charge_at, Holds}
use Rattle.charges.proofs.Charges.at_places.Given as goal

abbrev pub invariant-loop-place : goal.invariant-loop-place
invariant-loop-place l = Holds (map (charge_at l.self) (take l.place-index l.place-items)) l.charges
