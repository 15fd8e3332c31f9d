-- The invariant: the starts at the first of the waiting places are listed.
use mathlib.Core.Path.{◌≡◌}
use lib.ListN.{take}
use Rattle.planner.proofs.Collecting.{starts_at}
use Rattle.planner.proofs.starts.waiting_starts.Given as goal

abbrev pub invariant-loop-place : goal.invariant-loop-place
invariant-loop-place l = l.starts ≡ starts_at l.by_place (take l.place-index l.place-items)
