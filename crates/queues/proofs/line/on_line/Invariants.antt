-- The invariant: those of the places so far that are on the line are collected.
use mathlib.Core.Path.{◌≡◌}
use Prim.Native.Nat.{◌≤◌}
use lib.ListN.{length, take}
use Rattle.rules.specs.Basics.{keep}
use Rattle.queues.specs.Queues.{is_on_line}
use Rattle.queues.proofs.line.on_line.Given as goal

abbrev pub invariant-loop-place : goal.invariant-loop-place
invariant-loop-place l =
    (length l.places ≤ l.place-index) × (l.places ≡ keep (is_on_line l.lines l.line) (take l.place-index l.place-items))
