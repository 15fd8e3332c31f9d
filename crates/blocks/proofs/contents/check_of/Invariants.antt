-- The sum is that of the bytes before, each of which counts for 508 × 255 at most.
use Rattle.std.proofs.Common.{◌≡◌, ◌≤◌, ◌*◌, get_or}
use Rattle.layout.specs.Image.{weighed}
use Rattle.blocks.proofs.contents.check_of.Given as goal

abbrev pub invariant-loop-place : goal.invariant-loop-place
invariant-loop-place l = (l.sum ≡ weighed (λ i. get_or l.bytes i 0) l.place) × (l.sum ≤ 129540 * l.place)
