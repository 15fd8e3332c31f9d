-- The loop has taken the contents of the blocks before it.
use Rattle.std.proofs.Common.{◌*◌}
use Rattle.blocks.specs.Places.{Filling}
use Rattle.blocks.specs.Contents.{taken_at}
use Rattle.blocks.proofs.contents.take_blocks.Given as goal

abbrev pub invariant-loop-block : goal.invariant-loop-block
invariant-loop-block l = Filling (taken_at l.image) 4572 (508 * l.block) l.contents
