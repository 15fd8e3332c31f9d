-- The loop has put the blocks before it.
use Rattle.std.proofs.Common.{◌*◌}
use Rattle.blocks.specs.Places.{Filling}
use Rattle.blocks.specs.Contents.{laid_at}
use Rattle.blocks.proofs.contents.put_blocks.Given as goal

abbrev pub invariant-loop-block : goal.invariant-loop-block
invariant-loop-block l = Filling (laid_at l.contents) 4608 (512 * l.block) l.image
