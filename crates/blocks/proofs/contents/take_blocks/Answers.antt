use native.Mathlib.Omega.{arith}
use Rattle.blocks.proofs.Taking.{taking_more, taken_all}
use Rattle.blocks.proofs.contents.take_blocks.Goals as goal

pub loop-block-preserved : goal.loop-block-preserved
loop-block-preserved c =
    taking_more c.args.image.now c.loop-block.block c.told-image (omega arith) _ c.loop-block.invariant c.copy_from_slice.ensures.after

pub returns : goal.returns
returns c = taken_all _ c.loop-block.invariant (omega arith)
