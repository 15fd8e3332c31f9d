use native.Mathlib.Omega.{arith}
use Rattle.blocks.proofs.Checking.{check_counted}
use Rattle.blocks.proofs.Putting.{bytes_long, byte_put, putting_more, put_all}
use Rattle.blocks.proofs.contents.put_blocks.Goals as goal

pub loop-block-preserved : goal.loop-block-preserved
loop-block-preserved c =
    let contents = c.args.contents.now in
    let block = c.loop-block.block in
    putting_more contents block (omega arith) (omega arith) _ c.loop-block.invariant c.copy_from_slice.ensures.after
    (check_counted _ _ _ (bytes_long contents block (omega arith) (omega arith)) (byte_put contents block (omega arith) (omega arith)) c.check_of.ensures)
    c.put_number.ensures

pub returns : goal.returns
returns c = put_all _ c.loop-block.invariant (omega arith)
