use mathlib.Core.Path.{◌≡◌}
use Prim.Native.Nat.{◌+◌}
use native.Mathlib.Omega.{arith}
use Rattle.records.proofs.Begun.{row_among}
use Rattle.records.proofs.writing.put_column.Goals as goal

pub loop-byte-preserved : goal.loop-byte-preserved
loop-byte-preserved c =
    let e : c.args.field.from + c.loop-byte.byte + 1 ≡ c.args.field.from + (c.loop-byte.byte + 1) = omega arith in
    λ f w r. rw e at (c.put_row.ensures.put f (row_among c.args.field.from c.loop-byte.byte w (omega arith) (omega arith) (omega arith)) (c.loop-byte.invariant f w r))
