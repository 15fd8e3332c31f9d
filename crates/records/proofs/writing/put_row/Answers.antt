use native.Mathlib.Omega.{arith}
use Rattle.records.proofs.Begun.{row_ended}
use Rattle.records.proofs.writing.put_row.Goals as goal

pub returns : goal.returns
returns c = record { put = λ f w r. row_ended w c.requires.0 c.requires.1 (omega arith) (c.loop-q.invariant f w r) }
