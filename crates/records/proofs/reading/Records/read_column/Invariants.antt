-- The loop goes from the highest byte down.
use Prim.Native.Nat.{ℕ, ◌<◌}
use lib.ListN.{get_or}
use Rattle.charges.specs.Arrays.{Filled}
use Rattle.records.specs.Contents.{record_in}
use Rattle.records.proofs.Joining.{Joined}
use Rattle.records.proofs.reading.Records.read_column.Given as goal

abbrev pub invariant-loop-j : goal.invariant-loop-j
invariant-loop-j l = Filled l.self.header.held l.column × ((q : ℕ) → q < l.self.header.held → Joined (record_in l.self.contents.now q) l.field.from l.field.width l.j (get_or l.column q 0))
