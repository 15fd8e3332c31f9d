-- The loop has put the rows of the bytes before it.
use Prim.Native.Nat.{ℕ, ◌+◌, ◌<◌}
use Rattle.records.specs.Contents.{record_place}
use Rattle.records.specs.Rows.{Begun, RowOf}
use Rattle.records.proofs.writing.put_column.Given as goal

abbrev pub invariant-loop-byte : goal.invariant-loop-byte
invariant-loop-byte l = (f : ℕ → ℕ)
    → ((k : ℕ) → k < l.field.width → RowOf f l.column (l.field.from + k) k)
    → Begun f (record_place 0 l.field.from) l.initial.contents
    → Begun f (record_place 0 (l.field.from + l.byte)) l.contents
