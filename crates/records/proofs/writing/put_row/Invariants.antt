-- The loop has put one byte of each number before it.
use Prim.Native.Nat.{ℕ}
use Rattle.records.specs.Contents.{record_place}
use Rattle.records.specs.Rows.{Begun, RowOf}
use Rattle.records.proofs.writing.put_row.Given as goal

abbrev pub invariant-loop-q : goal.invariant-loop-q
invariant-loop-q l = (f : ℕ → ℕ) → RowOf f l.column l.j l.byte → Begun f (record_place 0 l.j) l.initial.contents → Begun f (record_place l.q l.j) l.contents
