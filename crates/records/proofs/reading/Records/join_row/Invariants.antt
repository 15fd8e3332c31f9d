-- The loop has joined a byte to each number before it.
use Rattle.std.proofs.Common.{◌≡◌, ℕ, ◌+◌, ◌*◌, ◌<◌, ◌≤◌, get_or}
use Rattle.records.specs.Contents.{record_in}
use Rattle.records.proofs.reading.Records.join_row.Given as goal

abbrev pub invariant-loop-q : goal.invariant-loop-q
invariant-loop-q l = ((i : ℕ) → i < l.q → get_or l.column i 0 ≡ 256 * get_or l.initial.column i 0 + record_in l.self.contents.now i l.j)
    × ((i : ℕ) → l.q ≤ i → get_or l.column i 0 ≡ get_or l.initial.column i 0)
    × ((i : ℕ) → i < l.q → record_in l.self.contents.now i l.j < 256)
