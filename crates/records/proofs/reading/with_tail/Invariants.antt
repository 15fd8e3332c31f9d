-- The loop has added the tail to the times before it.
use Rattle.std.proofs.Common.{◌≡◌, ℕ, ◌+◌, ◌<◌, get_or}
use Rattle.charges.specs.Arrays.{Filled}
use Rattle.records.proofs.reading.with_tail.Given as goal

abbrev pub invariant-loop-q : goal.invariant-loop-q
invariant-loop-q l = Filled l.q l.active_times × ((i : ℕ) → i < l.q → get_or l.active_times i 0 ≡ get_or l.times i 0 + l.tail)
