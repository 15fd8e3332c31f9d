-- A line of a feeder, which is one of three.
use Rattle.std.specs.Prelude.{ℕ}
use Rattle.std.specs.Coded.{le_prop}
use Rattle.rules.specs.Load.{IsLine}

-- that it is one holds in one way at most
pub line_prop : (l : ℕ) → IsProp (IsLine l)
line_prop l p q = λ i. record { low = le_prop p.low q.low i; high = le_prop p.high q.high i }
