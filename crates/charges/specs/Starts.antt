-- What a contract sees of a list of starts.
use Rattle.std.specs.Prelude.{ℕ, List}

-- the starts, in order
abbrev pub Starts : Type 0
Starts = List ℕ
