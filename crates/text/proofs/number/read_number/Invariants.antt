-- `text::read_number` meets its contract. The digits that are left, after the value of those that were read, say what the whole word is.
use Rattle.std.proofs.Common.{◌≡◌, drop}
use Rattle.text.specs.Numbers.{number_of, value_from}
use Rattle.text.proofs.number.read_number.Given as goal

abbrev pub invariant-loop-byte : goal.invariant-loop-byte
invariant-loop-byte l = number_of l.word ≡ value_from l.value (drop l.byte-index l.word)
