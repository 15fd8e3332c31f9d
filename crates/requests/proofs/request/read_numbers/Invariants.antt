-- `requests::read_numbers` meets its contract: the numbers in the list, and those of the words that are left, are those of the request.
use Rattle.std.proofs.Common.{◌≡◌, length, drop}
use Rattle.text.specs.Parts.{split}
use Rattle.requests.proofs.Reading.{Reads}
use Rattle.requests.proofs.request.read_numbers.Given as goal

abbrev pub invariant-loop-word : goal.invariant-loop-word
invariant-loop-word l =
    (l.count ≡ length l.yielded)
    × Reads (drop 1 (split 32 l.text)) l.fn.takes l.initial.numbers l.numbers l.count
