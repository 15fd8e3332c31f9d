-- `text::Text::print_list` meets its contract: number by number, and those that are left need no more room than the whole list leaves.
use Rattle.std.proofs.Common.{◌≡◌, ◌++◌, ◌+◌, ◌-◌, ◌*◌, ◌≤◌, length, drop}
use Rattle.text.specs.Printed.{listed}
use Rattle.text.proofs.Text.print_list.Given as goal

abbrev pub invariant-loop-n : goal.invariant-loop-n
invariant-loop-n g l =
    (l.self ++ listed (drop l.n-index l.list) ≡ l.initial.self ++ listed l.list)
    × (length l.self + 21 * (length l.list - l.n-index) ≤ length l.initial.self + 21 * length l.list)
