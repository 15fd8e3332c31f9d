-- For each field of demand 2 for boards there is a station that breaks it for one board, and no other field.
use mathlib.Core.Path.{refl}
use Rattle.rules.specs.Calls.{enquiring, boarding}
use Rattle.excluded.specs.FieldsTwoBoards.{Field, Trial, Holds, tested}
use Rattle.excluded.specs.BreaksTwoBoards.{entries}
use Rattle.excluded.specs.LawsOfEntries.{EntriesOfBoardsAgree, ExactlyTheseOfBoards, EachAloneOfBoards}
use Rattle.excluded.proofs.Breaks.{each_exactly}
use Rattle.excluded.proofs.TestsTwoBoards.{boards_tested}

-- the checker computes every test
pub entries_hold : EntriesOfBoardsAgree
unfolding enquiring boarding
entries_hold = refl

-- so each wrong station breaks the field that its entry names, and no other, and the rules break none
pub exactly_two_boards : ExactlyTheseOfBoards
exactly_two_boards = each_exactly Trial Field Holds tested boards_tested entries entries_hold

pub alone_two_boards : EachAloneOfBoards
alone_two_boards = refl
