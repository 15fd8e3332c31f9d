-- For each field of demand 2 for boards a wrong station and a board for which that field is false and no other.
use Rattle.std.specs.Prelude.{ℕ, Bool, List, [], ◌∷◌, ◌++◌}
use Rattle.rules.specs.Calls.{step}
use Rattle.guarantee.specs.Past.{Gives}
use Rattle.excluded.specs.WrongBoards.{asked_counted, zero_for_not_held, stops_at_not_held, later_cleared, board_takes_ticket}
use Rattle.excluded.specs.Stations.{begun_and_waiting}
use Rattle.excluded.specs.Breaks.{Entry, agrees_by, only_of}
use Rattle.excluded.specs.FieldsTwoBoards.{Field, answer, shown, same_station, fields, place, Trial, tested}

abbrev pub Breach : Type 0
Breach = Entry Trial Field

abbrev pub agrees : Breach → Bool
agrees = agrees_by tested

-- Tickets 1 and 3 are held and 2 is not; 4 is held, and not asked for.
abbrev pub asked : List ℕ
asked = 1 ∷ 2 ∷ 3 ∷ []

-- the answer list has a place more
abbrev pub list : List ℕ
list = 7 ∷ 7 ∷ 7 ∷ 7 ∷ []

abbrev only : Gives → List Field → Breach
only gives broken = only_of place fields (record { gives = gives; station = begun_and_waiting; asked = asked; list = list }) broken

abbrev pub wrong_entries : List Breach
wrong_entries =
    only asked_counted (answer ∷ [])
    ∷ only zero_for_not_held (shown ∷ [])
    ∷ only stops_at_not_held (shown ∷ [])
    ∷ only later_cleared (shown ∷ [])
    ∷ only board_takes_ticket (same_station ∷ [])
    ∷ []

-- and the rules themselves for the same board, where nothing breaks
abbrev pub entries : List Breach
entries = wrong_entries ++ (only step [] ∷ [])
