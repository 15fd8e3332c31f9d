-- Wrong stations: boards that differ from the rules in one thing.
use Rattle.std.specs.Prelude.{ℕ, suc, Bool, not, cond, ◌&&◌, List, ◌++◌, map, leb, eqb, length, drop}
use Rattle.rules.specs.Basics.{keep, some}
use Rattle.rules.specs.Site.{State, site_charges}
use Rattle.rules.specs.Calls.{looked, not_held, start_or_not_held, written, boarding}
use Rattle.guarantee.specs.Past.{Gives}
use Rattle.excluded.specs.Parts.{with_boards, saying, leaving, writing, ticketing}

-- the tickets asked for are counted, and not the charges looked at
abbrev pub asked_counted : Gives
asked_counted = with_boards (λ s asked list. saying (looked (length asked)) (boarding s asked list))

-- 0 is shown for a ticket that is not held
abbrev zero_or : ℕ → ℕ
zero_or start = cond (eqb start not_held) 0 start

abbrev pub zero_for_not_held : Gives
zero_for_not_held =
    with_boards
    (λ s asked list. writing (written (map (λ t. zero_or (start_or_not_held (site_charges s) t)) asked) list) (boarding s asked list))

-- the walk stops at the first ticket that is not held: nothing is written for it, nor for those after it
abbrev reached_by : State → List ℕ → ℕ → Bool
reached_by s asked t = not (some (λ u. leb u t && eqb (start_or_not_held (site_charges s) u) not_held) asked)

abbrev pub stops_at_not_held : Gives
stops_at_not_held =
    with_boards
    (λ s asked list.
    writing (written (map (start_or_not_held (site_charges s)) (keep (reached_by s asked) asked)) list) (boarding s asked list))

-- the places behind the answers are cleared
abbrev pub later_cleared : Gives
later_cleared =
    with_boards
    (λ s asked list.
    writing (map (start_or_not_held (site_charges s)) asked ++ map (λ x. 0) (drop (length asked) list)) (boarding s asked list))

-- a board takes a ticket
abbrev pub board_takes_ticket : Gives
board_takes_ticket = with_boards (λ s asked list. leaving (ticketing (suc s.next) s) (boarding s asked list))
