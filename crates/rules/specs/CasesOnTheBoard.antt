-- Cases of N10, the board over the exit, each worked out by hand: tickets held and not held, how many charges were looked at, and
-- both refusals at their edges.
use Rattle.std.specs.Prelude.{ℕ, List, [], ◌∷◌, ◌++◌, replicate}
use Rattle.rules.specs.Basics.{tabulate}
use Rattle.rules.specs.Calls.{refused, committed, moved, looked, not_held, Call, move, board}
use Rattle.rules.specs.Entry.{commit, Given, gives, gives_with, Case, lent_list, starts_from, reports, case, case_with_tail}

-- Tickets 1, 2 and 4 on line 1 one behind the other, from 0, 3 and 13 on, and ticket 3 on line 2. At clock 4 tickets 1 and 3 are
-- dropped, 2 is charging and 4 waits.
abbrev orders_shown : List Call
orders_shown =
    commit 1 3 60 1 0 ∷ commit 1 10 60 1 3 ∷ commit 2 1 60 1 0 ∷ commit 1 5 60 1 13 ∷ move 4 lent_list ∷ []

abbrev given_shown : List Given
given_shown = starts_from 1 (0 ∷ 3 ∷ 0 ∷ 13 ∷ []) ++ (reports (moved 3 2) (1 ∷ 0 ∷ 3 ∷ 0 ∷ 2 ∷ 3 ∷ []) ∷ [])

-- a board on that station, with an answer list of this many places with a 7 in each
abbrev asks : List ℕ → ℕ → Call
asks asked n = board asked (replicate n 7)

-- the k tickets from 1 on
abbrev tickets : ℕ → List ℕ
tickets k = tabulate (λ i. i) k 1

abbrev pub cases_on_the_board : List Case
cases_on_the_board =
    -- A ticket that is not held between two that are, and the places after them kept. 2 is looked at for 3, and 4 is not; ticket 0 is
    -- not held, nor is a huge one, for which all are looked at. For ticket 1 none is. An empty list is no refusal.
    case 1 100 1
    (orders_shown
    ++ (asks (2 ∷ 3 ∷ 4 ∷ []) 5
    ∷ asks (0 ∷ 2 ∷ 3 ∷ []) 3
    ∷ asks (4 ∷ 4294967295 ∷ []) 2
    ∷ asks (1 ∷ []) 1
    ∷ asks (0 ∷ []) 1
    ∷ asks [] 2
    ∷ asks [] 0
    ∷ []))
    (given_shown
    ++ (gives_with (looked 2) (3 ∷ not_held ∷ 13 ∷ 7 ∷ 7 ∷ [])
    ∷ gives_with (looked 1) (not_held ∷ 3 ∷ not_held ∷ [])
    ∷ gives_with (looked 2) (13 ∷ 4294967295 ∷ [])
    ∷ gives_with (looked 0) (4294967295 ∷ [])
    ∷ gives_with (looked 0) (4294967295 ∷ [])
    ∷ gives_with (looked 0) (7 ∷ 7 ∷ [])
    ∷ gives (looked 0)
    ∷ []))
    -- Equal neighbours and falling ones are refused with 23, also where the answer list is too short; one place too few with 24.
    -- 180 tickets are taken, 181 are not.
    ∷ case 1 100 1
    (orders_shown
    ++ (asks (2 ∷ 2 ∷ []) 2
    ∷ asks (4 ∷ 2 ∷ []) 2
    ∷ asks (2 ∷ 4 ∷ 3 ∷ []) 0
    ∷ asks (2 ∷ 4 ∷ []) 1
    ∷ asks (2 ∷ 4 ∷ []) 2
    ∷ asks (tickets 180) 180
    ∷ asks (tickets 180) 179
    ∷ asks (tickets 181) 181
    ∷ asks (tickets 181) 180
    ∷ []))
    (given_shown
    ++ (gives_with (refused 23) (7 ∷ 7 ∷ [])
    ∷ gives_with (refused 23) (7 ∷ 7 ∷ [])
    ∷ gives (refused 23)
    ∷ gives_with (refused 24) (7 ∷ [])
    ∷ gives_with (looked 2) (3 ∷ 13 ∷ [])
    ∷ gives_with (looked 2) (not_held ∷ 3 ∷ not_held ∷ 13 ∷ replicate 176 not_held)
    ∷ gives_with (refused 24) (replicate 179 7)
    ∷ gives_with (refused 23) (replicate 181 7)
    ∷ gives_with (refused 23) (replicate 180 7)
    ∷ []))
    -- In its tail a charge is held, and shown with its start; the minute after it is not.
    ∷ case_with_tail 1 100 3 1
    (commit 1 10 60 1 0 ∷ move 12 lent_list ∷ asks (1 ∷ []) 1 ∷ move 13 lent_list ∷ asks (1 ∷ []) 1 ∷ [])
    (gives (committed 1 0)
    ∷ reports (moved 1 0) (1 ∷ 0 ∷ [])
    ∷ gives_with (looked 1) (0 ∷ [])
    ∷ reports (moved 0 1) []
    ∷ gives_with (looked 0) (not_held ∷ [])
    ∷ [])
    ∷ []
