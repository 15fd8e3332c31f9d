-- Cases of N4, points with two rates, each worked out by hand: what a charge of rate 2 leaves room for, the refusals of a rate,
-- and a cap that falls by two.
use Rattle.std.specs.Prelude.{List, [], ◌∷◌, ◌++◌, map}
use Rattle.rules.specs.Calls.{refused, previewed, committed, moved, planned, waiting, charging, Call, move, enquire}
use Rattle.rules.specs.Entry.{preview, commit, offer, replan_latest, replan_lines, Given, gives, gives_with, Case, lent_list, starts_from, reports, case}

-- Open 4, 50: D is 2. Tickets 1 and 2 are of rate 2, ticket 3 of rate 1. Beside empty lines line 1 has room for 2, so each
-- waits for the end of the one before; ticket 3 ends at 30 and is late by 5.
abbrev orders_of_two_rates : List Call
orders_of_two_rates = commit 1 10 60 2 0 ∷ commit 1 10 60 2 10 ∷ commit 1 10 25 1 20 ∷ []

-- Ticket 3 goes first: starts 10, 20, 0. By latest start that is for its d − p of 15; by lines n is 3 and P is 30, so that its k is
-- 11520 / 30 = 384 and the others' 1280, beyond the table. A taken plan keeps the rates.
abbrev exchanged : List Given
exchanged = map gives (waiting 10 2 ∷ waiting 20 2 ∷ waiting 0 1 ∷ [])

abbrev pub cases_of_two_rates : List Case
cases_of_two_rates =
    -- The limit: on one line rates 2 and 1 do not overlap where N is 2, in either order. Line 2 is free.
    case 2 100 2
    (commit 1 10 60 2 0 ∷ commit 1 10 60 1 10 ∷ commit 1 10 60 2 20 ∷ commit 2 10 60 2 0 ∷ move 1 lent_list ∷ enquire 1 ∷ enquire 2 ∷ [])
    (starts_from 1 (0 ∷ 10 ∷ 20 ∷ 0 ∷ [])
    ++ (reports (moved 2 0) (1 ∷ 0 ∷ 4 ∷ 0 ∷ []) ∷ gives (charging 0 10 2) ∷ gives (waiting 10 1) ∷ []))
    -- Balance: N is 4 and D is 2. A charge of rate 2 stands beside empty lines, and one of rate 1 more on its line does not,
    -- 3, 0, 0; once lines 2 and 3 have one each it does, 3, 1, 1.
    ∷ case 4 50 2
    (commit 1 10 60 2 0
    ∷ preview 1 10 60 1
    ∷ commit 2 10 60 1 0
    ∷ preview 1 10 60 1
    ∷ commit 3 10 60 1 0
    ∷ preview 1 10 60 1
    ∷ [])
    (map gives (committed 1 0 ∷ previewed 10 ∷ committed 2 0 ∷ previewed 10 ∷ committed 3 0 ∷ previewed 0 ∷ []))
    -- The refusals, each with the next ones met too: 5 before 17, 17 before 18 and 6, 18 before 6 and 16. Here N is 2 and D
    -- is 1, so that a rate of 2 is above D alone.
    ∷ case 2 50 1
    (preview 1 0 2000001 0
    ∷ preview 1 10 2000001 0
    ∷ commit 1 10 2000001 3 9
    ∷ preview 1 10 60 4294967295
    ∷ preview 1 10 2000001 2
    ∷ commit 1 10 2000001 2 9
    ∷ commit 1 10 2000001 1 9
    ∷ [])
    (map gives
    (refused 5 ∷ refused 17 ∷ refused 17 ∷ refused 17 ∷ refused 18 ∷ refused 18 ∷ refused 6 ∷ []))
    -- The test of a plan counts rates: 2 and 1 in minute 0 are above N. Two charges of rate 2 there are not, where N is 4, but
    -- differ by 4 from the other lines.
    ∷ case 2 100 2
    (commit 1 10 60 2 0 ∷ commit 1 10 60 1 10 ∷ offer (0 ∷ 0 ∷ []) ∷ [])
    (starts_from 1 (0 ∷ 10 ∷ []) ++ (gives_with (planned 5 0 0 0) (0 ∷ 0 ∷ []) ∷ []))
    ∷ case 4 50 2
    (orders_of_two_rates ++ (offer (0 ∷ 0 ∷ 20 ∷ []) ∷ []))
    (starts_from 1 (0 ∷ 10 ∷ 20 ∷ []) ++ (gives_with (planned 6 5 5 0) (0 ∷ 0 ∷ 20 ∷ []) ∷ []))
    -- Both replans. By lines the first round has tickets 3 and 1 at 0 and ticket 2 at 10: minute 0 counts 3, 0, 0, and the cap
    -- of line 1 falls from 4 to 2. Under a cap of 3 the second round would be as the first, and a third one be made.
    ∷ case 4 50 2
    (orders_of_two_rates ++ (replan_latest ∷ enquire 1 ∷ enquire 2 ∷ enquire 3 ∷ []))
    (starts_from 1 (0 ∷ 10 ∷ 20 ∷ []) ++ (gives (planned 0 5 0 0) ∷ exchanged))
    ∷ case 4 50 2
    (orders_of_two_rates ++ (replan_lines 1 ∷ replan_lines 2 ∷ enquire 1 ∷ enquire 2 ∷ enquire 3 ∷ []))
    (starts_from 1 (0 ∷ 10 ∷ 20 ∷ []) ++ (gives (planned 2 5 5 1) ∷ gives (planned 0 5 0 2) ∷ exchanged))
    ∷ []
