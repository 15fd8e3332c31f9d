-- Cases of N1, drivers in a hurry, each worked out by hand: due minutes that cannot be met, at and below the clock.
use Rattle.std.specs.Prelude.{List, [], ◌∷◌, ◌++◌}
use Rattle.rules.specs.Calls.{moved, planned, Call, move}
use Rattle.rules.specs.Entry.{commit, offer, replan_latest, replan_lines, gives_with, Case, lent_list, starts_from, reports, case, replanned}

-- d − p is 4, −3, 0 and −10, so that the tickets go 4, 2, 3, 1: starts 0, 12, 16, 26. Held are starts 0, 20, 24, 34 with
-- ends 20, 24, 34, 46: lateness 0 + 23 + 24 + 44. Then the ends are 12, 16, 26, 46: lateness 10 + 15 + 16 + 22.
-- Cut off at zero the tickets would go 2, 3, 4, 1; with the negative ones last 3, 1, 4, 2; by d alone 2, 4, 3, 1.
-- By lines, n is 4 and P is 46. At 0 tickets 2, 3 and 4 have no slack left, so that their weight is E(0), and that of ticket 1,
-- with m of 4 and k of 4096 / 46 = 89, is lower: the shortest goes first, ticket 2. From 4 on no ticket has slack left, and they
-- go by time: 3, 4, 1. The ends are 4, 14, 26, 46: lateness 3 + 4 + 24 + 22.
abbrev below_zero : List Call
below_zero = commit 1 20 24 1 0 ∷ commit 1 4 1 1 20 ∷ commit 1 10 10 1 24 ∷ commit 1 12 2 1 34 ∷ []

-- d − p is 50, −5 and −5: ticket 2 goes before ticket 3, and starts 10, 15 become 0, 5. Lateness was 0 + 15 + 20, and is
-- 0 + 5 + 10. With ticket 3 first it would be 15 + 5. By lines k of ticket 1 is 38400 / 25 = 1536, beyond the table, and tickets
-- 2 and 3 go by time: the same starts.
abbrev equal_below_zero : List Call
equal_below_zero = commit 1 10 60 1 0 ∷ commit 1 5 0 1 10 ∷ commit 1 10 5 1 15 ∷ []

abbrev pub cases_in_a_hurry : List Case
cases_in_a_hurry =
    replanned below_zero replan_latest (0 ∷ 20 ∷ 24 ∷ 34 ∷ []) (planned 0 91 63 0) (26 ∷ 12 ∷ 16 ∷ 0 ∷ [])
    ∷ replanned below_zero (replan_lines 1) (0 ∷ 20 ∷ 24 ∷ 34 ∷ []) (planned 0 91 53 1) (26 ∷ 0 ∷ 4 ∷ 14 ∷ [])
    ∷ replanned equal_below_zero replan_latest (0 ∷ 10 ∷ 15 ∷ []) (planned 0 35 15 0) (15 ∷ 0 ∷ 5 ∷ [])
    ∷ replanned equal_below_zero (replan_lines 1) (0 ∷ 10 ∷ 15 ∷ []) (planned 0 35 15 1) (15 ∷ 0 ∷ 5 ∷ [])
    -- At clock 3 a charge of 10 minutes ends at 13 or later: due minutes 12, 3, 2 and 0 are taken like 13.
    ∷ case 1 100 1
    (move 3 lent_list
    ∷ commit 1 10 13 1 3
    ∷ commit 1 10 12 1 13
    ∷ commit 1 10 3 1 23
    ∷ commit 1 10 2 1 33
    ∷ commit 1 10 0 1 43
    ∷ [])
    (reports (moved 0 0) [] ∷ starts_from 1 (3 ∷ 13 ∷ 23 ∷ 33 ∷ 43 ∷ []))
    -- A due minute of 0 at the last clock. Ticket 1 is in time; ticket 2 ends at 1,000,020 and is late by as much. With
    -- their starts exchanged it ends at 1,000,010. From clock + p on it would be late by 10, and then by nothing.
    ∷ case 1 100 1
    (move 1000000 lent_list
    ∷ commit 1 10 2000000 1 1000000
    ∷ commit 1 10 0 1 1000010
    ∷ offer (1000010 ∷ 1000000 ∷ [])
    ∷ [])
    (reports (moved 0 0) []
    ∷ starts_from 1 (1000000 ∷ 1000010 ∷ [])
    ++ (gives_with (planned 0 1000020 1000010 0) (1000010 ∷ 1000000 ∷ []) ∷ []))
    ∷ []
