-- Cases of our own, each worked out by hand: the errors at the end of docs/RULES.md that cases a to l let through, and
-- the edges of its conditions, so that a definition that differs at an edge alone gives something else here.
use Rattle.std.specs.Prelude.{ℕ, zero, suc, List, [], ◌∷◌, ◌++◌, map, replicate}
use Rattle.rules.specs.Calls.{refused, committed, moved, planned, charging, withdrawn, Call, move, enquire, withdraw}
use Rattle.rules.specs.Entry.{preview, commit, offer, replan_latest, replan_lines, opened_one, gives, gives_with, Case, lent_list, starts_from, reports, opens, case, replanned}
use Rattle.rules.specs.CasesAToL.{orders_h, given_h}

-- d − p is 50, 10 and 13, so ticket 2 goes first and then ticket 3; by d alone, 20 and 15, ticket 3 would go first. By lines n is
-- 3 and P is 22, so k is beyond the table, 7680 / 22 = 349 and 9984 / 22 = 453: E(349) / 10 = 4404914 / 10 is above
-- E(453) / 2 = 856298 / 2, and the order is the same.
abbrev orders_by_start : List Call
orders_by_start = commit 1 10 60 1 0 ∷ commit 1 10 20 1 10 ∷ commit 1 2 15 1 20 ∷ []

-- d − p is 50, 10 and 10: ticket 2 goes before ticket 3. By lines both have m of 10, and ticket 2 is the shorter.
abbrev orders_tied : List Call
orders_tied = commit 1 10 60 1 0 ∷ commit 1 4 14 1 10 ∷ commit 1 10 20 1 14 ∷ []

-- "ticket, start" of k charges with tickets from i on and start 0
abbrev full_report : ℕ → ℕ → List ℕ
full_report zero i = []
full_report (suc k) i = i ∷ 0 ∷ full_report k (suc i)

-- The smallest start
abbrev searches : List Case
searches =
    -- Balance only at the start: ticket 4 would stand beside 1, 1 in minute 0, but lines 2 and 3 end after minute 4, and
    -- minutes 5 to 9 would count 2, 0, 0; so it waits for the end of ticket 3.
    case 2 50 1
    (commit 2 5 60 1 0 ∷ commit 3 5 60 1 0 ∷ commit 1 10 60 1 0 ∷ commit 1 10 60 1 10 ∷ [])
    (starts_from 1 (0 ∷ 0 ∷ 0 ∷ 10 ∷ []))
    -- Neighbours only: 2, 1, 0 differ by 1 from line to line, and lines 1 and 3 by 2.
    ∷ case 2 50 1
    (commit 1 10 60 1 0 ∷ commit 2 10 60 1 0 ∷ commit 1 10 60 1 10 ∷ [])
    (starts_from 1 (0 ∷ 0 ∷ 10 ∷ []))
    ∷ []

-- Refusals, and what is just not refused
abbrev refusals_at_edges : List Case
refusals_at_edges =
    -- "N not 1 to 60", "c above 100"; d and h open at 1, 60 and 100
    opens 0 100 (refused 1)
    ∷ opens 1 101 (refused 2)
    -- An exact half goes to the even number: 1.5 up to 2, 4.5 down to 4.
    ∷ opens 30 5 (opened_one 2)
    ∷ opens 30 15 (opened_one 4)
    -- A D of 0 is refused: 0.5 goes down to it, 0.51 does not.
    ∷ opens 10 5 (refused 3)
    ∷ opens 50 1 (refused 3)
    ∷ opens 17 3 (opened_one 1)
    -- The refusals of a station that stands, each with the next condition of its table met too where it can be. The start
    -- that the commits show, 9, is not the earliest.
    ∷ case 1 100 1
    (preview 0 0 2000001 1
    ∷ commit 4 5 5 1 9
    ∷ preview 1 1441 2000001 1
    ∷ commit 1 0 0 1 9
    ∷ preview 1 10 2000001 1
    ∷ commit 1 10 2000001 1 9
    ∷ commit 1 10 60 1 9
    ∷ move 1000001 []
    ∷ move 5 (replicate 359 7)
    ∷ offer (0 ∷ [])
    ∷ replan_lines 0
    ∷ replan_lines 1001
    ∷ enquire 1
    ∷ [])
    (map gives (refused 4 ∷ refused 4 ∷ refused 5 ∷ refused 5 ∷ refused 6 ∷ refused 6 ∷ refused 16 ∷ refused 8 ∷ [])
    ++ (gives_with (refused 9) (replicate 359 7)
    ∷ gives_with (refused 10) (0 ∷ [])
    ∷ map gives (refused 11 ∷ refused 11 ∷ refused 15 ∷ [])))
    -- A charging time of 1 and of 1,440 is taken: the second charge starts at the end of the first.
    ∷ case 1 100 1 (commit 1 1 1 1 0 ∷ commit 1 1440 1441 1 1 ∷ []) (starts_from 1 (0 ∷ 1 ∷ []))
    -- 2,000,000 is not above 2,000,000.
    ∷ case 1 100 1
    (commit 1 10 2000001 1 0 ∷ commit 1 10 2000000 1 0 ∷ [])
    (map gives (refused 6 ∷ committed 1 0 ∷ []))
    -- A target of 1,000,000 is not above it; the same target again reports and drops nothing; one minute less is refused.
    ∷ case 1 100 1
    (move 1000001 lent_list ∷ move 1000000 lent_list ∷ move 1000000 lent_list ∷ move 999999 lent_list ∷ [])
    (map (λ a. gives_with a lent_list) (refused 8 ∷ moved 0 0 ∷ moved 0 0 ∷ refused 12 ∷ []))
    -- 180 places: 60 charges fit on each line in minute 0, the 180th order is taken and the next one refused, with 13 also
    -- where its due minute cannot be met or the start shown is not the earliest. A withdrawal frees one place: the next order is
    -- taken, with the next ticket, and then the yard is full again. The move reports them all, which fills the list, and gives the
    -- places back.
    ∷ case 60 100 60
    (replicate 60 (commit 1 1 1 1 0)
    ++ (replicate 60 (commit 2 1 1 1 0)
    ++ (replicate 60 (commit 3 1 1 1 0)
    ++ (preview 1 1 1 1
    ∷ commit 1 1 0 1 1
    ∷ commit 1 1 1 1 9
    ∷ withdraw 60
    ∷ commit 1 1 1 1 0
    ∷ preview 1 1 1 1
    ∷ move 1 lent_list
    ∷ commit 1 1 2 1 1
    ∷ []))))
    (starts_from 1 (replicate 180 0)
    ++ (map gives (refused 13 ∷ refused 13 ∷ refused 13 ∷ withdrawn ∷ committed 181 0 ∷ refused 13 ∷ [])
    ++ (gives_with (moved 180 180) (full_report 59 1 ++ full_report 121 61) ∷ gives (committed 182 1) ∷ [])))
    ∷ []

-- Clock moves
abbrev moves : List Case
moves =
    -- A charge that ends at the target is dropped, one that ends a minute later is not; then the clock cannot go back.
    case 2 50 1
    (commit 1 3 9 1 0 ∷ commit 2 4 9 1 0 ∷ move 3 lent_list ∷ enquire 1 ∷ enquire 2 ∷ move 2 lent_list ∷ [])
    (starts_from 1 (0 ∷ 0 ∷ [])
    ++ (reports (moved 2 1) (1 ∷ 0 ∷ 2 ∷ 0 ∷ [])
    ∷ gives (refused 15)
    ∷ gives (charging 0 4 1)
    ∷ gives_with (refused 12) lent_list
    ∷ []))
    -- By start before ticket: as h, with starts 10 and 0 after the replan, and both passed.
    ∷ case 1 100 1
    (orders_h ++ (replan_latest ∷ move 11 lent_list ∷ []))
    (given_h ++ (gives (planned 0 5 0 0) ∷ reports (moved 2 1) (2 ∷ 0 ∷ 1 ∷ 10 ∷ []) ∷ []))
    ∷ []

-- Offers and replans
abbrev plans : List Case
plans =
    -- The first cause that applies. Starts 0, 2, 5, lateness 3, last end 8. At clock 2 ticket 2 still waits, and the move
    -- does not report it. 6, 1: a start below the clock, and an end at 9. 6, 6: an end at 9, and 2 in minute 6. 2, 2: a
    -- count of 2, and a difference of 2. 5, 2: none, for a start at the clock is not below it.
    case 1 100 1
    (commit 1 2 10 1 0
    ∷ commit 1 3 60 1 2
    ∷ commit 1 3 5 1 5
    ∷ move 2 lent_list
    ∷ offer (6 ∷ 1 ∷ [])
    ∷ offer (6 ∷ 6 ∷ [])
    ∷ offer (2 ∷ 2 ∷ [])
    ∷ offer (5 ∷ 2 ∷ [])
    ∷ [])
    (starts_from 1 (0 ∷ 2 ∷ 5 ∷ [])
    ++ (reports (moved 1 1) (1 ∷ 0 ∷ [])
    ∷ gives_with (planned 3 3 3 0) (6 ∷ 1 ∷ [])
    ∷ gives_with (planned 4 3 3 0) (6 ∷ 6 ∷ [])
    ∷ gives_with (planned 5 3 3 0) (2 ∷ 2 ∷ [])
    ∷ gives_with (planned 0 3 0 0) (5 ∷ 2 ∷ [])
    ∷ []))
    -- As k, both at 0: 2 is not above N, but differs by 2 from 0; and lateness stays 0.
    ∷ case 2 50 1
    (commit 1 10 60 1 0 ∷ commit 1 10 60 1 10 ∷ offer (0 ∷ 0 ∷ []) ∷ [])
    (starts_from 1 (0 ∷ 10 ∷ []) ++ (gives_with (planned 6 0 0 0) (0 ∷ 0 ∷ []) ∷ []))
    -- Over all minutes: at 0, 0, 5 minutes 0 to 4 count 2, which is not above N but differs by 2 from 0, and minutes 5 to 9 count 3,
    -- which is above N. So the count goes before the difference, though the difference comes first in time. No end is later than 30.
    ∷ case 2 50 1
    (commit 1 10 60 1 0 ∷ commit 1 10 60 1 10 ∷ commit 1 10 60 1 20 ∷ offer (0 ∷ 0 ∷ 5 ∷ []) ∷ [])
    (starts_from 1 (0 ∷ 10 ∷ 20 ∷ []) ++ (gives_with (planned 5 0 0 0) (0 ∷ 0 ∷ 5 ∷ []) ∷ []))
    -- By d − p, and then by ticket; by lines with the same starts.
    ∷ replanned orders_by_start replan_latest (0 ∷ 10 ∷ 20 ∷ []) (planned 0 7 0 0) (12 ∷ 0 ∷ 10 ∷ [])
    ∷ replanned orders_by_start (replan_lines 1) (0 ∷ 10 ∷ 20 ∷ []) (planned 0 7 0 1) (12 ∷ 0 ∷ 10 ∷ [])
    ∷ replanned orders_tied replan_latest (0 ∷ 10 ∷ 14 ∷ []) (planned 0 4 0 0) (14 ∷ 0 ∷ 4 ∷ [])
    ∷ replanned orders_tied (replan_lines 1) (0 ∷ 10 ∷ 14 ∷ []) (planned 0 4 0 1) (14 ∷ 0 ∷ 4 ∷ [])
    -- A cap lowered from t itself: both go to 0 in the first round, 2, 0, 0, and the cap of 1 holds in minute 0 too, so
    -- that the second round has 0 and 1, as held: cause 7. With a cap of 2 left in minute 0 the second round would end as
    -- the first, and the allowance be spent: cause 2.
    ∷ case 2 50 1
    (commit 1 1 60 1 0 ∷ commit 1 1 60 1 1 ∷ replan_lines 2 ∷ [])
    (starts_from 1 (0 ∷ 1 ∷ []) ++ (gives (planned 7 0 0 2) ∷ []))
    -- Cause 1 by lines: at clock 1 ticket 2 goes from 5 to 1 and ticket 4 from 6 to 1, and minute 6 counts 2, 0, 1. The two
    -- of line 1 have begun; ticket 4, which is placed, is of line 3. So it is in the last round that the allowance leaves too: cause 1 goes
    -- before cause 2.
    ∷ case 2 50 1
    (commit 2 5 60 1 0
    ∷ commit 2 5 60 1 5
    ∷ commit 3 6 60 1 0
    ∷ commit 3 9 60 1 6
    ∷ commit 1 10 60 1 0
    ∷ commit 1 10 60 1 0
    ∷ move 1 lent_list
    ∷ replan_lines 2
    ∷ replan_lines 1
    ∷ [])
    (starts_from 1 (0 ∷ 5 ∷ 0 ∷ 6 ∷ 0 ∷ 0 ∷ [])
    ++ (reports (moved 4 0) (1 ∷ 0 ∷ 3 ∷ 0 ∷ 5 ∷ 0 ∷ 6 ∷ 0 ∷ []) ∷ map gives (planned 1 0 0 1 ∷ planned 1 0 0 1 ∷ [])))
    -- Lowest line first: at clock 1 ticket 2 goes from 5 to 1, ticket 6 stays at 1, and minute 6 counts 2, 0, 2. Line 1 has
    -- no placed charge, so that one round is made; line 3 has ticket 6, and its cap would be lowered for a second round.
    -- (Which of several lines with the smallest count is j makes no difference: only its count is used.)
    ∷ case 2 50 1
    (commit 2 5 60 1 0
    ∷ commit 2 5 60 1 5
    ∷ commit 3 10 60 1 0
    ∷ commit 1 10 60 1 0
    ∷ commit 1 10 60 1 0
    ∷ move 1 lent_list
    ∷ commit 3 10 60 1 1
    ∷ replan_lines 2
    ∷ [])
    (starts_from 1 (0 ∷ 5 ∷ 0 ∷ 0 ∷ 0 ∷ [])
    ++ (reports (moved 4 0) (1 ∷ 0 ∷ 3 ∷ 0 ∷ 4 ∷ 0 ∷ 5 ∷ 0 ∷ [])
    ∷ gives (committed 6 1)
    ∷ gives (planned 1 0 0 1)
    ∷ []))
    ∷ []

abbrev pub cases_at_edges : List Case
cases_at_edges = searches ++ (refusals_at_edges ++ (moves ++ plans))
