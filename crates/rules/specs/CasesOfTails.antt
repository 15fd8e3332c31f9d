-- Cases of N7, contactors that open late, each worked out by hand: charges back to back, a charge in its tail, plans and caps
-- with tails, and openings with r.
use Rattle.std.specs.Prelude.{ℕ, List, [], ◌∷◌, ◌++◌, map}
use Rattle.rules.specs.Calls.{Answer, refused, previewed, committed, moved, planned, waiting, charging, Call, move, enquire}
use Rattle.rules.specs.Entry.{preview, commit, offer, replan_latest, replan_lines, one_feeder, opened_one, Given, gives, gives_with, Case, lent_list, starts_from, reports, case_with_tail}

-- An opening with r, and the starts of two orders of 10 minutes on line 1 of the station beside it.
abbrev opened_with : ℕ → ℕ → ℕ → Answer → ℕ → Case
opened_with n c r a second =
    record {
      asked = one_feeder n c r;
      calls = commit 1 10 60 1 0 ∷ commit 1 10 60 1 second ∷ [];
      opening = a;
      given = starts_from 1 (0 ∷ second ∷ []);
      minutes = [];
      queues = [];
    }

-- The orders of case h with r 2: the second one starts at 12, ends at 22 and is late by 7, by s + p.
abbrev orders_with_tails : List Call
orders_with_tails = commit 1 10 60 1 0 ∷ commit 1 10 15 1 12 ∷ []

abbrev given_with_tails : List Given
given_with_tails = starts_from 1 (0 ∷ 12 ∷ [])

abbrev pub cases_of_tails : List Case
cases_of_tails =
    -- The limit: back to back on a full line, the second charge starts r minutes after the end of the first.
    case_with_tail 1 100 3 1
    (commit 1 10 60 1 0 ∷ commit 1 10 60 1 10 ∷ commit 1 10 60 1 12 ∷ commit 1 10 60 1 13 ∷ [])
    (map gives (committed 1 0 ∷ refused 16 ∷ refused 16 ∷ committed 2 13 ∷ []))
    -- Balance: N is 2, and a tail beside the second charge would be 2, 0, 0.
    ∷ case_with_tail 2 50 2 1
    (commit 1 10 60 1 0 ∷ commit 1 5 60 1 10 ∷ commit 1 5 60 1 12 ∷ [])
    (map gives (committed 1 0 ∷ refused 16 ∷ committed 2 12 ∷ []))
    -- In its tail a charge is charging, with an end at or below the clock; it counts and is not dropped. The minute after it is.
    ∷ case_with_tail 1 100 3 1
    (commit 1 10 60 1 0
    ∷ move 10 lent_list
    ∷ enquire 1
    ∷ preview 1 5 60 1
    ∷ preview 2 5 60 1
    ∷ move 12 lent_list
    ∷ enquire 1
    ∷ preview 1 5 60 1
    ∷ move 13 lent_list
    ∷ enquire 1
    ∷ preview 1 5 60 1
    ∷ [])
    (gives (committed 1 0)
    ∷ reports (moved 1 0) (1 ∷ 0 ∷ [])
    ∷ gives (charging 0 10 1)
    ∷ gives (previewed 13)
    ∷ gives (previewed 10)
    ∷ reports (moved 0 0) []
    ∷ gives (charging 0 10 1)
    ∷ gives (previewed 13)
    ∷ reports (moved 0 1) []
    ∷ gives (refused 15)
    ∷ gives (previewed 13)
    ∷ [])
    -- The lateness of a charge in its tail, 5, is in the sum until it is dropped.
    ∷ case_with_tail 1 100 2 1
    (commit 1 10 5 1 0 ∷ commit 1 10 60 1 12 ∷ move 11 lent_list ∷ replan_latest ∷ move 12 lent_list ∷ replan_latest ∷ [])
    (starts_from 1 (0 ∷ 12 ∷ [])
    ++ (reports (moved 1 0) (1 ∷ 0 ∷ [])
    ∷ gives (planned 7 5 5 0)
    ∷ reports (moved 0 1) []
    ∷ gives (planned 7 0 0 0)
    ∷ []))
    -- Offers: 10, 0 leaves no tail to the first of them and is above N; 13, 0 ends at 23, later than 22; 12, 0 ends at 22 and
    -- is taken, its tail goes on to 24 as that of the held plan does.
    ∷ case_with_tail 1 100 2 1
    (orders_with_tails ++ (offer (10 ∷ 0 ∷ []) ∷ offer (13 ∷ 0 ∷ []) ∷ offer (12 ∷ 0 ∷ []) ∷ []))
    (given_with_tails
    ++ (gives_with (planned 5 7 7 0) (10 ∷ 0 ∷ [])
    ∷ gives_with (planned 4 7 7 0) (13 ∷ 0 ∷ [])
    ∷ gives_with (planned 0 7 0 0) (12 ∷ 0 ∷ [])
    ∷ []))
    -- Both replans place the second order first, and the other behind its tail.
    ∷ case_with_tail 1 100 2 1
    (orders_with_tails ++ (replan_latest ∷ enquire 1 ∷ enquire 2 ∷ []))
    (given_with_tails ++ (gives (planned 0 7 0 0) ∷ gives (waiting 12 1) ∷ gives (waiting 0 1) ∷ []))
    ∷ case_with_tail 1 100 2 1
    (orders_with_tails ++ (replan_lines 1 ∷ enquire 1 ∷ enquire 2 ∷ []))
    (given_with_tails ++ (gives (planned 0 7 0 1) ∷ gives (waiting 12 1) ∷ gives (waiting 0 1) ∷ []))
    -- Caps: at clock 1 the charges on lines 2 and 3 draw up to minute 12, those on line 1, both at 1 in the first round, up to 13.
    -- Minute 12, in their tails, counts 2, 0, 0, and the cap of line 1 falls to 1 from there on. If a charge's minutes under the
    -- cap ended at s + p, the second round would be as the first.
    ∷ case_with_tail 2 50 2 1
    (commit 2 10 60 1 0
    ∷ commit 3 10 60 1 0
    ∷ move 1 lent_list
    ∷ commit 1 10 60 1 1
    ∷ commit 1 10 60 1 13
    ∷ replan_lines 1
    ∷ replan_lines 2
    ∷ [])
    (starts_from 1 (0 ∷ 0 ∷ [])
    ++ (reports (moved 2 0) (1 ∷ 0 ∷ 2 ∷ 0 ∷ [])
    ∷ map gives (committed 3 1 ∷ committed 4 13 ∷ planned 2 0 0 1 ∷ planned 7 0 0 2 ∷ [])))
    -- Openings: r from 0 to 5; 6 is refused with 19, and 3 goes before 19. The station beside a refused opening has r 0.
    ∷ opened_with 1 100 0 (opened_one 1) 10
    ∷ opened_with 1 100 5 (opened_one 1) 15
    ∷ opened_with 1 100 6 (refused 19) 10
    ∷ opened_with 10 5 6 (refused 3) 10
    ∷ opened_with 61 100 5 (refused 1) 10
    ∷ []
