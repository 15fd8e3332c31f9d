-- Entries of several feeders (docs/RULES.md, section 7; N14): openings, W between two feeders, refusals of a feeder's number, the
-- site's last end, calls that name no feeder, and replans that are taken under W.
use Rattle.std.specs.Prelude.{ℕ, List, [], ◌∷◌, ◌++◌, map, replicate}
use Rattle.rules.specs.Calls.{Settings, settings, Asked, Answer, refused, opened, previewed, committed, moved, planned, waiting, charging, looked, withdrawn, not_held, Call, preview, commit, move, offer, replan_latest, replan_lines, enquire, board, withdraw}
use Rattle.rules.specs.Entry.{Given, gives, gives_with, Case}

abbrev asking : ℕ → ℕ → List Settings → Asked
asking count w xs = record { count = count; site = w; settings = xs }

abbrev opens_site : ℕ → ℕ → List Settings → Answer → Case
opens_site count w xs a = record { asked = asking count w xs; calls = []; opening = a; given = []; minutes = []; queues = [] }

-- two feeders with N = 2 and D = 1, under a site limit
abbrev two_under : ℕ → List Call → List Given → Case
two_under w calls given =
    record {
      asked = asking 2 w (settings 2 50 0 ∷ settings 2 50 0 ∷ []);
      calls = calls;
      opening = opened (1 ∷ 1 ∷ []);
      given = given;
      minutes = [];
      queues = [];
    }

-- both feeders draw on their first lines and feeder 1 on its second from 0 to 10, which is all that W 3 leaves; the second order of
-- feeder 2 gets 10, where its own lines would have let it start at 0
abbrev four_orders : List Call
four_orders =
    commit 1 1 10 60 1 0
    ∷ commit 2 1 10 60 1 0
    ∷ commit 1 2 10 60 1 0
    ∷ preview 2 2 10 60 1
    ∷ commit 2 2 10 60 1 0
    ∷ commit 2 2 10 60 1 10
    ∷ []

abbrev four_given : List Given
four_given =
    map gives (committed 1 0 ∷ committed 2 0 ∷ committed 3 0 ∷ previewed 10 ∷ refused 16 ∷ committed 4 10 ∷ [])

-- A taken replan beside a charge of feeder 2 that waits: ticket 1, which draws from 0 to 10 and leaves one of W 2. Ticket 2 of feeder 1 gets 0
-- and ticket 3 then 10, though N and D let both start at 0; ticket 3 ends in 20, 5 minutes late. By latest start ticket 3 goes first, for
-- 15 − 10 is below 60 − 10, and by lines too, for its line 1 comes before line 2: it gets 0. Ticket 2 would be the third in minute 0,
-- and in each up to 9: it gets 10. The last end is 20 as before, and nobody is late
abbrev beside_waiting : Call → Answer → Case
beside_waiting replan answer =
    two_under 2
    (commit 2 1 10 60 1 0
    ∷ commit 1 2 10 60 1 0
    ∷ commit 1 1 10 15 1 10
    ∷ replan
    ∷ enquire 1
    ∷ enquire 2
    ∷ enquire 3
    ∷ [])
    (map gives (committed 1 0 ∷ committed 2 0 ∷ committed 3 10 ∷ answer ∷ waiting 0 1 ∷ waiting 10 1 ∷ waiting 0 1 ∷ []))

-- A feeder's own begun charge counts for W: ticket 1 of feeder 1 draws from 0 to 10 and ticket 2 of feeder 2 from 0 to 5, which is all that
-- W 2 leaves up to 5. Ticket 3 gets 5, ticket 4 gets 10 and is 3 minutes late. In minute 1 the first two have begun. Offered 10 and 1,
-- ticket 4 would be the third in minutes 1 to 4 beside tickets 1 and 2; offered 6 and 5, ticket 3 would be in minutes 6 to 9 beside
-- tickets 1 and 4, all of feeder 1: cause 5, though N and D allow both. Either replan takes ticket 4 first (12 − 5 below 30 − 5; line 2
-- before line 3): for ticket 1 it gets 5 and not 1, and for both ticket 3 gets 10. The last end is 15 as before, and nobody is late
abbrev beside_own_begun : Call → Answer → Case
beside_own_begun replan answer =
    two_under 2
    (commit 1 1 10 60 1 0
    ∷ commit 2 1 5 60 1 0
    ∷ commit 1 3 5 30 1 5
    ∷ commit 1 2 5 12 1 10
    ∷ move 1 (replicate 720 7)
    ∷ offer 1 (10 ∷ 1 ∷ [])
    ∷ offer 1 (6 ∷ 5 ∷ [])
    ∷ replan
    ∷ enquire 1
    ∷ enquire 3
    ∷ enquire 4
    ∷ [])
    (map gives (committed 1 0 ∷ committed 2 0 ∷ committed 3 5 ∷ committed 4 10 ∷ [])
    ++ (gives_with (moved 2 0) (1 ∷ 0 ∷ 2 ∷ 0 ∷ replicate 716 7)
    ∷ gives_with (planned 5 3 3 0) (10 ∷ 1 ∷ [])
    ∷ gives_with (planned 5 3 3 0) (6 ∷ 5 ∷ [])
    ∷ map gives (answer ∷ charging 0 10 1 ∷ waiting 10 1 ∷ waiting 5 1 ∷ [])))

abbrev pub cases_of_feeders : List Case
cases_of_feeders =
    -- "27, before 1, feeder count not 1 to 4"
    opens_site 0 720 (settings 0 101 6 ∷ []) (refused 27)
    ∷ opens_site 5 0 (settings 0 101 6 ∷ []) (refused 27)
    -- "each given if any feeder up to the count meets the condition", the lower row first
    ∷ opens_site 2 720 (settings 1 101 0 ∷ settings 61 100 0 ∷ []) (refused 1)
    ∷ opens_site 2 720 (settings 1 100 0 ∷ settings 1 101 0 ∷ []) (refused 2)
    ∷ opens_site 2 720 (settings 1 100 6 ∷ settings 1 50 0 ∷ []) (refused 3)
    ∷ opens_site 2 0 (settings 1 100 0 ∷ settings 1 100 6 ∷ []) (refused 19)
    -- 2 goes before 3: the bound of feeder 1 is 0, and the percentage of feeder 2 is 101
    ∷ opens_site 2 10 (settings 10 5 6 ∷ settings 10 101 0 ∷ []) (refused 2)
    -- "28, after 19, W not 1 to 720"
    ∷ opens_site 1 0 (settings 1 100 0 ∷ []) (refused 28)
    ∷ opens_site 1 721 (settings 1 100 0 ∷ []) (refused 28)
    -- "settings past the count are not read", and a feeder that is not given counts as 0, 0, 0
    ∷ opens_site 1 1 (settings 5 20 0 ∷ settings 61 101 6 ∷ []) (opened (1 ∷ []))
    ∷ opens_site 3 720 (settings 5 20 0 ∷ settings 5 20 0 ∷ []) (refused 1)
    ∷ opens_site 4 720 (settings 5 20 0 ∷ settings 10 10 5 ∷ settings 60 100 1 ∷ settings 2 50 0 ∷ []) (opened (1 ∷ 1 ∷ 60 ∷ 1 ∷ []))
    -- W between two feeders: through orders, an offer that passes it in minute 0 (cause 5), and both replans, which leave the plan as it is
    ∷ two_under 3
    (four_orders
    ++ (offer 2 (0 ∷ 0 ∷ []) ∷ replan_latest 2 ∷ replan_lines 2 5 ∷ enquire 2 ∷ enquire 4 ∷ []))
    (four_given
    ++ (gives_with (planned 5 0 0 0) (0 ∷ 0 ∷ [])
    ∷ map gives (planned 7 0 0 0 ∷ planned 7 0 0 1 ∷ waiting 0 1 ∷ waiting 10 1 ∷ [])))
    -- under W 4 nothing binds: the last order starts at 0
    ∷ two_under 4
    (commit 1 1 10 60 1 0 ∷ commit 2 1 10 60 1 0 ∷ commit 1 2 10 60 1 0 ∷ commit 2 2 10 60 1 0 ∷ [])
    (map gives (committed 1 0 ∷ committed 2 0 ∷ committed 3 0 ∷ committed 4 0 ∷ []))
    -- "Refusal 9 requires 360 places for each feeder"; the report is by start, then ticket, over the site, and enquiries and
    -- withdrawals find their feeder. A list of 719 is refused with 9 before a target below the clock with 12
    ∷ two_under 3
    (four_orders
    ++ (move 1 (replicate 719 7)
    ∷ move 1 (replicate 720 7)
    ∷ move 0 (replicate 719 7)
    ∷ enquire 2
    ∷ withdraw 3
    ∷ withdraw 4
    ∷ enquire 4
    ∷ []))
    (four_given
    ++ (gives_with (refused 9) (replicate 719 7)
    ∷ gives_with (moved 3 0) (1 ∷ 0 ∷ 2 ∷ 0 ∷ 3 ∷ 0 ∷ replicate 714 7)
    ∷ gives_with (refused 9) (replicate 719 7)
    ∷ map gives (charging 0 10 1 ∷ refused 25 ∷ withdrawn ∷ refused 15 ∷ [])))
    -- "29, before 4, 10 and 11, no such feeder": nobody waits there, and an offer of one start has another length
    ∷ two_under 720
    (preview 0 9 0 0 0
    ∷ preview 3 1 10 60 1
    ∷ commit 3 9 0 0 0 0
    ∷ offer 3 []
    ∷ offer 3 (0 ∷ [])
    ∷ replan_latest 0
    ∷ replan_latest 3
    ∷ replan_lines 3 0
    ∷ offer 2 []
    ∷ [])
    (map gives (refused 29 ∷ refused 29 ∷ refused 29 ∷ refused 29 ∷ [])
    ++ (gives_with (refused 29) (0 ∷ [])
    ∷ map gives (refused 29 ∷ refused 29 ∷ refused 29 ∷ planned 7 0 0 0 ∷ [])))
    -- "Refusal 18 also covers a rate above W"
    ∷ (record {
      asked = asking 1 1 (settings 2 100 0 ∷ []);
      calls = preview 1 1 10 60 2 ∷ preview 1 1 10 60 1 ∷ [];
      opening = opened (2 ∷ []);
      given = map gives (refused 18 ∷ previewed 0 ∷ []);
      minutes = [];
      queues = [];
    })
    -- "Cause 4 compares the largest s + p + r of the site": feeder 2 draws up to 25, with its r of 5; feeder 1's plan up to 20. One that
    -- draws up to 25 there is taken, one up to 26 is not. Lateness is the feeder's
    ∷ (record {
      asked = asking 2 720 (settings 1 100 0 ∷ settings 1 100 5 ∷ []);
      calls =
          commit 2 1 20 5 1 0
          ∷ commit 1 1 10 60 1 0
          ∷ commit 1 1 10 12 1 10
          ∷ offer 1 (16 ∷ 0 ∷ [])
          ∷ offer 1 (15 ∷ 0 ∷ [])
          ∷ [];
      opening = opened (1 ∷ 1 ∷ []);
      given =
          map gives (committed 1 0 ∷ committed 2 0 ∷ committed 3 10 ∷ [])
          ++ (gives_with (planned 4 8 8 0) (16 ∷ 0 ∷ []) ∷ gives_with (planned 0 8 0 0) (15 ∷ 0 ∷ []) ∷ []);
      minutes = [];
      queues = [];
    })
    -- W in all minutes of a charge: feeder 2 draws from 5 to 10, which is all that W 1 leaves. Five minutes on feeder 1 fit at 0, six do
    -- not, for they would meet the other feeder's charge in minute 5
    ∷ (record {
      asked = asking 2 1 (settings 1 100 0 ∷ settings 1 100 0 ∷ []);
      calls =
          commit 1 1 5 60 1 0 ∷ commit 2 1 5 60 1 5 ∷ withdraw 1 ∷ preview 1 1 5 60 1 ∷ preview 1 1 6 60 1 ∷ [];
      opening = opened (1 ∷ 1 ∷ []);
      given = map gives (committed 1 0 ∷ committed 2 5 ∷ withdrawn ∷ previewed 0 ∷ previewed 10 ∷ []);
      minutes = [];
      queues = [];
    })
    -- A board shows the tickets of both feeders, and counts the charges of both. Without ticket 3, feeder 1 would count 2, 0, 1 in minutes 0
    -- to 9: 26, though the lines of both feeders together would count 2, 1, 1. Ticket 2 is alone on feeder 2 then, and can go; without
    -- ticket 5, feeder 1 counts 1, 1, 1, and ticket 3 can go too
    ∷ two_under 720
    (commit 1 1 10 60 1 0
    ∷ commit 2 2 10 60 1 0
    ∷ commit 1 2 10 60 1 0
    ∷ commit 1 3 10 60 1 0
    ∷ commit 1 1 10 60 1 0
    ∷ commit 2 2 10 60 1 10
    ∷ board (2 ∷ 5 ∷ 6 ∷ 9 ∷ []) (replicate 5 7)
    ∷ board (3 ∷ []) (7 ∷ [])
    ∷ withdraw 3
    ∷ withdraw 2
    ∷ board (2 ∷ 3 ∷ []) (7 ∷ 7 ∷ [])
    ∷ withdraw 5
    ∷ withdraw 3
    ∷ [])
    (map gives (committed 1 0 ∷ committed 2 0 ∷ committed 3 0 ∷ committed 4 0 ∷ committed 5 0 ∷ committed 6 10 ∷ [])
    ++ (gives_with (looked 6) (0 ∷ 0 ∷ 10 ∷ not_held ∷ 7 ∷ [])
    ∷ gives_with (looked 3) (0 ∷ [])
    ∷ gives (refused 26)
    ∷ gives withdrawn
    ∷ gives_with (looked 2) (not_held ∷ 0 ∷ [])
    ∷ gives withdrawn
    ∷ gives withdrawn
    ∷ []))
    -- plans that W holds back and that are taken all the same
    ∷ beside_waiting (replan_latest 1) (planned 0 5 0 0)
    ∷ beside_waiting (replan_lines 1 1) (planned 0 5 0 1)
    ∷ beside_own_begun (replan_latest 1) (planned 0 3 0 0)
    ∷ beside_own_begun (replan_lines 1 1) (planned 0 3 0 1)
    ∷ []
