-- Cases a to l (docs/RULES.md, section 7), each with the results that stand there: "an order is a commit with the start listed".
use Rattle.std.specs.Prelude.{ℕ, List, [], ◌∷◌, ◌++◌, map}
use Rattle.rules.specs.Calls.{refused, previewed, committed, moved, planned, waiting, charging, Call, move, enquire}
use Rattle.rules.specs.Entry.{preview, commit, offer, replan_latest, replan_lines, one_feeder, opened_one, Given, gives, gives_with, Minute, Case, lent_list, starts_from, reports, opens, case}

-- the orders of case e, with what they give
abbrev pub orders_e : List Call
orders_e =
    commit 1 10 60 1 0
    ∷ commit 3 10 60 1 0
    ∷ commit 2 5 60 1 0
    ∷ commit 2 5 60 1 0
    ∷ commit 2 5 20 1 5
    ∷ commit 1 10 60 1 0
    ∷ []

abbrev pub given_e : List Given
given_e = starts_from 1 (0 ∷ 0 ∷ 0 ∷ 0 ∷ 5 ∷ 0 ∷ [])

-- case f: the list holds five pairs, and then what it held
abbrev pub given_f : Given
given_f = reports (moved 5 0) (1 ∷ 0 ∷ 2 ∷ 0 ∷ 3 ∷ 0 ∷ 4 ∷ 0 ∷ 6 ∷ 0 ∷ [])

-- what is called in case g before the replan
abbrev pub calls_g : List Call
calls_g = orders_e ++ (move 1 lent_list ∷ preview 3 3 10 1 ∷ commit 3 3 10 1 1 ∷ [])

abbrev pub minute_g : ℕ → Minute
minute_g t = record { without = 5; minute = t; one = 2; two = 0; three = 1 }

-- the orders of case h, with what they give
abbrev pub orders_h : List Call
orders_h = commit 1 10 60 1 0 ∷ commit 1 10 15 1 10 ∷ []

abbrev pub given_h : List Given
given_h = starts_from 1 (0 ∷ 10 ∷ [])

abbrev pub cases_a_to_l : List Case
cases_a_to_l =
    -- a to d
    opens 5 20 (opened_one 1)
    ∷ opens 10 10 (opened_one 1)
    ∷ opens 9 11 (opened_one 1)
    ∷ opens 60 100 (opened_one 60)
    ∷ opens 61 100 (refused 1)
    -- e
    ∷ case 2 50 1 orders_e given_e
    -- f
    ∷ case 2 50 1 (orders_e ++ (move 1 lent_list ∷ [])) (given_e ++ (given_f ∷ []))
    -- g: ticket 7 goes first, and the minutes that ticket 5 leaves
    ∷ record {
      asked = one_feeder 2 50 0;
      calls = calls_g ++ (replan_latest ∷ []);
      opening = opened_one 1;
      given = given_e ++ (given_f ∷ gives (previewed 1) ∷ gives (committed 7 1) ∷ gives (planned 1 0 0 0) ∷ []);
      minutes = map minute_g (5 ∷ 6 ∷ 7 ∷ 8 ∷ 9 ∷ []);
      queues = record { feeder = 1; tickets = 7 ∷ 5 ∷ [] } ∷ [];
    }
    -- h, by latest start and by lines
    ∷ case 1 100 1
    (orders_h ++ (replan_latest ∷ enquire 1 ∷ enquire 2 ∷ []))
    (given_h ++ (gives (planned 0 5 0 0) ∷ gives (waiting 10 1) ∷ gives (waiting 0 1) ∷ []))
    ∷ case 1 100 1
    (orders_h ++ (replan_lines 1000 ∷ enquire 1 ∷ enquire 2 ∷ []))
    (given_h ++ (gives (planned 0 5 0 1) ∷ gives (waiting 10 1) ∷ gives (waiting 0 1) ∷ []))
    -- i, by latest start and by lines
    ∷ case 1 100 1
    (orders_h ++ (move 1 lent_list ∷ replan_latest ∷ enquire 1 ∷ []))
    (given_h ++ (reports (moved 1 0) (1 ∷ 0 ∷ []) ∷ gives (planned 7 5 5 0) ∷ gives (charging 0 10 1) ∷ []))
    ∷ case 1 100 1
    (orders_h ++ (move 1 lent_list ∷ replan_lines 1000 ∷ enquire 1 ∷ []))
    (given_h ++ (reports (moved 1 0) (1 ∷ 0 ∷ []) ∷ gives (planned 7 5 5 1) ∷ gives (charging 0 10 1) ∷ []))
    -- j: an offer's list is lent, and stays
    ∷ case 1 100 1
    (orders_h ++ (offer (10 ∷ 0 ∷ []) ∷ []))
    (given_h ++ (gives_with (planned 0 5 0 0) (10 ∷ 0 ∷ []) ∷ []))
    ∷ case 1 100 1
    (orders_h ++ (offer (10 ∷ 1 ∷ []) ∷ []))
    (given_h ++ (gives_with (planned 5 5 5 0) (10 ∷ 1 ∷ []) ∷ []))
    ∷ case 1 100 1
    (orders_h ++ (offer (11 ∷ 0 ∷ []) ∷ []))
    (given_h ++ (gives_with (planned 4 5 5 0) (11 ∷ 0 ∷ []) ∷ []))
    -- k, each order previewed first
    ∷ case 2 50 1
    (preview 1 10 60 1
    ∷ commit 1 10 60 1 0
    ∷ preview 1 10 60 1
    ∷ commit 1 10 60 1 10
    ∷ replan_lines 2
    ∷ replan_lines 1
    ∷ [])
    (map gives
    (previewed 0 ∷ committed 1 0 ∷ previewed 10 ∷ committed 2 10 ∷ planned 7 0 0 2 ∷ planned 2 0 0 1 ∷ []))
    -- l
    ∷ case 60 100 60
    (replan_latest ∷ replan_lines 1 ∷ offer [] ∷ [])
    (gives (planned 7 0 0 0) ∷ gives (planned 7 0 0 1) ∷ gives (planned 7 0 0 0) ∷ [])
    ∷ []
