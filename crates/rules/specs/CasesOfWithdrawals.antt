-- Cases of N11, withdrawing an order, each worked out by hand: who may withdraw, what the rest needs, and what is left.
use Rattle.std.specs.Prelude.{List, [], ◌∷◌, ◌++◌, map}
use Rattle.rules.specs.Calls.{refused, committed, moved, waiting, looked, withdrawn, not_held, move, enquire, board, withdraw}
use Rattle.rules.specs.Entry.{commit, one_feeder, opened_one, gives, gives_with, Case, lent_list, reports, case}
use Rattle.rules.specs.CasesAToL.{orders_e, given_e, given_f, minute_g, orders_h, given_h}

abbrev pub cases_of_withdrawals : List Case
cases_of_withdrawals =
    -- In case f's station without ticket 5 minutes 5 to 9 count 2, 0, 1, as in g: 26. Tickets 1 and 2 have begun: 25, also where the
    -- rest would not be sound, as without ticket 2, of line 3, in minutes 1 to 4. Nothing has changed: the same again.
    record {
      asked = one_feeder 2 50 0;
      calls = orders_e ++ (move 1 lent_list ∷ withdraw 9 ∷ withdraw 5 ∷ withdraw 1 ∷ withdraw 2 ∷ withdraw 5 ∷ enquire 5 ∷ []);
      opening = opened_one 1;
      given =
          given_e
          ++ (given_f ∷ map gives (refused 15 ∷ refused 26 ∷ refused 25 ∷ refused 25 ∷ refused 26 ∷ waiting 5 1 ∷ []));
      minutes = map minute_g (5 ∷ 6 ∷ 7 ∷ 8 ∷ 9 ∷ []);
      queues = [];
    }
    -- A start equal to the clock still waits. Ticket 2 stays where it is, though 0 is free; ticket 1 is not held, not reported, not
    -- given again, and cannot be withdrawn twice.
    ∷ case 1 100 1
    (orders_h
    ++ (withdraw 1
    ∷ withdraw 1
    ∷ enquire 1
    ∷ enquire 2
    ∷ board (1 ∷ 2 ∷ []) (7 ∷ 7 ∷ [])
    ∷ commit 1 10 60 1 0
    ∷ move 1 lent_list
    ∷ withdraw 3
    ∷ withdraw 2
    ∷ move 20 lent_list
    ∷ []))
    (given_h
    ++ (map gives (withdrawn ∷ refused 15 ∷ refused 15 ∷ waiting 10 1 ∷ [])
    ++ (gives_with (looked 1) (not_held ∷ 10 ∷ [])
    ∷ gives (committed 3 0)
    ∷ reports (moved 1 0) (3 ∷ 0 ∷ [])
    ∷ gives (refused 25)
    ∷ gives withdrawn
    ∷ reports (moved 0 1) []
    ∷ [])))
    ∷ case 1 100 1
    (orders_h ++ (move 10 lent_list ∷ withdraw 2 ∷ commit 1 10 60 1 10 ∷ []))
    (given_h ++ (reports (moved 1 1) (1 ∷ 0 ∷ []) ∷ gives withdrawn ∷ gives (committed 3 10) ∷ []))
    -- "in every minute from the clock on": at 5 tickets 3 and 4 are dropped, and of the charges held minutes 0 to 4 would count 2, 0, 1.
    -- Ticket 7 of line 3 can go, for 2, 1, 1 is left, and ticket 5, which starts at the clock, cannot.
    ∷ case 2 50 1
    (orders_e ++ (move 5 lent_list ∷ commit 3 3 60 1 5 ∷ withdraw 5 ∷ withdraw 7 ∷ withdraw 7 ∷ []))
    (given_e
    ++ (reports (moved 5 2) (1 ∷ 0 ∷ 2 ∷ 0 ∷ 3 ∷ 0 ∷ 4 ∷ 0 ∷ 6 ∷ 0 ∷ [])
    ∷ map gives (committed 7 5 ∷ refused 26 ∷ withdrawn ∷ refused 15 ∷ [])))
    ∷ []
