-- Cases of N5, the paper's own priority, each worked out by hand: which charge of a line is taken at the smallest start.
use Rattle.std.specs.Prelude.{ℕ, ◌+◌, List, [], ◌∷◌, ◌++◌, map}
use Rattle.rules.specs.Calls.{committed, moved, planned, waiting, Call, move, enquire}
use Rattle.rules.specs.Entry.{commit, replan_latest, replan_lines, gives, Case, lent_list, starts_from, reports, case, replanned}

-- Orders of line 1, and behind them two of line 2, of a minute each. The second of these is due at 1 and has no slack, so that starts 0,
-- 1 become 1, 0 and lateness falls by 1: the plan is taken where line 1 is as late as before, and its starts are seen.
abbrev shown : List Call → List ℕ → ℕ → List ℕ → Case
shown orders held late new =
    replanned (orders ++ (commit 2 1 60 1 0 ∷ commit 2 1 1 1 1 ∷ [])) (replan_lines 1) (held ++ (0 ∷ 1 ∷ []))
    (planned 0 (late + 1) late 1)
    (new ++ (1 ∷ 0 ∷ []))

abbrev pub cases_of_priority : List Case
cases_of_priority =
    -- A short charge with slack before a long one that is more urgent: n is 2 and P is 22. m is 10 and 12, so k is 5120 / 22 = 232
    -- and 6144 / 22 = 279. E(232) / 20 = 27806919 / 20 is below E(279) / 2 = 13264761 / 2: ticket 2 goes first, though d − p is 10 and
    -- 12. By latest start the plan stays as it is.
    case 1 100 1
    (commit 1 20 30 1 0 ∷ commit 1 2 14 1 20 ∷ replan_latest ∷ replan_lines 1 ∷ enquire 1 ∷ enquire 2 ∷ [])
    (starts_from 1 (0 ∷ 20 ∷ []) ++ map gives (planned 7 8 8 0 ∷ planned 0 8 0 1 ∷ waiting 2 1 ∷ waiting 0 1 ∷ []))
    -- A long urgent charge before a short one with slack: m is 20 and 0, so k is 10240 / 22 = 465 and 0. E(465) / 2 = 708840 / 2 is
    -- below E(0) / 20: ticket 2 goes first.
    ∷ replanned (commit 1 2 22 1 0 ∷ commit 1 20 20 1 2 ∷ []) (replan_lines 1) (0 ∷ 2 ∷ []) (planned 0 2 0 1) (20 ∷ 0 ∷ [])
    -- A tie by d − p: both are late wherever they start, so m and k are 0, and p is 10. d − p is −2 and −5: ticket 2 goes first.
    ∷ shown (commit 1 10 8 1 0 ∷ commit 1 10 5 1 10 ∷ []) (0 ∷ 10 ∷ []) 17 (10 ∷ 0 ∷ [])
    -- A tie by ticket: both have p of 10 and m of 10, k is 5120 / 20 = 256, and d − p is 10. Ticket 1 goes first.
    ∷ shown (commit 1 10 20 1 0 ∷ commit 1 10 20 1 10 ∷ []) (0 ∷ 10 ∷ []) 0 (0 ∷ 10 ∷ [])
    -- Both beyond the table: m is 50 and 40, so k is 1280 and 1024. Both weights are 0; d − p is 50 and 40, so ticket 2 goes first.
    ∷ shown (commit 1 10 60 1 0 ∷ commit 1 10 50 1 10 ∷ []) (0 ∷ 10 ∷ []) 0 (10 ∷ 0 ∷ [])
    -- One place beyond the table: n is 2 and P is 21. m is 21 and 20, so k is 10752 / 21 = 512, exactly, and 10240 / 21 = 487. The
    -- weight of ticket 1 is 0, so ticket 2 goes first. E(512) would be 338122, far above E(487) / 20 = 501272 / 20.
    ∷ shown (commit 1 1 22 1 0 ∷ commit 1 20 40 1 1 ∷ []) (0 ∷ 1 ∷ []) 0 (20 ∷ 0 ∷ [])
    -- The last place of the table: N is 3, tickets 3 and 5 are of rate 2 and do not stand side by side, ticket 4 of rate 1 stands beside
    -- each. On line 1 n is 3 and P is 257; m is 171, 1872 and 100, so k is 131328 / 257 = 511, beyond the table, and 76800 / 257 = 298.
    -- E(511) = 343490 is above E(298) / 128 = 9834448 / 128: ticket 3 goes first, and the starts are as before. With a weight of 0 for
    -- 511 ticket 5 would start at 0 and ticket 3 at 128. Tickets 1 and 2 of line 2 exchange their starts, as above.
    ∷ case 3 100 3
    (commit 2 1 60 2 0
    ∷ commit 2 1 1 2 1
    ∷ commit 1 1 172 2 0
    ∷ commit 1 128 2000 1 0
    ∷ commit 1 128 228 2 1
    ∷ replan_lines 1
    ∷ enquire 3
    ∷ enquire 4
    ∷ enquire 5
    ∷ [])
    (starts_from 1 (0 ∷ 1 ∷ 0 ∷ 0 ∷ 1 ∷ []) ++ map gives (planned 0 1 0 1 ∷ waiting 0 2 ∷ waiting 0 1 ∷ waiting 1 2 ∷ []))
    -- n and P stay 3 and 23 while placing. Ticket 2, with m of 0, goes first. At 10 m is 10 and 12, so k is 7680 / 23 = 333 and
    -- 9216 / 23 = 400: E(333) / 10 = 5667207 / 10 is below E(400) / 3 = 1972982 / 3, and ticket 3 goes next. With 2 and 13 it would be
    -- 393 and 472, and E(393) / 10 = 2202926 / 10 is above E(472) / 3 = 634849 / 3.
    ∷ replanned (commit 2 10 30 1 0 ∷ commit 2 10 10 1 10 ∷ commit 2 3 25 1 20 ∷ []) (replan_lines 1) (0 ∷ 10 ∷ 20 ∷ [])
    (planned 0 10 0 1)
    (13 ∷ 0 ∷ 10 ∷ [])
    -- n and P are of the waiting charges: ticket 1 has begun on line 1 and stays, so n is 2 and P is 21. At 1 m is 21 and 20, so k is
    -- 10752 / 21 = 512, beyond the table, and 10240 / 21 = 487: ticket 3 goes first, in minutes 1 to 20, and ticket 2 gets 21. With ticket 1
    -- they would be 3 and 1021, both k 15, and the shorter ticket 2 the first. On line 2, of rate 2, tickets 4 and 5 exchange their starts,
    -- for ticket 5 has no slack: lateness falls from 1 to 0, and the plan is taken.
    ∷ case 2 100 2
    (commit 1 1000 2000 1 0
    ∷ move 1 lent_list
    ∷ commit 1 1 23 1 1
    ∷ commit 1 20 41 1 2
    ∷ commit 2 1 60 2 1
    ∷ commit 2 1 2 2 2
    ∷ replan_lines 1
    ∷ enquire 2
    ∷ enquire 3
    ∷ enquire 4
    ∷ enquire 5
    ∷ [])
    (gives (committed 1 0)
    ∷ (reports (moved 1 0) (1 ∷ 0 ∷ [])
    ∷ (starts_from 2 (1 ∷ 2 ∷ 1 ∷ 2 ∷ [])
    ++ map gives (planned 0 1 0 1 ∷ waiting 21 1 ∷ waiting 1 1 ∷ waiting 2 2 ∷ waiting 1 2 ∷ []))))
    -- m is that of the start: n is 3 and P is 17. At 0 it is 5, 1 and 3, so k is 225, 45 and 135, and ticket 2 goes first. At 6 it is 0
    -- for tickets 1 and 3, so that the shorter one goes first; at the clock it would still be 5 and 3, and ticket 3 the first of them.
    ∷ replanned (commit 1 5 10 1 0 ∷ commit 1 6 7 1 5 ∷ commit 1 6 9 1 11 ∷ []) (replan_lines 1) (0 ∷ 5 ∷ 11 ∷ [])
    (planned 0 12 9 1)
    (6 ∷ 0 ∷ 11 ∷ [])
    -- Unrounded: n is 3 and P is 53. m is 32, 34 and 96, so k is 24576 / 53 = 463, 26112 / 53 = 492 and beyond the table. E(463) / 30 =
    -- 731523 / 30 is 24384 and a tenth, E(492) / 19 = 463313 / 19 is 24384 and 17 / 19: ticket 2 goes first. Rounded down both are 24384, and
    -- ticket 1, with d − p of 32 against 34, would be the first.
    ∷ shown (commit 1 30 62 1 0 ∷ commit 1 19 53 1 30 ∷ commit 1 4 100 1 49 ∷ []) (0 ∷ 30 ∷ 49 ∷ []) 0 (19 ∷ 0 ∷ 49 ∷ [])
    -- A charge that is more urgent but does not fit, for its rate: N is 2, ticket 1 is of rate 2 and the others of rate 1. n is 3 and
    -- P is 37; at 0 m is 0, 0 and 5, so k is 0, 0 and 3840 / 37 = 103. E(0) / 10 is the largest, and ticket 2 takes minutes 0 to 9. Beside
    -- it ticket 1 does not fit at 0 and ticket 3 does: it takes minutes 0 to 14, although E(103) / 15 is below E(0) / 12. Then the
    -- smallest start at which ticket 1 fits is 15. Lateness was 0 + 17 + 7, and is 15 + 5 + 0. With ticket 1 chosen first it would start at
    -- 10 and ticket 3 at 22, and the last end be 37.
    ∷ case 2 100 2
    (commit 1 12 12 2 0 ∷ commit 1 10 5 1 12 ∷ commit 1 15 20 1 12 ∷ replan_lines 1 ∷ enquire 1 ∷ enquire 2 ∷ enquire 3 ∷ [])
    (starts_from 1 (0 ∷ 12 ∷ 12 ∷ []) ++ map gives (planned 0 24 20 1 ∷ waiting 15 2 ∷ waiting 0 1 ∷ waiting 0 1 ∷ []))
    ∷ []
