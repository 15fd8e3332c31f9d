-- The stations on which wrong ones are tried, written down, so that what is computed on them does not begin with an opening;
-- proofs/Stations.antt shows for each the calls that lead to it.
use Rattle.std.specs.Prelude.{ℕ, ◌+◌, List, [], ◌∷◌}
use Rattle.rules.specs.Charge.{Charge}
use Rattle.rules.specs.Site.{State, feeder_of, with_charges}
use Rattle.rules.specs.Entry.{one_feeder}
use Rattle.rules.specs.Calls.{settings, Asked, bound_of, fresh}

-- a charge ordered in minute 0 where r is given: ticket, line, p, d, rate, start; one with r 0, and one of rate 1 and r 0
abbrev held_with_tail : ℕ → ℕ → ℕ → ℕ → ℕ → ℕ → ℕ → Charge
held_with_tail r ticket line p d rate start =
    record { ticket = ticket; line = line; order_minute = 0; time = p; active_time = p + r; due = d; start = start; rate = rate }

abbrev held_at : ℕ → ℕ → ℕ → ℕ → ℕ → ℕ → Charge
held_at = held_with_tail 0

abbrev held : ℕ → ℕ → ℕ → ℕ → ℕ → Charge
held ticket line p d start = held_at ticket line p d 1 start

-- one feeder under W 720: r, N, c, clock, next ticket; and with r 0
abbrev standing_with_tail : ℕ → ℕ → ℕ → ℕ → ℕ → List Charge → State
standing_with_tail r n c clock next cs =
    record {
      feeders = record { limit = n; percent = c; bound = bound_of n c; tail = r; charges = cs } ∷ [];
      site = 720;
      clock = clock;
      next = next;
    }

abbrev standing : ℕ → ℕ → ℕ → ℕ → List Charge → State
standing = standing_with_tail 0

-- the fresh station of 1, 100, and the same moved to 5
abbrev pub station : State
station = fresh (one_feeder 1 100 0)

abbrev pub station_five : State
station_five = standing 1 100 5 1 []

-- a charge on each line from 0 to 10
abbrev pub station_three : State
station_three = standing 1 100 0 4 (held 1 1 10 60 0 ∷ held 2 2 10 60 0 ∷ held 3 3 10 60 0 ∷ [])

-- and ticket 4 on line 1, due at 15, from 10 to 20
abbrev pub station_four : State
station_four =
    standing 1 100 0 5 (held 1 1 10 60 0 ∷ held 2 2 10 60 0 ∷ held 3 3 10 60 0 ∷ held 4 1 10 15 10 ∷ [])

-- N = 2, D = 1: a charge on line 1 from 0 to 10
abbrev pub station_two : State
station_two = standing 2 50 0 2 (held 1 1 10 60 0 ∷ [])

-- after the orders of case h: starts 0 and 10, lateness 5; and after the same orders with N = 2, D = 1
abbrev held_h : List Charge
held_h = held 1 1 10 60 0 ∷ held 2 1 10 15 10 ∷ []

abbrev pub station_h : State
station_h = standing 1 100 0 3 held_h

abbrev pub station_h_two : State
station_h_two = standing 2 50 0 3 held_h

-- case f: ticket 5 waits for 5, all others have begun, and without it minutes 5 to 9 would count 2, 0, 1
abbrev pub station_f : State
station_f =
    standing 2 50 1 7
    (held 1 1 10 60 0 ∷ held 2 3 10 60 0 ∷ held 3 2 5 60 0 ∷ held 4 2 5 60 0 ∷ held 5 2 5 20 5 ∷ held 6 1 10 60 0 ∷ [])

-- a charge of 20 minutes from 0 on, and behind it one of 2 minutes, due at 14
abbrev pub station_short : State
station_short = standing 1 100 0 3 (held 1 1 20 30 0 ∷ held 2 1 2 14 20 ∷ [])

-- after the orders of case h with N = 1 and r 2: starts 0 and 12, lateness 7
abbrev pub station_tailed : State
station_tailed = standing_with_tail 2 1 100 0 3 (held_with_tail 2 1 1 10 60 1 0 ∷ held_with_tail 2 2 1 10 15 1 12 ∷ [])

-- N = 4, D = 2: two charges of rate 2 and one of rate 1, on line 1 from 0, 10 and 20
abbrev pub station_rated : State
station_rated = standing 4 50 0 4 (held_at 1 1 10 60 2 0 ∷ held_at 2 1 10 60 2 10 ∷ held 3 1 10 25 20 ∷ [])

-- at clock 1 ticket 2 waits for 1 and ticket 3, due at 11, for 11
abbrev pub waiting_since : State
waiting_since = standing 1 100 1 4 (held 2 1 10 60 1 ∷ held 3 1 10 11 11 ∷ [])

-- at clock 2 ticket 1 charges on line 2 from 0 to 10, tickets 3 and 4, due at 12, wait for 2 and 12
abbrev pub begun_and_waiting : State
begun_and_waiting = standing 1 100 2 5 (held 1 2 10 60 0 ∷ held 3 1 10 60 2 ∷ held 4 1 10 12 12 ∷ [])

-- Two feeders of the same N and c, with r 0, under W

abbrev pub pair_of : ℕ → ℕ → ℕ → Asked
pair_of w n c = record { count = 2; site = w; settings = settings n c 0 ∷ settings n c 0 ∷ [] }

abbrev pub pair_fresh : State
pair_fresh = fresh (pair_of 720 1 100)

abbrev holding_both : State → ℕ → List Charge → List Charge → State
holding_both s next cs ds =
    record {
      feeders = with_charges (feeder_of s 1) cs ∷ with_charges (feeder_of s 2) ds ∷ [];
      site = s.site;
      clock = s.clock;
      next = next;
    }

-- N = 1: a charge on line 1 of the first feeder from 0 to 10, under W 1 and under W 720
abbrev pub station_pair : State
station_pair = holding_both (fresh (pair_of 1 1 100)) 2 (held 1 1 10 60 0 ∷ []) []

abbrev pub station_pair_wide : State
station_pair_wide = holding_both (fresh (pair_of 720 1 100)) 2 (held 1 1 10 60 0 ∷ []) []

-- N = 2, W = 1: the orders of case h on the first feeder, where W keeps them apart
abbrev pub station_site : State
station_site = holding_both (fresh (pair_of 1 2 100)) 3 held_h []

-- N = 1, W = 1: the same orders, the first of them on the second feeder
abbrev pub station_beside : State
station_beside = holding_both (fresh (pair_of 1 1 100)) 3 (held 2 1 10 15 10 ∷ []) (held 1 1 10 60 0 ∷ [])

-- N = 1, W = 1: a charge on line 1 of the second feeder from 5 to 10, and nothing before it
abbrev pub station_gap : State
station_gap = holding_both (fresh (pair_of 1 1 100)) 3 [] (held 2 1 5 60 5 ∷ [])

-- N = 1, W = 720: both on the first feeder, nothing on the second
abbrev pub station_pair_h : State
station_pair_h = holding_both (fresh (pair_of 720 1 100)) 3 held_h []
