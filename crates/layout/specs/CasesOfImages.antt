-- Bytes worked out by hand for a small station, and small checks.
use Rattle.std.specs.Prelude.{ℕ, zero, suc, ◌+◌, Bool, true, false, List, [], ◌∷◌}
use Rattle.rules.specs.Charge.{Charge}
use Rattle.rules.specs.Site.{State}
use Rattle.rules.specs.Calls.{bound_of, settings, fresh, least}
use Rattle.layout.specs.Bytes.{packed}

-- a charge in a station with r = 3: ticket, start, d, order minute, p, line, rate, as a record has them
abbrev pub charge : ℕ → ℕ → ℕ → ℕ → ℕ → ℕ → ℕ → Charge
charge ticket start due order_minute time line rate =
    record {
      ticket = ticket;
      line = line;
      order_minute = order_minute;
      time = time;
      active_time = time + 3;
      due = due;
      start = start;
      rate = rate;
    }

-- a site of one feeder under W 720: N, c, r, clock, next ticket, charges
abbrev pub station_with : ℕ → ℕ → ℕ → ℕ → ℕ → List Charge → State
station_with limit percent tail clock next charges =
    record {
      feeders =
          record {
            limit = limit;
            percent = percent;
            bound = bound_of limit percent;
            tail = tail;
            charges = charges;
          }
          ∷ [];
      site = 720;
      clock = clock;
      next = next;
    }

-- with r = 3: N, c, clock, next ticket, charges
abbrev pub station : ℕ → ℕ → ℕ → ℕ → List Charge → State
station limit percent clock next charges = station_with limit percent 3 clock next charges

-- the same under another W
abbrev pub under : ℕ → State → State
under site s = record { feeders = s.feeders; site = site; clock = s.clock; next = s.next }

-- One charge began 2 minutes ago, one waits for the minute of the clock.
abbrev pub small : State
small = station 2 50 300 261 (charge 259 298 70000 290 300 1 1 ∷ charge 260 300 1000 300 5 2 1 ∷ [])

-- a fresh site of two feeders
abbrev pub two_feeders : State
two_feeders = fresh (record { count = 2; site = 720; settings = settings 2 50 3 ∷ settings 1 100 0 ∷ [] })

-- Block 0: 2, 50, 3, 300 = 44 + 256, 261 = 5 + 256, 2, 720 = 208 + 2 × 256.
abbrev pub header_bytes : List (ℕ × ℕ)
header_bytes =
    (0, 2) ∷ (1, 0) ∷ (4, 50) ∷ (8, 3) ∷ (12, 44) ∷ (13, 1) ∷ (14, 0) ∷ (16, 5) ∷ (17, 1)
    ∷ (20, 2) ∷ (24, 208) ∷ (25, 2) ∷ (26, 0) ∷ (28, 0) ∷ (507, 0) ∷ []

-- Blocks 1 to 8: the lowest bytes of both tickets lie at 512 and 513, the next ones 200 places on, and so forth.
abbrev pub record_bytes : List (ℕ × ℕ)
record_bytes =
    (512, 3) ∷ (513, 4) ∷ (514, 0) ∷ (712, 1) ∷ (713, 1) ∷ (912, 0) ∷ (1116, 0)
    ∷ (1316, 42) ∷ (1317, 44) ∷ (1516, 1) ∷ (1517, 1) ∷ (1720, 0) ∷ (1920, 0)
    ∷ (2124, 112) ∷ (2125, 232) ∷ (2324, 17) ∷ (2325, 3) ∷ (2524, 1) ∷ (2525, 0) ∷ (2728, 0)
    ∷ (2928, 34) ∷ (2929, 44) ∷ (3132, 1) ∷ (3133, 1) ∷ (3332, 0) ∷ (3532, 0)
    ∷ (3736, 44) ∷ (3737, 5) ∷ (3936, 1) ∷ (3937, 0) ∷ (4140, 1) ∷ (4141, 2) ∷ (4340, 1) ∷ (4341, 1) ∷ (4540, 0) ∷ (4603, 0)
    ∷ []

abbrev pub cases_of_images : List (State × List (ℕ × ℕ))
cases_of_images =
    (small, header_bytes)
    ∷ (small, record_bytes)
    ∷ (fresh least, (0, 1) ∷ (4, 100) ∷ (8, 0) ∷ (12, 0) ∷ (16, 1) ∷ (20, 0) ∷ (24, 208) ∷ (25, 2) ∷ (512, 0) ∷ [])
    ∷ []

-- The check of block 0 is 2 + 5 × 50 + 9 × 3 + 13 × 44 + 14 + 17 × 5 + 18 + 21 × 2 + 25 × 208 + 26 × 2 = 6,262 = 118 + 24 × 256. "the
-- checks use the rearranged bytes": block 1 has 3 + 2 × 4 + 201 + 202 = 414 = 158 + 256, block 2 has 293 × 42 + 294 × 44 + 493 + 494
-- = 26,229 = 117 + 102 × 256, block 8 has 45 + 46 × 2 + 245 + 246 = 628 = 116 + 2 × 256. A fresh station of 1 and 100 has 1 + 5 × 100
-- + 17 + 25 × 208 + 26 × 2 = 5,770 = 138 + 22 × 256.
abbrev pub cases_of_checks : List (State × List (ℕ × ℕ))
cases_of_checks =
    (small, (508, 118) ∷ (509, 24) ∷ (510, 0) ∷ (511, 0) ∷ [])
    ∷ (small, (1020, 158) ∷ (1021, 1) ∷ (1022, 0) ∷ (1023, 0) ∷ (1532, 117) ∷ (1533, 102) ∷ (4604, 116) ∷ (4605, 2) ∷ [])
    ∷ (fresh least, (508, 138) ∷ (509, 22) ∷ [])
    ∷ []

-- Where bytes of records lie: record, byte, place. Number 507 is the last of block 1, 3,999 is at place 443 of block 8.
abbrev pub cases_of_places : List (ℕ × ℕ × ℕ)
cases_of_places =
    (0, 0, 512) ∷ (1, 0, 513) ∷ (199, 0, 711) ∷ (0, 1, 712) ∷ (107, 2, 1019) ∷ (108, 2, 1024) ∷ (179, 19, 4519) ∷ (199, 19, 4539) ∷ []

-- Two bytes swapped. A check without the place, their sum, does not find it: it is 16 for both. The check is 7 + 2 × 9, then 9 + 2 × 7.
abbrev pub summed : (ℕ → ℕ) → ℕ → ℕ
summed f zero = 0
summed f (suc n) = summed f n + f n

abbrev pub before : ℕ → ℕ
before = packed ((1, 7) ∷ (1, 9) ∷ [])

abbrev pub swapped : ℕ → ℕ
swapped = packed ((1, 9) ∷ (1, 7) ∷ [])

-- Refusals of all eight outcomes of the three tests: size, checks, contents
abbrev pub cases_of_rows : List (Bool × Bool × Bool × ℕ)
cases_of_rows =
    (true, true, true, 0)
    ∷ (true, true, false, 22)
    ∷ (true, false, true, 21)
    ∷ (true, false, false, 21)
    ∷ (false, true, true, 20)
    ∷ (false, true, false, 20)
    ∷ (false, false, true, 20)
    ∷ (false, false, false, 20)
    ∷ []

-- Refusals of saving: sizes, one feeder
abbrev pub cases_of_save_rows : List (Bool × Bool × ℕ)
cases_of_save_rows =
    (true, true, 0)
    ∷ (true, false, 22)
    ∷ (false, true, 20)
    ∷ (false, false, 20)
    ∷ []
