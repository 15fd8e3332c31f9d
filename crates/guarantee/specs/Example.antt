-- The words of demand 3 tried on a list of calls, with the values worked out by hand.
use Rattle.std.specs.Prelude.{◌≡◌, ℕ, Bool, true, false, ◌&&◌, List, [], ◌∷◌, ◌++◌, map, eqb, replicate}
use Rattle.rules.specs.Charge.{Charge}
use Rattle.rules.specs.Entry.{one_feeder, preview, commit, offer, replan_latest}
use Rattle.rules.specs.Site.{site_charges}
use Rattle.rules.specs.Calls.{pairs, refused, waiting, charging, move, enquire, opening, step}
use Rattle.guarantee.specs.Past.{Order, Report, Past, order_of, report_of, past, after, times_reported, enquiry, start_of, count_in, total_time, last_minute}

-- N = D = 1. The orders of case h, replanned: ticket 2
-- charges on line 1 from 0 to 10, ticket 1 waits for 10. At clock 1 there come ticket 3, on line 2 from 1 to 5 and due at 0,
-- which cannot be met, and ticket 4, on line 3 from 1 to 13, previewed first. The commit on line 9, the one whose start is not
-- the earliest and the move without a list are refused, the offer is kept out. At clock 10
-- tickets 2 and 3 are dropped.

-- the first four calls
abbrev pub first : Past
first =
    past step (opening (one_feeder 1 100 0)).state
    (commit 1 10 60 1 0 ∷ commit 1 10 15 1 10 ∷ replan_latest ∷ move 1 (replicate 360 7) ∷ [])

-- a charge of line 1 for 10 minutes
abbrev pub charge : ℕ → ℕ → ℕ → Charge
charge ticket due start =
    record {
      ticket = ticket;
      line = 1;
      order_minute = 0;
      time = 10;
      active_time = 10;
      due = due;
      start = start;
      rate = 1;
    }

-- what is known after them, written down: the calls that follow would compute it again wherever they read it
abbrev pub at_one : Past
at_one =
    record {
      tails = 0 ∷ [];
      clock = 1;
      orders = order_of 1 (charge 1 60 10) ∷ order_of 1 (charge 2 15 0) ∷ [];
      withdrawn = [];
      reports = report_of (charge 2 15 0) ∷ [];
      station =
          record {
            feeders =
                record { limit = 1; percent = 100; bound = 1; tail = 0; charges = charge 1 60 10 ∷ charge 2 15 0 ∷ [] } ∷ [];
            site = 720;
            clock = 1;
            next = 3;
          };
    }

-- ticket, line, order minute, time and rate of each order
abbrev pub listed : List Order → List ℕ
listed [] = []
listed (o ∷ os) = o.ticket ∷ o.line ∷ o.minute ∷ o.time ∷ o.rate ∷ listed os

-- whether two lists are the same: such a test is computed at once, where comparing the lists is not
abbrev pub same : List ℕ → List ℕ → Bool
same [] [] = true
same [] (y ∷ ys) = false
same (x ∷ xs) [] = false
same (x ∷ xs) (y ∷ ys) = eqb x y && same xs ys

-- the pairs of some reports
abbrev pub paired : List Report → List ℕ
paired [] = []
paired (r ∷ rs) = r.ticket ∷ r.start ∷ paired rs

-- what is known, in numbers: of a held charge its ticket and start, the rest but its due minute is that of its order
abbrev pub numbers : Past → List ℕ
numbers h =
    h.clock ∷ h.station.clock ∷ h.station.next ∷ listed h.orders ++ (paired h.reports ++ pairs (site_charges h.station))

-- what is written down is what the first four calls give
abbrev pub FirstCallsAreKnown : Type 0
FirstCallsAreKnown = same (numbers first) (numbers at_one) ≡ true

abbrev pub example : Past
example =
    after step at_one
    (commit 9 9 9 1 1
    ∷ commit 2 4 0 1 1
    ∷ preview 3 12 99 1
    ∷ commit 3 12 99 1 2
    ∷ commit 3 12 99 1 1
    ∷ move 0 []
    ∷ move 10 (replicate 360 7)
    ∷ enquire 1
    ∷ offer (9 ∷ [])
    ∷ [])

-- the clock, the orders and the reports after all thirteen
abbrev pub CallsAreKnown : Type 0
CallsAreKnown =
    (example.clock ≡ 10)
    × (same (listed example.orders) (1 ∷ 1 ∷ 0 ∷ 10 ∷ 1 ∷ 2 ∷ 1 ∷ 0 ∷ 10 ∷ 1 ∷ 3 ∷ 2 ∷ 1 ∷ 4 ∷ 1 ∷ 4 ∷ 3 ∷ 1 ∷ 12 ∷ 1 ∷ []) ≡ true)
    × (same (paired example.reports) (2 ∷ 0 ∷ 3 ∷ 1 ∷ 4 ∷ 1 ∷ []) ≡ true)

-- each order's start, what enquiries say, and how often each ticket was reported
abbrev pub StartsAreFound : Type 0
StartsAreFound =
    (map (start_of step example) example.orders ≡ 10 ∷ 0 ∷ 1 ∷ 1 ∷ [])
    × (map (enquiry step example) (1 ∷ 2 ∷ 3 ∷ 4 ∷ 5 ∷ []) ≡ waiting 10 1 ∷ refused 15 ∷ refused 15 ∷ charging 1 13 1 ∷ refused 15 ∷ [])
    × (map (times_reported example.reports) (1 ∷ 2 ∷ 3 ∷ 4 ∷ 5 ∷ []) ≡ 0 ∷ 1 ∷ 1 ∷ 1 ∷ 0 ∷ [])

-- what each line counts, the last minute of an order, and the times of all
abbrev pub CountsAreFound : Type 0
CountsAreFound =
    (map (count_in step example 1 1) (0 ∷ 9 ∷ 10 ∷ 19 ∷ 20 ∷ []) ≡ 1 ∷ 1 ∷ 1 ∷ 1 ∷ 0 ∷ [])
    × (map (count_in step example 1 2) (0 ∷ 1 ∷ 4 ∷ 5 ∷ []) ≡ 0 ∷ 1 ∷ 1 ∷ 0 ∷ [])
    × (map (count_in step example 1 3) (0 ∷ 1 ∷ 12 ∷ 13 ∷ []) ≡ 0 ∷ 1 ∷ 1 ∷ 0 ∷ [])
    × (last_minute 0 example.orders ≡ 1)
    × (total_time example.tails example.orders ≡ 36)
