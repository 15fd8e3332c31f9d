-- Rates, tails, withdrawals and a site of two feeders, each tried on a list of calls, with the values worked out by hand.
use Rattle.std.specs.Prelude.{◌≡◌, true, [], ◌∷◌, map, replicate}
use Rattle.rules.specs.Entry.{one_feeder, commit}
use Rattle.rules.specs.Calls as calls
use Rattle.rules.specs.Calls.{settings, refused, waiting, charging, move, withdraw, opening, step}
use Rattle.guarantee.specs.Past.{Order, Past, past, staying_orders, withdrawn_orders, enquiry, active_until, count_in, site_in, total_time, last_minute}
use Rattle.guarantee.specs.Example.{listed, same}

-- N = D = 2: a charge of rate 2 on line 1 from 0 to 10, one of rate 1 behind it, and one of rate 2 on line 2. At clock 10 the
-- first and the last are dropped, and still counted.
abbrev pub rated : Past
rated =
    past step (opening (one_feeder 2 100 0)).state
    (commit 1 10 60 2 0 ∷ commit 1 10 60 1 10 ∷ commit 2 5 60 2 0 ∷ move 10 (replicate 360 7) ∷ [])

-- each counts with its rate
abbrev pub RatesAreCounted : Type 0
RatesAreCounted =
    (same (listed rated.orders) (1 ∷ 1 ∷ 0 ∷ 10 ∷ 2 ∷ 2 ∷ 1 ∷ 0 ∷ 10 ∷ 1 ∷ 3 ∷ 2 ∷ 0 ∷ 5 ∷ 2 ∷ []) ≡ true)
    × (map (enquiry step rated) (1 ∷ 2 ∷ 3 ∷ []) ≡ refused 15 ∷ waiting 10 1 ∷ refused 15 ∷ [])
    × (map (count_in step rated 1 1) (0 ∷ 9 ∷ 10 ∷ 19 ∷ 20 ∷ []) ≡ 2 ∷ 2 ∷ 1 ∷ 1 ∷ 0 ∷ [])
    × (map (count_in step rated 1 2) (0 ∷ 4 ∷ 5 ∷ []) ≡ 2 ∷ 2 ∷ 0 ∷ [])

-- N = D = 1 and r = 2: two charges on line 1, from 0 to 10 and from 12 to 22. At clock 11 the first one is in its tail: it is
-- charging, with an end below the clock, and counts up to minute 12.
abbrev pub tailed : Past
tailed =
    past step (opening (one_feeder 1 100 2)).state
    (commit 1 10 60 1 0 ∷ commit 1 10 60 1 12 ∷ move 11 (replicate 360 7) ∷ [])

-- up to s + p + r
abbrev pub TailsAreCounted : Type 0
TailsAreCounted =
    (map (enquiry step tailed) (1 ∷ 2 ∷ []) ≡ charging 0 10 1 ∷ waiting 12 1 ∷ [])
    × (map (active_until step tailed) tailed.orders ≡ 12 ∷ 24 ∷ [])
    × (map (count_in step tailed 1 1) (0 ∷ 11 ∷ 12 ∷ 23 ∷ 24 ∷ []) ≡ 1 ∷ 1 ∷ 1 ∷ 1 ∷ 0 ∷ [])
    × (total_time tailed.tails tailed.orders ≡ 24)

-- N = D = 1. Ticket 2, of line 1 from 10 to 20, is withdrawn and has no charge: its start reads 0 and is not counted, in minute 0 or
-- elsewhere (`WithdrawnOrdersAreNotCounted`). The withdrawal of ticket 1, which has begun, is refused. At clock 1 ticket 3, of line 2, is ordered and withdrawn: it
-- is the last accepted, and its minute and the times of all three count in the ceiling.
abbrev pub shorter : Past
shorter =
    past step (opening (one_feeder 1 100 0)).state
    (commit 1 10 60 1 0
    ∷ commit 1 10 60 1 10
    ∷ withdraw 2
    ∷ move 1 (replicate 360 7)
    ∷ withdraw 1
    ∷ commit 2 7 60 1 1
    ∷ withdraw 3
    ∷ [])

-- who stays, who does not, and what the ceiling on ends has
abbrev pub WithdrawnOrdersAreKnown : Type 0
WithdrawnOrdersAreKnown =
    (same shorter.withdrawn (2 ∷ 3 ∷ []) ≡ true)
    × (same (map (λ (o : Order). o.ticket) (staying_orders shorter)) (1 ∷ []) ≡ true)
    × (same (map (λ (o : Order). o.ticket) (withdrawn_orders shorter)) (2 ∷ 3 ∷ []) ≡ true)
    × (map (enquiry step shorter) (1 ∷ 2 ∷ 3 ∷ []) ≡ charging 0 10 1 ∷ refused 15 ∷ refused 15 ∷ [])
    × (last_minute 0 shorter.orders ≡ 1)
    × (total_time shorter.tails shorter.orders ≡ 27)

-- A withdrawn order is counted in no minute: the charge of ticket 1 is counted, and tickets 2 and 3, whose starts read 0, are not.
abbrev pub WithdrawnOrdersAreNotCounted : Type 0
WithdrawnOrdersAreNotCounted =
    (count_in step shorter 1 1 0 ≡ 1)
    × (count_in step shorter 1 1 10 ≡ 0)
    × (count_in step shorter 1 2 0 ≡ 0)
    × (count_in step shorter 1 2 1 ≡ 0)
    × (map (site_in step shorter) (0 ∷ 1 ∷ 9 ∷ 10 ∷ []) ≡ 1 ∷ 1 ∷ 1 ∷ 0 ∷ [])

-- Two feeders of N = D = 1, the second with r = 2, under W = 2. On line 1 of either feeder a charge starts at once, from 0 to 10 and from 0
-- to 5, and draws there until 10 and until 7. One on line 2 of the second feeder then has to wait for W: from 7 to 12.
abbrev pub of_two : Past
of_two =
    past step (opening (record { count = 2; site = 2; settings = settings 1 100 0 ∷ settings 1 100 2 ∷ [] })).state
    (calls.commit 1 1 10 60 1 0 ∷ calls.commit 2 1 5 60 1 0 ∷ calls.commit 2 2 5 60 1 6 ∷ calls.commit 2 2 5 60 1 7 ∷ [])

-- the feeder of each, and up to when it draws
abbrev pub OrdersOfTwoAreKnown : Type 0
OrdersOfTwoAreKnown =
    (same (map (λ (o : Order). o.feeder) of_two.orders) (1 ∷ 2 ∷ 2 ∷ []) ≡ true)
    × (map (active_until step of_two) of_two.orders ≡ 10 ∷ 7 ∷ 14 ∷ [])
    × (total_time of_two.tails of_two.orders ≡ 24)

-- A line counts the orders of its own feeder, with this feeder's r, and W those of all.
abbrev pub FeedersAreCountedApart : Type 0
FeedersAreCountedApart =
    (map (count_in step of_two 1 1) (0 ∷ 9 ∷ 10 ∷ []) ≡ 1 ∷ 1 ∷ 0 ∷ [])
    × (map (count_in step of_two 2 1) (0 ∷ 6 ∷ 7 ∷ []) ≡ 1 ∷ 1 ∷ 0 ∷ [])
    × (map (count_in step of_two 2 2) (6 ∷ 7 ∷ 13 ∷ 14 ∷ []) ≡ 0 ∷ 1 ∷ 1 ∷ 0 ∷ [])
    × (map (site_in step of_two) (0 ∷ 7 ∷ 10 ∷ 14 ∷ []) ≡ 2 ∷ 2 ∷ 1 ∷ 0 ∷ [])
