-- A test of each field of what is said of a whole list of calls, which computes on one. Each is true exactly where its field holds (`three_tested` in
-- proofs/TestsThree.antt), but for one. No test of finitely many enquiries tells that no ticket but those of orders is found: that test
-- looks at the charges held, and tells it of stations that refuse an enquiry where no charge has the ticket (`found_tested`).
use Rattle.std.specs.Prelude.{◌≡◌, ℕ, suc, ◌+◌, Bool, true, false, ◌&&◌, List, [], ◌∷◌, map, ltb, leb, eqb, length}
use Rattle.rules.specs.Basics.{throughout, some}
use Rattle.rules.specs.Load.{Load}
use Rattle.rules.specs.Charge.{Charge, has_ticket}
use Rattle.rules.specs.Site.{State, feeder_of, site_charges}
use Rattle.rules.specs.Calls.{refused, waiting, charging, Call, enquire}
use Rattle.guarantee.specs.Past.{Gives, Order, Report, Past, beginning, extended, past, staying_orders, withdrawn_orders, on_feeder, times_reported, enquiry, start_of, end_of, active_until, load_of, total_time, last_minute}
use Rattle.excluded.specs.Same.{every, where_so, same_answer}
use Rattle.excluded.specs.Minutes.{limit_from, balance_from, site_from}
use Rattle.excluded.specs.FieldsThree.{Field, limit, balance, site, feeders, tickets, not_early, in_time, reported, not_reported, waits, charges, finished, gone_not_reported, gone_not_held, no_other, no_other_found, unmoved, place}

abbrev pub numbered : ℕ → List Order → Bool
numbered i [] = true
numbered i (o ∷ os) = eqb o.ticket i && numbered (suc i) os

-- a test of what is known after each first part of the calls, from h on
abbrev pub after_each : (Past → Bool) → Gives → Past → List Call → Bool
after_each f gives h [] = f h
after_each f gives h (c ∷ calls) = f h && after_each f gives (extended h c (gives h.station c)) calls

abbrev pub unmoved_from : Gives → Past → Past → Bool
unmoved_from gives there here =
    every (λ o. where_so (ltb (start_of gives here o) here.clock) (eqb (start_of gives there o) (start_of gives here o))) (staying_orders here)

abbrev pub reported_order : Past → Report → Bool
reported_order h r = some (λ (o : Order). eqb o.ticket r.ticket) h.orders

-- a charge that is held is of an accepted order
abbrev pub charge_ordered : Past → Charge → Bool
charge_ordered h c = some (λ (o : Order). eqb o.ticket c.ticket) h.orders

-- of each feeder by its number
abbrev pub on_each : State → (ℕ → Bool) → Bool
on_each s test = throughout test (length s.feeders) 1

abbrev pub is_feeder : State → ℕ → Bool
is_feeder s f = leb 1 f && leb f (length s.feeders)

-- what the orders of feeder f draw
abbrev pub loads_on : Gives → Past → ℕ → List Load
loads_on gives h f = map (load_of gives h) (on_feeder f (staying_orders h))

-- h is what is known after the calls
abbrev pub tested_on : Gives → State → List Call → Past → Field → Bool
tested_on gives s calls h limit = on_each s (λ f. limit_from (feeder_of s f).limit 0 (loads_on gives h f))
tested_on gives s calls h balance = on_each s (λ f. balance_from (feeder_of s f).bound 0 (loads_on gives h f))
tested_on gives s calls h site = site_from s.site 0 [] (map (load_of gives h) (staying_orders h))
tested_on gives s calls h feeders = every (λ o. is_feeder s o.feeder) h.orders
tested_on gives s calls h tickets = numbered 1 h.orders
tested_on gives s calls h not_early = every (λ o. leb o.minute (start_of gives h o)) (staying_orders h)
tested_on gives s calls h in_time =
    every (λ o. leb (end_of gives h o) (last_minute 0 h.orders + total_time h.tails h.orders)) (staying_orders h)
tested_on gives s calls h reported =
    every (λ o. where_so (ltb (start_of gives h o) h.clock) (eqb (times_reported h.reports o.ticket) 1)) (staying_orders h)
tested_on gives s calls h not_reported =
    every (λ o. where_so (leb h.clock (start_of gives h o)) (eqb (times_reported h.reports o.ticket) 0)) (staying_orders h)
tested_on gives s calls h waits =
    every
    (λ o.
    where_so (leb h.clock (start_of gives h o))
    (same_answer (enquiry gives h o.ticket) (waiting (start_of gives h o) o.rate)))
    (staying_orders h)
tested_on gives s calls h charges =
    every
    (λ o.
    where_so (ltb (start_of gives h o) h.clock)
    (where_so (ltb h.clock (active_until gives h o))
    (same_answer (enquiry gives h o.ticket) (charging (start_of gives h o) (end_of gives h o) o.rate))))
    (staying_orders h)
tested_on gives s calls h finished =
    every
    (λ o. where_so (leb (active_until gives h o) h.clock) (same_answer (enquiry gives h o.ticket) (refused 15)))
    (staying_orders h)
tested_on gives s calls h gone_not_reported =
    every (λ o. eqb (times_reported h.reports o.ticket) 0) (withdrawn_orders h)
tested_on gives s calls h gone_not_held =
    every (λ o. same_answer (enquiry gives h o.ticket) (refused 15)) (withdrawn_orders h)
tested_on gives s calls h no_other = every (reported_order h) h.reports
tested_on gives s calls h no_other_found = every (charge_ordered h) (site_charges h.station)
tested_on gives s calls h unmoved = after_each (unmoved_from gives h) gives (beginning s) calls

abbrev pub tested : Gives → State → List Call → Field → Bool
tested gives s calls f = tested_on gives s calls (past gives s calls) f

-- the field whose test goes by the charges held
abbrev pub by_charges : Field → Bool
by_charges f = eqb (place f) (place no_other_found)

-- an enquiry is refused where no charge that is held has the ticket
abbrev pub RefusesOthers : Gives → Type 0
RefusesOthers gives =
    (s : State) (t : ℕ) → some (has_ticket t) (site_charges s) ≡ false → (gives s (enquire t)).answer ≡ refused 15
