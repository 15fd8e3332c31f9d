-- What holds of every accepted order after any calls: `s` is the station asked for, and `h` is what is known of the calls.
-- "Stays" is said of an order whose ticket was not withdrawn (`staying_orders` in crates/guarantee/specs/Past.antt).
use Rattle.std.specs.Prelude.{◌↔◌, ◌≡◌, ℕ, ◌+◌, ◌≤◌, ◌<◌, true, List, ◌++◌}
use Rattle.rules.specs.Basics.{Each}
use Rattle.rules.specs.Load.{active}
use Rattle.rules.specs.Site.{State}
use Rattle.rules.specs.Valid.{IsFeeder}
use Rattle.rules.specs.Calls.{step}
use Rattle.guarantee.specs.Past.{Past, times_reported, start_of, end_of, active_until, load_of, staying_orders, total_time, last_minute}
use Rattle.theorem.specs.Theorem.{Made}
use Rattle.theorem.specs.AfterCalls.{About, known_after}

-- Every accepted order, a withdrawn one too, named a feeder that is there.
abbrev pub OnAFeeder : State → Past → Type 0
OnAFeeder s h = Each (λ o. IsFeeder s o.feeder) h.orders

-- An order that stays does not start before its order minute, which is the clock at its commit.
abbrev pub NotBeforeItsOrderMinute : State → Past → Type 0
NotBeforeItsOrderMinute s h = Each (λ o. o.minute ≤ start_of step h o) (staying_orders h)

-- It draws in every minute from its start to its end and the r minutes after it, without a break, and in no other.
abbrev pub UnbrokenForItsFullTime : State → Past → Type 0
UnbrokenForItsFullTime s h =
    Each
    (λ o. (t : ℕ) → (active (load_of step h o) t ≡ true) ↔ ((start_of step h o ≤ t) × (t < active_until step h o)))
    (staying_orders h)

-- One that has begun, its start being below the clock, has been reported exactly once.
abbrev pub ReportedOnceBegun : State → Past → Type 0
ReportedOnceBegun s h =
    Each (λ o. start_of step h o < h.clock → times_reported h.reports o.ticket ≡ 1) (staying_orders h)

-- Until then it has never been reported.
abbrev pub NotReportedBefore : State → Past → Type 0
NotReportedBefore s h =
    Each (λ o. h.clock ≤ start_of step h o → times_reported h.reports o.ticket ≡ 0) (staying_orders h)

-- None ends later than the last minute in which an order was accepted plus the charging times and r of all accepted orders,
-- withdrawn ones too.
abbrev pub EndsUnderTheCeiling : State → Past → Type 0
EndsUnderTheCeiling s h =
    Each (λ o. end_of step h o ≤ last_minute 0 h.orders + total_time h.tails h.orders) (staying_orders h)

-- No start before the clock has ever changed: an order that had begun after some first part of the calls has the same start after all of them.
abbrev pub BegunStartsStay : About
BegunStartsStay x first calls =
    (part rest : List Made)
    → calls ≡ part ++ rest
    → Each
    (λ o. start_of step (known_after first part) o < (known_after first part).clock
    → start_of step (known_after first calls) o ≡ start_of step (known_after first part) o)
    (staying_orders (known_after first part))
