-- What each order can rely on where the list of calls began with an image from elsewhere: those that the image holds, and those
-- accepted since.
use Rattle.std.specs.Prelude.{◌≡◌, ◌≤◌, ◌<◌}
use Rattle.rules.specs.Basics.{Each}
use Rattle.rules.specs.Calls.{refused, waiting, charging, step}
use Rattle.guarantee.specs.Past.{Order, Past, staying_orders, withdrawn_orders, times_reported, enquiry, start_of, end_of, active_until}
use Rattle.restarts.specs.Elsewhere.{KnownSinceAnImage}

-- of each order that stays
abbrev pub EachThatStays : (Past → Order → Type 0) → Type 0
EachThatStays P = KnownSinceAnImage (λ s h. Each (P h) (staying_orders h))

-- of each that was withdrawn
abbrev pub EachWithdrawn : (Past → Order → Type 0) → Type 0
EachWithdrawn P = KnownSinceAnImage (λ s h. Each (P h) (withdrawn_orders h))

abbrev pub NoStartBeforeItsOrder : Type 0
NoStartBeforeItsOrder = EachThatStays (λ h o. o.minute ≤ start_of step h o)

abbrev pub BegunIsReportedOnce : Type 0
BegunIsReportedOnce = EachThatStays (λ h o. start_of step h o < h.clock → times_reported h.reports o.ticket ≡ 1)

abbrev pub WaitingIsNotReported : Type 0
WaitingIsNotReported = EachThatStays (λ h o. h.clock ≤ start_of step h o → times_reported h.reports o.ticket ≡ 0)

-- An enquiry finds it waiting, with its start and its rate,
abbrev pub WaitingIsFound : Type 0
WaitingIsFound =
    EachThatStays (λ h o. h.clock ≤ start_of step h o → enquiry step h o.ticket ≡ waiting (start_of step h o) o.rate)

-- then charging, up to s + p + r,
abbrev pub ChargingIsFound : Type 0
ChargingIsFound =
    EachThatStays
    (λ h o.
    start_of step h o < h.clock
    → h.clock < active_until step h o
    → enquiry step h o.ticket ≡ charging (start_of step h o) (end_of step h o) o.rate)

-- and no more from then on.
abbrev pub FinishedIsNotFound : Type 0
FinishedIsNotFound = EachThatStays (λ h o. active_until step h o ≤ h.clock → enquiry step h o.ticket ≡ refused 15)

-- A withdrawn order has no charge.
abbrev pub WithdrawnIsNotReported : Type 0
WithdrawnIsNotReported = EachWithdrawn (λ h o. times_reported h.reports o.ticket ≡ 0)

abbrev pub WithdrawnIsNotFound : Type 0
WithdrawnIsNotFound = EachWithdrawn (λ h o. enquiry step h o.ticket ≡ refused 15)
