-- What holds of a list of calls that began with an image from elsewhere, one by one. What went before is not known.
use Rattle.std.specs.Prelude.{◌≡◌, ℕ, ◌+◌, ◌≤◌, ◌<◌, true, false, List, ◌++◌, map, eqb}
use Rattle.rules.specs.Basics.{Each, some}
use Rattle.rules.specs.Load.{IsLine}
use Rattle.rules.specs.Charge.{Charge, begun_charges}
use Rattle.rules.specs.Site.{State, feeder_of, charges_on, site_charges}
use Rattle.rules.specs.Calls.{Asked, refused, Call, step}
use Rattle.rules.specs.Valid.{IsFeeder}
use Rattle.guarantee.specs.Past.{Order, Report, Past, order_of, orders_of, report_of, past, staying_orders, times_reported, enquiry, start_of, count_in, site_in, Numbered}
use Rattle.layout.specs.Reading.{restoring}
use Rattle.restarts.specs.Events.{Event, an_image, in_force}

-- of the station of an image and the calls made since, whatever else happened
abbrev pub SinceAnImage : (State → List Call → Type 0) → Type 0
SinceAnImage P =
    (x : Asked) (events : List Event) (image : List ℕ) (calls : List Call)
    → in_force x events ≡ record { beginning = an_image image; calls = calls }
    → P (restoring image).state calls

-- of what is known after these calls
abbrev pub KnownSinceAnImage : (State → Past → Type 0) → Type 0
KnownSinceAnImage P = SinceAnImage (λ s calls. P s (past step s calls))

-- From the clock of the image on no line of a feeder has more than its limit charging,
abbrev pub LimitFromItsClock : Type 0
LimitFromItsClock =
    KnownSinceAnImage
    (λ s h. (f l t : ℕ) → IsFeeder s f → IsLine l → s.clock ≤ t → count_in step h f l t ≤ (feeder_of s f).limit)

-- no two of its lines differ by more than its bound,
abbrev pub BalanceFromItsClock : Type 0
BalanceFromItsClock =
    KnownSinceAnImage
    (λ s h.
    (f l m t : ℕ)
    → IsFeeder s f
    → IsLine l
    → IsLine m
    → s.clock ≤ t
    → count_in step h f l t ≤ count_in step h f m t + (feeder_of s f).bound)

-- and the site draws no more than W.
abbrev pub SiteLimitFromItsClock : Type 0
SiteLimitFromItsClock = KnownSinceAnImage (λ s h. (t : ℕ) → s.clock ≤ t → site_in step h t ≤ s.site)

-- Each order is counted on a feeder.
abbrev pub OrdersAreOnFeeders : Type 0
OrdersAreOnFeeders = KnownSinceAnImage (λ s h. Each (λ o. IsFeeder s o.feeder) h.orders)

-- The orders that the image holds come first, and those accepted since get the tickets from its next one on.
abbrev pub TicketsGoOn : Type 0
TicketsGoOn = KnownSinceAnImage (λ s h. (new : List Order) × (h.orders ≡ orders_of s ++ new) × Numbered s.next new)

-- No ticket but theirs has been reported,
abbrev pub NoOtherIsReported : Type 0
NoOtherIsReported =
    KnownSinceAnImage (λ s h. (t : ℕ) → 1 ≤ times_reported h.reports t → some (λ (o : Order). eqb o.ticket t) h.orders ≡ true)

-- and none but theirs is found.
abbrev pub NoOtherIsFound : Type 0
NoOtherIsFound =
    KnownSinceAnImage (λ s h. (t : ℕ) → some (λ (o : Order). eqb o.ticket t) h.orders ≡ false → enquiry step h t ≡ refused 15)

-- No start before the clock has ever changed, whatever the calls after it were.
abbrev pub NoBegunStartMoves : Type 0
NoBegunStartMoves =
    SinceAnImage
    (λ s calls.
    (part rest : List Call)
    → calls ≡ part ++ rest
    → Each
    (λ o.
    start_of step (past step s part) o < (past step s part).clock
    → start_of step (past step s calls) o ≡ start_of step (past step s part) o)
    (staying_orders (past step s part)))

-- A charge that had begun keeps the start that the image has it with,
abbrev pub BegunAsTheImageHasThem : Type 0
BegunAsTheImageHasThem =
    KnownSinceAnImage
    (λ s h.
    (f : ℕ)
    → IsFeeder s f
    → Each (λ (c : Charge). c.start < s.clock → start_of step h (order_of f c) ≡ c.start) (charges_on s f))

-- and is not reported again.
abbrev pub BegunAreNotReportedAgain : Type 0
BegunAreNotReportedAgain =
    KnownSinceAnImage
    (λ s h.
    (new : List Report)
    × (h.reports ≡ map report_of (begun_charges s.clock (site_charges s)) ++ new)
    × ((f : ℕ) → IsFeeder s f → Each (λ (c : Charge). c.start < s.clock → times_reported new c.ticket ≡ 0) (charges_on s f)))
