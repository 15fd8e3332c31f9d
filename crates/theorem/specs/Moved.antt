-- What a clock move reports, drops and leaves, in words.
use Rattle.std.specs.Prelude.{◌⊎◌, ◌≡◌, ℕ, ◌+◌, ◌*◌, ◌≤◌, ◌<◌, Bool, ◌&&◌, List, [], ◌∷◌, ◌++◌, ltb, leb, length, get_or, drop}
use Rattle.rules.specs.Basics.{keep, Each}
use Rattle.rules.specs.Charge.{Charge}
use Rattle.rules.specs.Site.{feeder_of, site_charges, with_charges}
use Rattle.rules.specs.Calls.{moved, pairs}
use Rattle.station.specs.declared.Station.{Station}
use Rattle.station.specs.View.{view}
use Rattle.calls.specs.declared.Call.TheVariants.{Move}
use Rattle.theorem.specs.Single.{OfEveryCall, answer_told, IsGranted}

-- the charges that the move passes: they start from the old clock on and before the new one
abbrev pub passed_charges : Station → ℕ → List Charge
passed_charges s target = keep (λ c. leb s.clock c.start && ltb c.start target) (site_charges (view s))

-- the charges that are over at the new clock, and draw nothing from then on
abbrev pub is_over : ℕ → Charge → Bool
is_over target c = leb (c.start + c.active_time) target

abbrev pub is_left : ℕ → Charge → Bool
is_left target c = ltb target (c.start + c.active_time)

-- each charge starts before all behind it, or with them and has the smaller ticket
abbrev pub InTurn : List Charge → Type 0
InTurn [] = Unit {0}
InTurn (c ∷ cs) = Each (λ d. (c.start < d.start) ⊎ ((c.start ≡ d.start) × (c.ticket < d.ticket))) cs × InTurn cs

-- the same charges, each as often: of both lists as many pass any test
abbrev pub AreTheSame : List Charge → List Charge → Type 0
AreTheSame cs ds = (test : Charge → Bool) → length (keep test cs) ≡ length (keep test ds)

-- A move that is not refused writes the ticket and the start of each charge that it passes to the front of the list, in the order of their
-- starts and then of their tickets.
abbrev pub MoveReportsInTurn : Type 0
MoveReportsInTurn =
    OfEveryCall (λ s m.
    (target : ℕ)
    → m.call ≡ Move target
    → IsGranted m
    → (report : List Charge)
    × AreTheSame report (passed_charges s target)
    × InTurn report
    × (m.written ≡ pairs report ++ drop (2 * length report) m.list))

-- Places behind them keep what they held.
abbrev pub MoveKeepsLaterPlaces : Type 0
MoveKeepsLaterPlaces =
    OfEveryCall (λ s m.
    (target place : ℕ)
    → m.call ≡ Move target
    → IsGranted m
    → 2 * length (passed_charges s target) ≤ place
    → get_or m.written place 0 ≡ get_or m.list place 0)

-- It answers how many it passes, and how many of those that are held are over.
abbrev pub MoveCounts : Type 0
MoveCounts =
    OfEveryCall (λ s m.
    (target : ℕ)
    → m.call ≡ Move target
    → IsGranted m
    → answer_told m ≡ moved (length (passed_charges s target)) (length (keep (is_over target) (site_charges (view s)))))

-- The clock is the target then, each feeder holds the charges that are not over, and all else is as it was.
abbrev pub MoveSetsTheClock : Type 0
MoveSetsTheClock =
    OfEveryCall (λ s m.
    (target : ℕ)
    → m.call ≡ Move target
    → IsGranted m
    → (m.station.clock ≡ target)
    × (m.station.next ≡ s.next)
    × (m.station.site ≡ s.site)
    × (m.station.count ≡ s.count)
    × ((f : ℕ)
    → feeder_of (view m.station) f
    ≡ with_charges (feeder_of (view s) f) (keep (is_left target) (feeder_of (view s) f).charges)))
