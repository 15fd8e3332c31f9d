-- What an offer and both replans leave and answer, in words.
use Rattle.std.specs.Prelude.{◌↔◌, ◌≡◌, ℕ, ◌+◌, ◌≤◌, ◌<◌, true, List, map}
use Rattle.rules.specs.Basics.{Each}
use Rattle.rules.specs.Load.{active}
use Rattle.rules.specs.Charge.{Charge, starting, load_of, begun_charges, waiting_charges, lateness}
use Rattle.rules.specs.Replan.{Proposal, starts}
use Rattle.rules.specs.Site.{charges_on, holding}
use Rattle.rules.specs.Calls.{planned}
use Rattle.station.specs.View.{view}
use Rattle.calls.specs.declared.Call.TheVariants.{Offer}
use Rattle.theorem.specs.Single.{OfEveryCall, answer_told, IsGranted, HasCause}
use Rattle.theorem.specs.Proposed.{Proposes, with_starts, AreBetter}

-- Starts are taken exactly when they are better: for an offer those that were given, for a replan those of its rule.
abbrev pub BetterStartsAreTaken : Type 0
BetterStartsAreTaken =
    OfEveryCall (λ s m.
    (f rounds : ℕ) (ss : List ℕ)
    → Proposes s m f (starts ss) rounds
    → IsGranted m
    → HasCause m 0 ↔ AreBetter s f ss)

-- So an offer is taken exactly when the starts that it was given are better.
abbrev pub BetterOfferIsTaken : Type 0
BetterOfferIsTaken =
    OfEveryCall (λ s m. (f : ℕ) → m.call ≡ Offer f → IsGranted m → HasCause m 0 ↔ AreBetter s f m.numbers)

-- No charge starts before its order minute then, and each draws from its start on without a break.
abbrev pub TakenStartsAreInOrder : Type 0
TakenStartsAreInOrder =
    OfEveryCall (λ s m.
    (f rounds : ℕ) (ss : List ℕ)
    → Proposes s m f (starts ss) rounds
    → HasCause m 0
    → Each (λ c. c.order_minute ≤ c.start) (with_starts s f ss)
    × Each
    (λ c. (t : ℕ) → (active (load_of c) t ≡ true) ↔ ((c.start ≤ t) × (t < c.start + c.active_time)))
    (with_starts s f ss))

-- The waiting charges have these starts then. Begun charges, all else of the waiting ones, the other feeders, the clock and the next
-- ticket are as they were.
abbrev pub TakenStartsAreGiven : Type 0
TakenStartsAreGiven =
    OfEveryCall (λ s m.
    (f rounds : ℕ) (ss : List ℕ)
    → Proposes s m f (starts ss) rounds
    → HasCause m 0
    → (map (λ (c : Charge). c.start) (waiting_charges s.clock (charges_on (view m.station) f)) ≡ ss)
    × (begun_charges s.clock (charges_on (view m.station) f) ≡ begun_charges s.clock (charges_on (view s) f))
    × (map (λ c. starting c 0) (charges_on (view m.station) f) ≡ map (λ c. starting c 0) (charges_on (view s) f))
    × (view m.station ≡ holding (view s) f (charges_on (view m.station) f) s.next))

-- Where they are not taken, the very station stays.
abbrev pub OtherwiseTheStationStays : Type 0
OtherwiseTheStationStays =
    OfEveryCall (λ s m.
    (f rounds : ℕ) (proposal : Proposal)
    → Proposes s m f proposal rounds
    → (HasCause m 0 → ⊥)
    → m.station ≡ s)

-- The answer: a cause, the feeder's lateness before and after, and how many rounds were made. No list is written.
abbrev pub PlanIsAnswered : Type 0
PlanIsAnswered =
    OfEveryCall (λ s m.
    (f rounds : ℕ) (proposal : Proposal)
    → Proposes s m f proposal rounds
    → IsGranted m
    → (cause : ℕ)
    × (answer_told m
    ≡ planned cause (lateness (charges_on (view s) f)) (lateness (charges_on (view m.station) f)) rounds))

abbrev pub PlanWritesNothing : Type 0
PlanWritesNothing =
    OfEveryCall (λ s m.
    (f rounds : ℕ) (proposal : Proposal) → Proposes s m f proposal rounds → m.written ≡ m.list)
