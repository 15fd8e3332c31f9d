-- What a withdrawal gives, in words.
use Rattle.std.specs.Prelude.{◌↔◌, ◌≡◌, ℕ, ◌+◌, ◌≤◌, List, length}
use Rattle.rules.specs.Charge.{Charge, loads_of, without_ticket}
use Rattle.rules.specs.Site.{charges_on, site_charges, holding}
use Rattle.rules.specs.Calls.{withdrawn, feeder_with}
use Rattle.station.specs.declared.Station.{Station}
use Rattle.station.specs.View.{view}
use Rattle.calls.specs.declared.Call.TheVariants.{Withdraw}
use Rattle.theorem.specs.Single.{OfEveryCall, answer_told, OfSome}
use Rattle.theorem.specs.Soundness.{IsSound}

-- the feeder that holds the ticket, and what it holds but for its charge
abbrev pub holder : Station → ℕ → ℕ
holder s ticket = feeder_with ticket 1 (view s).feeders

abbrev pub rest_of_plan : Station → ℕ → List Charge
rest_of_plan s ticket = without_ticket ticket (charges_on (view s) (holder s ticket))

-- An order is withdrawn exactly when a waiting charge has its ticket and the rest of the feeder's plan is sound.
abbrev pub WaitingIsWithdrawn : Type 0
WaitingIsWithdrawn =
    OfEveryCall (λ s m.
    (ticket : ℕ)
    → m.call ≡ Withdraw ticket
    → (answer_told m ≡ withdrawn)
    ↔ (OfSome (λ c. (c.ticket ≡ ticket) × (s.clock ≤ c.start)) (site_charges (view s))
    × IsSound s (holder s ticket) (loads_of (rest_of_plan s ticket))))

-- All others stay as they are then, and so do the clock and the next ticket.
abbrev pub OthersStayHeld : Type 0
OthersStayHeld =
    OfEveryCall (λ s m.
    (ticket : ℕ)
    → m.call ≡ Withdraw ticket
    → answer_told m ≡ withdrawn
    → view m.station ≡ holding (view s) (holder s ticket) (rest_of_plan s ticket) s.next)

-- And its place is free.
abbrev pub PlaceIsFree : Type 0
PlaceIsFree =
    OfEveryCall (λ s m.
    (ticket : ℕ)
    → m.call ≡ Withdraw ticket
    → answer_told m ≡ withdrawn
    → length (charges_on (view m.station) (holder s ticket)) + 1 ≡ length (charges_on (view s) (holder s ticket)))

-- Otherwise the very station stays.
abbrev pub RefusedStaysHeld : Type 0
RefusedStaysHeld =
    OfEveryCall (λ s m. (ticket : ℕ) → m.call ≡ Withdraw ticket → (answer_told m ≡ withdrawn → ⊥) → m.station ≡ s)
