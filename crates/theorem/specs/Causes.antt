-- Why an offer or a replan keeps the old starts, in words.
use Rattle.std.specs.Prelude.{◌⊎◌, ◌↔◌, ◌≡◌, ℕ, ◌+◌, ◌≤◌, ◌<◌, List, [], ◌∷◌}
use Rattle.rules.specs.Load.{Load, count, drawn, IsLine}
use Rattle.rules.specs.Charge.{loads_of, lateness}
use Rattle.rules.specs.Replan.{starts, none}
use Rattle.rules.specs.Site.{feeder_of, charges_on, others_of}
use Rattle.station.specs.declared.Station.{Station}
use Rattle.station.specs.View.{view}
use Rattle.theorem.specs.Single.{OfEveryCall, IsGranted, HasCause, OfSome, Condition, when, FirstToHold}
use Rattle.theorem.specs.Proposed.{Proposes, with_starts, end_now, end_with}

-- in some minute from the clock on a count is above the feeder's limit, or the site above its own
abbrev pub IsOverfull : Station → ℕ → List Load → Type 0
IsOverfull s f loads =
    (t : ℕ)
    × (s.clock ≤ t)
    × (((line : ℕ) × IsLine line × ((feeder_of (view s) f).limit < count loads line t))
    ⊎ (s.site < drawn (loads_of (others_of (view s) f)) t + drawn loads t))

-- in some minute from the clock on two counts differ by more than the feeder's bound
abbrev pub IsUneven : Station → ℕ → List Load → Type 0
IsUneven s f loads =
    (t : ℕ)
    × (s.clock ≤ t)
    × (line : ℕ)
    × (other : ℕ)
    × IsLine line
    × IsLine other
    × (count loads other t + (feeder_of (view s) f).bound < count loads line t)

-- The causes that speak against starts, the first of them giving the number: a start is before the clock, the site ends later than now,
-- some minute is overfull, some minute is uneven, and the feeder is not less late than now.
abbrev pub causes_against : Station → ℕ → List ℕ → List Condition
causes_against s f ss =
    when (OfSome (λ start. start < s.clock) ss) 3
    ∷ when (end_now s < end_with s f ss) 4
    ∷ when (IsOverfull s f (loads_of (with_starts s f ss))) 5
    ∷ when (IsUneven s f (loads_of (with_starts s f ss))) 6
    ∷ when (lateness (charges_on (view s) f) ≤ lateness (with_starts s f ss)) 7
    ∷ []

-- Starts are kept out for a cause exactly when it is the first that speaks against them.
abbrev pub CauseIsTheFirst : Type 0
CauseIsTheFirst =
    OfEveryCall (λ s m.
    (f rounds : ℕ) (ss : List ℕ)
    → Proposes s m f (starts ss) rounds
    → IsGranted m
    → (cause : ℕ)
    → 1 ≤ cause
    → HasCause m cause ↔ FirstToHold (causes_against s f ss) cause)

-- A replan that comes without starts answers its cause for that: 1 or 2.
abbrev pub CauseOfNoStarts : Type 0
CauseOfNoStarts =
    OfEveryCall (λ s m.
    (f rounds own : ℕ)
    → Proposes s m f (none own) rounds
    → IsGranted m
    → (cause : ℕ)
    → HasCause m cause ↔ (own ≡ cause))
