-- The replan by latest start, spelled out: which start each waiting charge gets, and when one has none.
use Rattle.std.specs.Prelude.{◌⊎◌, ◌↔◌, ◌≡◌, ℕ, ◌≤◌, ◌<◌, List, [], ◌∷◌, ◌++◌, ◌<ℤ◌}
use Rattle.rules.specs.Basics.{Each}
use Rattle.rules.specs.Load.{Load}
use Rattle.rules.specs.Charge.{Charge, starting, draw_of, loads_of, begun_charges, waiting_charges, latest_start}
use Rattle.rules.specs.Search.{added}
use Rattle.rules.specs.Replan.{starts, starts_in, by_latest_start}
use Rattle.rules.specs.Site.{charges_on}
use Rattle.station.specs.declared.Station.{Station}
use Rattle.station.specs.View.{view}
use Rattle.calls.specs.declared.Call.TheVariants.{ReplanLatest}
use Rattle.theorem.specs.Single.{OfEveryCall, IsGranted, HasCause}
use Rattle.theorem.specs.Soundness.{IsSound}
use Rattle.theorem.specs.Moved.{AreTheSame}
use Rattle.theorem.specs.Proposed.{Proposes}

-- the waiting charges of feeder f in the order in which they get their starts
abbrev pub in_line : Station → ℕ → List Charge
in_line s f = by_latest_start (waiting_charges s.clock (charges_on (view s) f))

-- what is drawn by the feeder's begun charges, those placed so far, and one more from this minute on
abbrev pub drawn_with : Station → ℕ → List Charge → Charge → ℕ → List Load
drawn_with s f placed c start =
    added (loads_of (begun_charges s.clock (charges_on (view s) f) ++ placed)) (draw_of c) start

-- the smallest start, not before the clock, with which this is sound in every minute from the clock on
abbrev pub IsSmallestStart : Station → ℕ → List Charge → Charge → ℕ → Type 0
IsSmallestStart s f placed c start =
    (s.clock ≤ start)
    × IsSound s f (drawn_with s f placed c start)
    × ((earlier : ℕ) → s.clock ≤ earlier → IsSound s f (drawn_with s f placed c earlier) → start ≤ earlier)

abbrev pub HasNoStart : Station → ℕ → List Charge → Charge → Type 0
HasNoStart s f placed c = (start : ℕ) → s.clock ≤ start → IsSound s f (drawn_with s f placed c start) → ⊥

-- each of the charges in turn gets the smallest start beside those placed before it, which makes the plan
abbrev pub ArePlaced : Station → ℕ → List Charge → List Charge → List Charge → Type 0
ArePlaced s f placed [] made = placed ≡ made
ArePlaced s f placed (c ∷ cs) made =
    (start : ℕ) × IsSmallestStart s f placed c start × ArePlaced s f (placed ++ (starting c start ∷ [])) cs made

-- one of them has no start beside those placed before it
abbrev pub OneIsStuck : Station → ℕ → List Charge → List Charge → Type 0
OneIsStuck s f placed [] = ⊥
OneIsStuck s f placed (c ∷ cs) =
    HasNoStart s f placed c
    ⊎ ((start : ℕ) × IsSmallestStart s f placed c start × OneIsStuck s f (placed ++ (starting c start ∷ [])) cs)

-- by latest start, which is the due minute less the charging time and may be below zero, and then by ticket
abbrev pub ByLatestStart : List Charge → Type 0
ByLatestStart [] = Unit {0}
ByLatestStart (c ∷ cs) =
    Each (λ d. (latest_start c <ℤ latest_start d) ⊎ ((latest_start c ≡ latest_start d) × (c.ticket < d.ticket))) cs
    × ByLatestStart cs

-- The waiting charges take their turns by latest start.
abbrev pub TurnsAreByLatestStart : Type 0
TurnsAreByLatestStart =
    OfEveryCall (λ s m.
    (f : ℕ)
    → m.call ≡ ReplanLatest f
    → IsGranted m
    → AreTheSame (in_line s f) (waiting_charges s.clock (charges_on (view s) f)) × ByLatestStart (in_line s f))

-- The replan puts starts to the test exactly when each waiting charge finds one in its turn, and then these.
abbrev pub StartsAreTheSmallest : Type 0
StartsAreTheSmallest =
    OfEveryCall (λ s m.
    (f : ℕ)
    → m.call ≡ ReplanLatest f
    → IsGranted m
    → (ss : List ℕ)
    → Proposes s m f (starts ss) 0
    ↔ ((made : List Charge)
    × ArePlaced s f [] (in_line s f) made
    × (starts_in made (waiting_charges s.clock (charges_on (view s) f)) ≡ ss)))

-- It has cause 1 exactly when one of them has no start.
abbrev pub CauseOneIsNoStart : Type 0
CauseOneIsNoStart =
    OfEveryCall (λ s m.
    (f : ℕ) → m.call ≡ ReplanLatest f → IsGranted m → HasCause m 1 ↔ OneIsStuck s f [] (in_line s f))
