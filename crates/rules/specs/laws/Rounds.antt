-- The rounds of a replan by lines: the caps that lowerings leave, and that every waiting charge is placed in each round.
use Rattle.std.specs.Prelude.{◌≡◌, ℕ, ◌+◌, ◌-◌, ◌≤◌}
use Rattle.rules.specs.Load.{Limits, counts, whole_of}
use Rattle.rules.specs.Charge.{waiting_charges}
use Rattle.rules.specs.Site.{State, feeder_of, charges_on, limits_of}
use Rattle.rules.specs.Search.{Caps}
use Rattle.rules.specs.Priority.{fits_at}
use Rattle.rules.specs.Replan.{standing, lowered, Outcome, round, rounds_from, by_lines}
use Rattle.rules.specs.Valid.{IsFeeder, ValidState}
use Rattle.rules.specs.laws.Arrangements.{Rearranged}
use Rattle.rules.specs.laws.Placing.{AtLeast, tickets, up_to_line, LinesPlaced}

-- the caps of a replan by lines: N at first, then lowered from a minute on to a count plus D
pub data CapsOf (y : Limits) : Caps → Type 0 where
  whole : CapsOf y (λ l t. y.limit)
  after : {cap : Caps} → CapsOf y cap → (i t count : ℕ) → CapsOf y (lowered cap i t (count + y.bound))

-- a round with these caps places every waiting charge of feeder f, each once
pub record RoundPlacesAll (s : State) (f : ℕ) (cap : Caps) : Type 0 where
  pub lines :
      LinesPlaced (fits_at s.site cap) s.clock (standing (limits_of s f) s.clock (charges_on s f))
      (waiting_charges s.clock (charges_on s f)) 3
  pub all_lines :
      Rearranged (tickets (waiting_charges s.clock (charges_on s f)))
      (tickets (up_to_line 3 (waiting_charges s.clock (charges_on s f))))

-- A cap that is lowered to k or more is not below k anywhere, if it was not before.
abbrev pub LoweredCapsAreAtLeast : Type 0
LoweredCapsAreAtLeast = (k : ℕ) (cap : Caps) (i t v : ℕ) → k ≤ v → AtLeast k cap → AtLeast k (lowered cap i t v)

-- Of every valid station and each of its feeders: what stands while a plan is made is within W in every minute from the clock on.
abbrev pub StandingIsWithinTheSite : Type 0
StandingIsWithinTheSite =
    (s : State)
    → ValidState s
    → (f : ℕ)
    → IsFeeder s f
    → (t : ℕ)
    → s.clock ≤ t
    → whole_of (counts (standing (limits_of s f) s.clock (charges_on s f)) t) ≤ s.site

-- A round with N as the cap, or with caps that lowerings leave, places every waiting charge.
abbrev pub EveryRoundPlacesAll : Type 0
EveryRoundPlacesAll =
    (s : State)
    → ValidState s
    → (f : ℕ)
    → IsFeeder s f
    → (cap : Caps)
    → CapsOf (limits_of s f) cap
    → RoundPlacesAll s f cap

-- A replan by lines plays no other round: a play that does as `round` wherever every waiting charge is placed gives the same replan.
abbrev pub NoOtherRoundIsPlayed : Type 0
NoOtherRoundIsPlayed =
    (s : State)
    → ValidState s
    → (f : ℕ)
    → IsFeeder s f
    → (play : Caps → Outcome)
    → ((cap : Caps) → RoundPlacesAll s f cap → round (limits_of s f) s.clock (charges_on s f) cap ≡ play cap)
    → (allowance : ℕ)
    → by_lines (limits_of s f) s.clock allowance (charges_on s f)
    ≡ rounds_from play (allowance - 1) 1 (λ l t. (feeder_of s f).limit)
