-- A larger allowance: "Managers raise the allowance on quiet mornings and fear a different plan." Shown for the present priority,
-- rates and late contactors together: for replan by lines as the rules have it.
use Rattle.std.specs.Prelude.{◌≡◌, ℕ, ◌+◌, ◌-◌, ◌*◌, ◌≤◌, ◌<◌, List, [], ◌∷◌}
use Rattle.rules.specs.Load.{last_until, Limits}
use Rattle.rules.specs.Charge.{Charge, loads_of, waiting_charges}
use Rattle.rules.specs.Search.{Caps}
use Rattle.rules.specs.Replan.{none, standing, Outcome, lowers, lowered, round, by_lines}
use Rattle.rules.specs.Site.{State, feeder_of, charges_on, others_of, limits_of}
use Rattle.rules.specs.Calls.{Asked, Answer, planned, Result, replan_lines, refusals, step}
use Rattle.rules.specs.Valid.{IsFeeder, ValidState}
use Rattle.guarantee.specs.DemandOne.{NoneApplies}
use Rattle.restarts.specs.Events.{Event}
use Rattle.restarts.specs.Restarts.{stands}

-- "cause 2"
abbrev pub Spent : Answer → Type 0
Spent a = (before : ℕ) × (after : ℕ) × (rounds : ℕ) × (a ≡ planned 2 before after rounds)

-- the minutes that charges draw in all
abbrev pub drawn_time : List Charge → ℕ
drawn_time [] = 0
drawn_time (c ∷ cs) = c.active_time + drawn_time cs

-- How many minutes from the clock on a round can place in: up to the last begun charge and the last of the other feeders, and then
-- one waiting charge after another.
abbrev pub minutes_ahead : Limits → ℕ → List Charge → ℕ
minutes_ahead y clock held = (last_until (standing y clock held) - clock) + drawn_time (waiting_charges clock held)

-- what three caps of feeder f can be lowered by in all these minutes: each is N at first, and never below D
abbrev pub most_lowerings : State → ℕ → ℕ
most_lowerings s f =
    3 * (((feeder_of s f).limit - (feeder_of s f).bound) * minutes_ahead (limits_of s f) s.clock (charges_on s f))

-- what replan by lines with an allowance gives, and what comes of a round that begins with some caps: of a feeder of a station
abbrev pub Replans : Type 0
Replans = State → ℕ → ℕ → Result

abbrev pub Plays : Type 0
Plays = State → ℕ → Caps → Outcome

-- those of the rules
abbrev pub replans : Replans
replans s f a = step s (replan_lines f a)

abbrev pub plays : Plays
plays s f cap = round (limits_of s f) s.clock (charges_on s f) cap

pub record LargerAllowance (replans : Replans) (plays : Plays) (s : State) (f : ℕ) : Type 0 where
  -- "If replan by lines, with an allowance not refused, reaches an answer other than cause 2, then every larger allowance up to
  -- 1,000 gives the same starts, cause and rounds." Answer and station are the same.
  pub same :
      (a b : ℕ)
      → NoneApplies (refusals s (replan_lines f a))
      → a ≤ b
      → b ≤ 1000
      → (Spent (replans s f a).answer → ⊥)
      → replans s f b ≡ replans s f a
  -- "And each lowering of a cap leaves it strictly lower in the minute found.": whatever the caps are with which a round begins,
  -- those that rounds can reach among them
  pub lower :
      (cap : Caps) (i t v : ℕ)
      → plays s f cap ≡ lowers i t v
      → lowered cap i t v i t < cap i t
  -- and nowhere higher
  pub nowhere_higher : (cap : Caps) (i t v l u : ℕ) → lowered cap i t v l u ≤ cap l u
  -- More than the request asks: so the rounds are bounded, whatever the allowance,
  pub few_rounds : (a : ℕ) → (by_lines (limits_of s f) s.clock a (charges_on s f)).rounds ≤ 1 + most_lowerings s f
  -- and one above this many would never be spent.
  pub never_spent :
      (a : ℕ) → most_lowerings s f < a → (by_lines (limits_of s f) s.clock a (charges_on s f)).proposal ≡ none 2 → ⊥

-- For every station and feeder whatever; in the largest yard (N 60, D 1, 180 charges of 1,440 minutes with r 5, all waiting) the
-- bound is 3 × 59 × 260,100 lowerings, and 3 × 59 more for each minute up to the last in which other feeders draw.
abbrev pub Everywhere : Type 0
Everywhere = (s : State) (f : ℕ) → LargerAllowance replans plays s f

abbrev pub LargestYard : Type 0
LargestYard =
    (s : State) (f : ℕ)
    → ValidState s
    → IsFeeder s f
    → most_lowerings s f ≤ 46037700 + 177 * (last_until (loads_of (others_of s f)) - s.clock)

-- So it is for every station that a list of calls or a restored image gives, and each of its feeders.
abbrev pub WhereverItStands : Type 0
WhereverItStands = (x : Asked) (events : List Event) (f : ℕ) → LargerAllowance replans plays (stands x events) f
