-- What a larger allowance changes, one by one, of replan by lines as the rules have it, for every station and feeder.
use Rattle.std.specs.Prelude.{◌≡◌, ℕ, ◌+◌, ◌≤◌, ◌<◌}
use Rattle.rules.specs.Search.{Caps}
use Rattle.rules.specs.Replan.{none, lowers, lowered, round, by_lines}
use Rattle.rules.specs.Site.{State, charges_on, limits_of}
use Rattle.rules.specs.Calls.{replan_lines, refusals, step}
use Rattle.guarantee.specs.DemandOne.{NoneApplies}
use Rattle.allowance.specs.Allowance.{Spent, most_lowerings}

-- Where an allowance is not refused and not spent, every larger one up to 1,000 gives the same answer and the same station.
abbrev pub LargerGivesTheSame : Type 0
LargerGivesTheSame =
    (s : State) (f a b : ℕ)
    → NoneApplies (refusals s (replan_lines f a))
    → a ≤ b
    → b ≤ 1000
    → (Spent (step s (replan_lines f a)).answer → ⊥)
    → step s (replan_lines f b) ≡ step s (replan_lines f a)

-- Each lowering leaves the cap strictly lower in the minute found,
abbrev pub LoweringsAreStrict : Type 0
LoweringsAreStrict =
    (s : State) (f : ℕ) (cap : Caps) (i t v : ℕ)
    → round (limits_of s f) s.clock (charges_on s f) cap ≡ lowers i t v
    → lowered cap i t v i t < cap i t

-- and no cap higher.
abbrev pub NoCapRises : Type 0
NoCapRises = (cap : Caps) (i t v l u : ℕ) → lowered cap i t v l u ≤ cap l u

-- The rounds are bounded, whatever the allowance,
abbrev pub RoundsAreFew : Type 0
RoundsAreFew =
    (s : State) (f a : ℕ) → (by_lines (limits_of s f) s.clock a (charges_on s f)).rounds ≤ 1 + most_lowerings s f

-- and one above the bound is never spent.
abbrev pub LargestIsNeverSpent : Type 0
LargestIsNeverSpent =
    (s : State) (f a : ℕ)
    → most_lowerings s f < a
    → (by_lines (limits_of s f) s.clock a (charges_on s f)).proposal ≡ none 2
    → ⊥
