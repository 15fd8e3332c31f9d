-- The test of an order's candidate start, minute by minute (docs/RULES.md, section 3; N6).
use Rattle.std.specs.Prelude.{ℕ, suc, ◌-◌, Bool, true, false, not, List}
use Rattle.rules.specs.Basics.{Found, at, nothing, first}
use Rattle.rules.specs.Load.{Load, Draw, Limits, sound_at}
use Rattle.rules.specs.Charge.{seen}
use Rattle.rules.specs.Site.{State, charges_on, limits_of}
use Rattle.rules.specs.Search.{added}
use Rattle.rules.specs.Calls.{draw_for}

-- "Beside its verdict it returns how many minutes it looked at."
pub record Tested : Type 0 where
  pub fits : Bool
  pub looked : ℕ

-- "from the candidate start up to and including the first failing minute, or all the charge's active minutes where none fails"
abbrev pub looked_up_to : ℕ → ℕ → Found → Tested
looked_up_to time s (at t) = record { fits = false; looked = suc (t - s) }
looked_up_to time s nothing = record { fits = true; looked = time }

-- A test of each of the `time` minutes from s on, which "is to end at its first failing minute".
unfoldable pub tested_by : (ℕ → Bool) → ℕ → ℕ → Tested
tested_by f time s = looked_up_to time s (first (λ t. not (f t)) time s)

-- "The test of an order's candidate start": the held plan and this charge, with its start s, in the charge's active minutes
abbrev pub candidate : Limits → List Load → Draw → ℕ → Tested
candidate y xs a s = tested_by (sound_at y (added xs a s)) a.time s

-- The same of an order (feeder, line, p, rate) on a station, beside all that the site holds: its active minutes are its p and the r of its
-- feeder, so that a minute of its tail may be the one that fails.
abbrev pub order_candidate : State → ℕ → ℕ → ℕ → ℕ → ℕ → Tested
order_candidate s f line p rate start =
    candidate (limits_of s f) (seen (limits_of s f) (charges_on s f)) (draw_for s f line p rate) start
