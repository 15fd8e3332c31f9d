-- The test of a candidate start: its verdict, and how many minutes it looks at.
use Rattle.std.specs.Prelude.{◌≡◌, ℕ, suc, ◌+◌, ◌-◌, ◌≤◌, ◌<◌, Bool, true, false, List}
use Rattle.rules.specs.Basics.{first}
use Rattle.rules.specs.Load.{Load, Draw, last_until, Limits, sound}
use Rattle.rules.specs.Charge.{seen}
use Rattle.rules.specs.Site.{State, feeder_of, charges_on, limits_of}
use Rattle.rules.specs.Search.{added, earliest}
use Rattle.rules.specs.Candidate.{tested_by, candidate, order_candidate}
use Rattle.rules.specs.Calls.{draw_for, start_for}
use Rattle.rules.specs.Valid.{IsFeeder, ValidState}

-- t is the first minute that fails
pub record FailsFirst (f : ℕ → Bool) (time s t : ℕ) : Type 0 where
  pub low : s ≤ t
  pub high : t < s + time
  pub passed : (u : ℕ) → s ≤ u → u < t → f u ≡ true
  pub fails : f t ≡ false

-- Where a minute fails, the test ends with the first that does: from the start up to and including it.
abbrev pub FirstFailingMinuteIsTheLast : Type 0
FirstFailingMinuteIsTheLast =
    (f : ℕ → Bool) (time s t : ℕ) → FailsFirst f time s t → tested_by f time s ≡ record { fits = false; looked = suc (t - s) }

-- Where none fails, all active minutes are looked at.
abbrev pub AllMinutesWhereNoneFails : Type 0
AllMinutesWhereNoneFails =
    (f : ℕ → Bool) (time s : ℕ)
    → ((t : ℕ) → s ≤ t → t < s + time → f t ≡ true)
    → tested_by f time s ≡ record { fits = true; looked = time }

-- At least one minute is looked at, and none behind the active ones.
abbrev pub LookedIsWithinTheActiveMinutes : Type 0
LookedIsWithinTheActiveMinutes =
    (f : ℕ → Bool) (time s : ℕ) → 1 ≤ time → (1 ≤ (tested_by f time s).looked) × ((tested_by f time s).looked ≤ time)

-- Beside a sound plan the verdict is soundness of the whole, in every minute from the clock on.
abbrev pub VerdictIsSoundness : Type 0
VerdictIsSoundness =
    (y : Limits) (k : ℕ) (xs : List Load) (a : Draw) (s : ℕ)
    → k ≤ s
    → sound y k xs ≡ true
    → (candidate y xs a s).fits ≡ sound y k (added xs a s)

-- The earliest start is the first candidate that fits.
abbrev pub EarliestIsTheFirstCandidate : Type 0
EarliestIsTheFirstCandidate =
    (y : Limits) (k : ℕ) (xs : List Load) (a : Draw)
    → sound y k xs ≡ true
    → earliest y k xs a ≡ first (λ s. (candidate y xs a s).fits) (suc (last_until xs - k)) k

-- So is the start of an order on a valid station: the first, from the clock on, that the test of its candidates finds to fit.
abbrev pub OrdersStartAtTheFirstCandidate : Type 0
OrdersStartAtTheFirstCandidate =
    (s : State) (f line p rate : ℕ)
    → ValidState s
    → IsFeeder s f
    → start_for s f (draw_for s f line p rate)
    ≡ first (λ start. (order_candidate s f line p rate start).fits)
    (suc (last_until (seen (limits_of s f) (charges_on s f)) - s.clock)) s.clock

-- That test looks at one minute at least and at p + r at most, with the r of its feeder.
abbrev pub OrderTestsLookUpToTheTail : Type 0
OrderTestsLookUpToTheTail =
    (s : State) (f line p rate start : ℕ)
    → 1 ≤ p
    → (1 ≤ (order_candidate s f line p rate start).looked)
    × ((order_candidate s f line p rate start).looked ≤ p + (feeder_of s f).tail)
