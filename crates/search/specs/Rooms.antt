-- Room for one more load: the minute up to which a step has it, and searches by a test of the minutes.
use Rattle.std.specs.Prelude.{ℕ, ◌+◌, ◌-◌, ◌^◌, max, ◌≤◌, ◌<◌, ◌≡◌, Bool, true, false, ◌||◌, ltb, leb, length, get_or, Option, Some, None}
use Rattle.rules.specs.Load.{IsColumn}
use Rattle.profile.specs.Steps.{minutes_of, counts_of, empty_step, In, Rising}
use Rattle.profile.specs.Shows.{Profile, first_minute, last_minute, Formed, most_drawn}
use Rattle.profile.specs.declared.steps.Step.{Step}
use Rattle.search.specs.declared.walk.Failing.{Failing}

-- minute t has room, if there is room up to, and without, minute `room`; 4294967295 stands for no end
unfoldable pub has_room : ℕ → ℕ → Bool
has_room room t = ltb t room || leb 4294967295 room

-- no count of a step is above what can be drawn
abbrev pub SmallStep : Step → Type 0
SmallStep s = (l : ℕ) → IsColumn l → counts_of s l ≤ most_drawn

-- where a step, or what is looked at, ends
pub record End (p : Profile) (i until r : ℕ) : Type 0 where
  pub most : r ≤ until
  pub within : i + 1 < length p → r ≤ get_or (minutes_of p) (i + 1) 0
  pub next : r < until → (i + 1 < length p) × (r ≡ get_or (minutes_of p) (i + 1) 0)

-- m is the first minute of from..until that fails the test. It lies in step i, and from it on to the end of the step all fail.
pub record FailsAt (f : ℕ → Bool) (p : Profile) (from until m i : ℕ) : Type 0 where
  pub low : from ≤ m
  pub high : m < until
  pub passed : (t : ℕ) → from ≤ t → t < m → f t ≡ true
  pub inside : In p i m
  pub fails : (t : ℕ) → m ≤ t → In p i t → f t ≡ false

-- the first minute that fails the test, or there is none
abbrev pub FirstFailing : (ℕ → Bool) → Profile → ℕ → ℕ → Option Failing → Type 0
FirstFailing f p from until (Some x) = FailsAt f p from until x.minute x.step
FirstFailing f p from until None = (t : ℕ) → from ≤ t → t < until → f t ≡ true

-- step i as a walk looks at it, from its minute t on
pub record Visit (p : Profile) (until i : ℕ) (step : Step) (t : ℕ) : Type 0 where
  pub rises : Rising p
  pub inside : In p i t
  pub high : t < until
  pub item : step ≡ get_or p i (empty_step 0)

-- where the minutes of a step from t on fail the test, if they do
abbrev pub FailsIn : (ℕ → Bool) → Profile → ℕ → ℕ → ℕ → Option ℕ → Type 0
FailsIn f p until i t (Some m) = FailsAt f p t until m i
FailsIn f p until i t None = (v : ℕ) → t ≤ v → v < until → In p i v → f v ≡ true

-- where the minutes of a step from t on fail any test that they pass up to, and without, the minute `room`
pub record FailsPast (p : Profile) (until i t room : ℕ) (r : Option ℕ) : Type 0 where
  pub told : (f : ℕ → Bool) (step : Step) → Visit p until i step t → ((v : ℕ) → In p i v → f v ≡ has_room room v) → FailsIn f p until i t r

-- in each step the answers are those of this test
abbrev pub Tells : (ℕ → Step → ℕ → Option ℕ → Type 0) → Profile → ℕ → (ℕ → Bool) → Type 0
Tells answers p until f = (i : ℕ) (step : Step) (t : ℕ) → Visit p until i step t → (r : Option ℕ) → answers i step t r → FailsIn f p until i t r

-- what a search for a start asks
pub record CanSeek (p : Profile) (time start : ℕ) : Type 0 where
  pub formed : Formed p
  pub low : first_minute p ≤ start
  pub ends_fit : max start (last_minute p) + time < 2 ^ 32

-- start s of step i, which ends by `until`, as a search from `start` on tries it
pub record Tried (p : Profile) (time start until s i : ℕ) : Type 0 where
  pub low : start ≤ s
  pub inside : In p i s
  pub ends : s + time ≤ until

-- of each start the answers are those of this test of its minutes
abbrev pub Tests : (ℕ → ℕ → Option Failing → Type 0) → Profile → ℕ → ℕ → ℕ → (ℕ → Bool) → Type 0
Tests answers p time start until f =
    (s i : ℕ) → Tried p time start until s i → (r : Option Failing) → answers s i r → FirstFailing f p s (s + time) r

-- they are those of a test that all minutes of the last step pass
pub record Settled (answers : ℕ → ℕ → Option Failing → Type 0) (p : Profile) (time start until : ℕ) : Type 0 where
  pub passes : ℕ → Bool
  pub tests : Tests answers p time start until passes
  pub rests : (t : ℕ) → In p (length p - 1) t → passes t ≡ true

-- a minute, of the `time` from s on and below `until`, that fails the test
pub record FailsBelow (f : ℕ → Bool) (time s until : ℕ) : Type 0 where
  pub minute : ℕ
  pub low : s ≤ minute
  pub high : minute < s + time
  pub below : minute < until
  pub fails : f minute ≡ false

-- by the minutes below `until` every start before r fails; r passes, or reaches `until` or behind
pub record FirstPassing (f : ℕ → Bool) (time start until r : ℕ) : Type 0 where
  pub low : start ≤ r
  pub failed : (s : ℕ) → start ≤ s → s < r → FailsBelow f time s until
  pub passes : r + time ≤ until → (t : ℕ) → r ≤ t → t < r + time → f t ≡ true

-- a minute, of the `time` from s on, that fails the test
pub record Misses (f : ℕ → Bool) (time s : ℕ) : Type 0 where
  pub minute : ℕ
  pub low : s ≤ minute
  pub high : minute < s + time
  pub fails : f minute ≡ false

-- the smallest start, not below `start`, whose minutes all pass the test
pub record Least (f : ℕ → Bool) (time start r : ℕ) : Type 0 where
  pub low : start ≤ r
  pub passes : (t : ℕ) → r ≤ t → t < r + time → f t ≡ true
  pub failed : (s : ℕ) → start ≤ s → s < r → Misses f time s
