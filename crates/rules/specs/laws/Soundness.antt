-- A plan is sound exactly when every minute from the clock on is, with no upper end.
use Rattle.std.specs.Prelude.{◌≡◌, ℕ, ◌+◌, ◌≤◌, true, List}
use Rattle.rules.specs.Load.{Load, counts, Limits, IsLine, whole_of, sound}

-- "each count is at most N"
abbrev pub Limited : ℕ → (ℕ → ℕ) → Type 0
Limited n f = (l : ℕ) → IsLine l → f l ≤ n

-- "each two counts differ by at most D"
abbrev pub Balanced : ℕ → (ℕ → ℕ) → Type 0
Balanced d f = (l m : ℕ) → IsLine l → IsLine m → f l ≤ f m + d

-- within both limits and the bound
pub record Sound (y : Limits) (f : ℕ → ℕ) : Type 0 where
  pub limit : Limited y.limit f
  pub site : whole_of f ≤ y.site
  pub balance : Balanced y.bound f

-- A sound plan is sound in every minute from the clock on: the test misses nothing behind the last end.
abbrev pub SoundPlansAreSoundInEveryMinute : Type 0
SoundPlansAreSoundInEveryMinute =
    (y : Limits) (k : ℕ) (xs : List Load) → sound y k xs ≡ true → (t : ℕ) → k ≤ t → Sound y (counts xs t)

-- And the other way round.
abbrev pub SoundMinutesMakeASoundPlan : Type 0
SoundMinutesMakeASoundPlan =
    (y : Limits) (k : ℕ) (xs : List Load) → ((t : ℕ) → k ≤ t → Sound y (counts xs t)) → sound y k xs ≡ true
