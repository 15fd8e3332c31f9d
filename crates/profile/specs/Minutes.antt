-- Tests of minutes, from one minute on.
use Rattle.std.specs.Prelude.{ℕ, ◌≤◌, ◌<◌, ◌≡◌, Bool, true, false}

-- every minute passes
abbrev pub Passes : (ℕ → Bool) → ℕ → Type 0
Passes f from = (t : ℕ) → from ≤ t → f t ≡ true

-- a minute fails
pub record Fails (f : ℕ → Bool) (from : ℕ) : Type 0 where
  pub minute : ℕ
  pub low : from ≤ minute
  pub fails : f minute ≡ false

-- t is the first that fails
pub record FirstFails (f : ℕ → Bool) (from t : ℕ) : Type 0 where
  pub low : from ≤ t
  pub passed : (u : ℕ) → from ≤ u → u < t → f u ≡ true
  pub fails : f t ≡ false
