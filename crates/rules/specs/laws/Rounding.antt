-- The bound D of a feeder is c × N / 100 rounded to the nearest whole number, an exact half to the even one.
use Rattle.std.specs.Prelude.{◌≡◌, ℕ, ◌+◌, ◌*◌, ◌%◌, ◌≤◌, ◌↔◌}
use Rattle.rules.specs.Calls.{nearest_hundreds, bound_of}

-- d hundreds are within 50 of x, and d is even where they are exactly 50 away
pub record Nearest (x d : ℕ) : Type 0 where
  pub low : 100 * d ≤ x + 50
  pub high : x ≤ 100 * d + 50
  pub even_above : 100 * d ≡ x + 50 → d % 2 ≡ 0
  pub even_below : x ≡ 100 * d + 50 → d % 2 ≡ 0

-- 100 × D is within 50 of c × N, and D is even where it is exactly 50 away.
abbrev pub BoundIsNearest : Type 0
BoundIsNearest = (n c : ℕ) → Nearest (c * n) (bound_of n c)

-- No other number is like that, so this determines D.
abbrev pub NoOtherIsNearest : Type 0
NoOtherIsNearest = (x d : ℕ) → Nearest x d → d ≡ nearest_hundreds x

-- With a percentage up to 100, D is at most N.
abbrev pub BoundIsAtMostTheLimit : Type 0
BoundIsAtMostTheLimit = (n c : ℕ) → c ≤ 100 → bound_of n c ≤ n

-- D is 0 exactly where c × N is at most 50.
abbrev pub BoundIsZeroUpToAHalf : Type 0
BoundIsZeroUpToAHalf = (n c : ℕ) → (bound_of n c ≡ 0) ↔ (c * n ≤ 50)
