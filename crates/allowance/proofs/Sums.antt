-- Sums over a range of numbers.
use mathlib.Core.Logic.{◌⊎◌, inl, inr}
use mathlib.Core.Path.{◌≡◌}
use Prim.Native.Nat.{ℕ, zero, suc, ◌+◌, ◌*◌, ◌≤◌, ◌<◌}
use native.Mathlib.Omega.{arith}
use native.Mathlib.Nat.{mul-suc}
use Rattle.rules.proofs.Ranges.{below_or_not}

-- f summed over the k numbers from a on
abbrev pub sum_over : (ℕ → ℕ) → ℕ → ℕ → ℕ
sum_over f zero a = 0
sum_over f (suc k) a = f a + sum_over f k (suc a)

pub sum_same : (n k a : ℕ) → sum_over (λ u. n) k a ≡ n * k
sum_same n zero a = omega arith
sum_same n (suc k) a = rw (sum_same n k (suc a), mul-suc n k) (omega arith)

pub sum_lower : (f g : ℕ → ℕ) (k a : ℕ) → ((u : ℕ) → g u ≤ f u) → sum_over g k a ≤ sum_over f k a
sum_lower f g zero a h = omega arith
sum_lower f g (suc k) a h = omega (arith, h a, sum_lower f g k (suc a) h)

pub sum_less :
    (f g : ℕ → ℕ) (k a t : ℕ)
    → ((u : ℕ) → g u ≤ f u)
    → a ≤ t
    → t < a + k
    → g t < f t
    → sum_over g k a < sum_over f k a
sum_less f g zero a t h p q l = absurd (omega arith)
sum_less f g (suc k) a t h p q l = go (below_or_not a t) (λ j. sum_less f g k (suc a) t h j (omega arith) l)
  where
    go : (a < t) ⊎ (t ≤ a) → (a < t → sum_over g k (suc a) < sum_over f k (suc a)) → sum_over g (suc k) a < sum_over f (suc k) a
    go (inl j) ih = omega (arith, h a, ih j)
    go (inr j) ih =
        let same : t ≡ a = omega arith in
        let less : g a < f a = rw (← same) l in
        omega (arith, sum_lower f g k (suc a) h)
