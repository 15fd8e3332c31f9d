-- Up to when charges draw, and their lateness, as one goes over their columns.
use mathlib.Core.Path.{◌≡◌, refl}
use Prim.Native.Nat.{ℕ, zero, suc, ◌+◌, ◌≤◌, max}
use mathlib.Core.List.{List, [], ◌∷◌}
use native.Mathlib.Omega.{arith}
use native.Mathlib.Numerals.{add-one}
use lib.ListN.{length, get_or}
use Rattle.std.specs.List.{fold, zip, sum_by, range_with_len}
use Rattle.std.proofs.lemmas.List.Sums.{sum_by-cons}
use Rattle.rules.specs.Basics.{tabulate}
use Rattle.rules.specs.Load.{Load, last_until}
use Rattle.rules.specs.Charge.{Charge, late_of, lateness}

-- the largest of m and of all ends, where g is what is drawn by the charges from place a on
pub until_is :
    (g : ℕ → Load) (xs ys : List ℕ) (m a : ℕ) → length xs ≤ length ys
    → ((i j : ℕ) → j ≡ a + i → (g j).until ≡ get_or xs i 0 + get_or ys i 0)
    → fold (λ n p. max n (p.0 + p.1)) m (zip xs ys) ≡ max m (last_until (tabulate g (length xs) a))
until_is g [] ys m a l h = omega arith
until_is g (x ∷ xs) [] m a l h = absurd (omega arith)
until_is g (x ∷ xs) (y ∷ ys) m a l h =
    omega (arith, h 0 a (omega arith), until_is g xs ys (max m (x + y)) (suc a) (omega arith) (λ i j e. h (suc i) j (omega (arith, e))))

pub lateness_is :
    (g : ℕ → Charge) (k a : ℕ) → sum_by (λ i. late_of (g i)) (range_with_len a k) ≡ lateness (tabulate g k a)
lateness_is g zero a = refl
lateness_is g (suc k) a =
    rw (add-one a, sum_by-cons (λ i. late_of (g i)) a (range_with_len (suc a) k), lateness_is g k (suc a))
