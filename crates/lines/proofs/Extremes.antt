-- The largest and the smallest line.
use mathlib.Core.Path.{◌≡◌, refl}
use Prim.Native.Nat.{ℕ, ◌≤◌, max, min}
use native.Mathlib.Omega.{arith}
use borrow.Author.Tests.{leb-true}
use Rattle.rules.specs.Load.{IsLine}
use Rattle.rules.specs.Replan.{largest_line, smallest_line}
use Rattle.rules.proofs.Rounds.{largest_line_lem, smallest_line_lem}
use Rattle.profile.proofs.Lines.{each_line, line_one, line_two, line_three}

-- they go by the counts of the lines alone
pub largest_alike : (f g : ℕ → ℕ) → ((l : ℕ) → IsLine l → f l ≡ g l) → largest_line f ≡ largest_line g
largest_alike f g e = rw (e 1 line_one, e 2 line_two, e 3 line_three) refl

pub smallest_alike : (f g : ℕ → ℕ) → ((l : ℕ) → IsLine l → f l ≡ g l) → smallest_line f ≡ smallest_line g
smallest_alike f g e = rw (e 1 line_one, e 2 line_two, e 3 line_three) refl

-- and have the largest and the smallest count
pub largest_count : (f : ℕ → ℕ) → f (largest_line f) ≡ max (f 1) (max (f 2) (f 3))
largest_count f =
    let w = largest_line_lem f in top (largest_line f) w.line (λ l h. leb-true (f l) (f (largest_line f)) (w.highest l h))
  where
    top : (i : ℕ) → IsLine i → ((l : ℕ) → IsLine l → f l ≤ f i) → f i ≡ max (f 1) (max (f 2) (f 3))
    top i j h =
        each_line (λ i. f 1 ≤ f i → f 2 ≤ f i → f 3 ≤ f i → f i ≡ max (f 1) (max (f 2) (f 3)))
        (λ a b c. omega arith) (λ a b c. omega arith) (λ a b c. omega arith) i j (h 1 line_one) (h 2 line_two) (h 3 line_three)

pub smallest_count : (f : ℕ → ℕ) → f (smallest_line f) ≡ min (f 1) (min (f 2) (f 3))
smallest_count f =
    let w = smallest_line_lem f in top (smallest_line f) w.line (λ l h. leb-true (f (smallest_line f)) (f l) (w.highest l h))
  where
    top : (i : ℕ) → IsLine i → ((l : ℕ) → IsLine l → f i ≤ f l) → f i ≡ min (f 1) (min (f 2) (f 3))
    top i j h =
        each_line (λ i. f i ≤ f 1 → f i ≤ f 2 → f i ≤ f 3 → f i ≡ min (f 1) (min (f 2) (f 3)))
        (λ a b c. omega arith) (λ a b c. omega arith) (λ a b c. omega arith) i j (h 1 line_one) (h 2 line_two) (h 3 line_three)
