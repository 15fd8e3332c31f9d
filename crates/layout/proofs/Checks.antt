-- "a 32-bit check, the sum of (place + 1) × byte": what it is at most, and that it depends on its 508 bytes alone.
use mathlib.Core.Path.{◌≡◌, refl, ◌∙◌}
use Prim.Native.Nat.{ℕ, zero, suc, ◌+◌, ◌*◌, ◌≤◌, ◌<◌}
use native.Mathlib.Omega.{arith}
use native.Mathlib.Numerals.{add-one}
use native.Mathlib.Nat.{mul-le-mul}
use Rattle.layout.specs.Image.{weighed, check_of}
use Rattle.layout.specs.LawsOfPlaces.{ChecksFit}
use Rattle.layout.proofs.Cases.{largest_check}

pub weighed_none : (f : ℕ → ℕ) → weighed f 0 ≡ 0
unfolding weighed
weighed_none f = refl

-- one place more, as code counts
pub weighed_more : (f : ℕ → ℕ) (n : ℕ) → weighed f (n + 1) ≡ weighed f n + (n + 1) * f n
unfolding weighed
weighed_more f n = rw (add-one n)

pub weighed_same : (f g : ℕ → ℕ) (n : ℕ) → ((i : ℕ) → i < n → f i ≡ g i) → weighed f n ≡ weighed g n
unfolding weighed
weighed_same f g zero h = refl
weighed_same f g (suc n) h =
    rw (weighed_same f g n (λ i l. h i (omega arith)), h n (omega arith))

-- larger bytes weigh more
pub weighed_most : (f g : ℕ → ℕ) (n : ℕ) → ((i : ℕ) → i < n → f i ≤ g i) → weighed f n ≤ weighed g n
unfolding weighed
weighed_most f g zero h = omega arith
weighed_most f g (suc n) h =
    omega (arith, weighed_most f g n (λ i l. h i (omega arith)), mul-le-mul {n₁ = suc n} {m₁ = f n} {n₂ = suc n} {m₂ = g n} (omega arith) (h n (omega arith)))

-- nothing weighs nothing
pub weighed_zero : (f : ℕ → ℕ) (n : ℕ) → ((i : ℕ) → i < n → f i ≡ 0) → weighed f n ≡ 0
unfolding weighed
weighed_zero f zero h = refl
weighed_zero f (suc n) h =
    rw (weighed_zero f n (λ i l. h i (omega arith)), h n (omega arith)) (omega arith)

pub check_is : (f : ℕ → ℕ) → weighed f 508 ≡ check_of f
unfolding check_of
check_is f = refl

pub check_same : (f g : ℕ → ℕ) → ((i : ℕ) → i < 508 → f i ≡ g i) → check_of f ≡ check_of g
unfolding check_of
check_same f g h = weighed_same f g 508 h

pub check_zero : (f : ℕ → ℕ) → ((i : ℕ) → i < 508 → f i ≡ 0) → check_of f ≡ 0
unfolding check_of
check_zero f h = weighed_zero f 508 h

-- no check of bytes is above the largest, so that 32 bits hold every check
pub check_most : ChecksFit
unfolding check_of
check_most f h = omega (arith, weighed_most f (λ i. 255) 508 (λ i l. omega (arith, h i l)), check_is (λ i. 255) ∙ largest_check)

pub check_small : (f : ℕ → ℕ) → ((i : ℕ) → i < 508 → f i < 256) → check_of f < 4294967296
check_small f h = omega (arith, check_most f h)
