-- The bound D: c × N / 100 "rounded to the nearest whole number, an exact half to the even one", and when it is 0.
use mathlib.Core.Logic.{◌⊎◌, inl, inr, ◌↔◌}
use mathlib.Core.Path.{◌≡◌, refl, sym}
use Prim.Native.Nat.{ℕ, ◌+◌, ◌*◌, ◌/◌, ◌%◌, ◌≤◌, ◌<◌}
use mathlib.Core.Bool.{Bool, true, false, cond, ◌||◌, true≢false}
use mathlib.Core.List.{[], map}
use native.Mathlib.Omega.{arith}
use native.Mathlib.Nat.{mul-le-mul_right}
use lib.Dec.{ltb, eqb}
use borrow.Author.Tests.{ltb-true, ltb-false, eqb-true, eqb-false}
use Rattle.rules.specs.Basics.{some}
use Rattle.rules.specs.Calls.{settings_read, refused, opened, answering, nearest_hundreds, bound_of, fresh, least, opening}
use Rattle.rules.specs.laws.Openings.{RefusalThreeIsABoundOfZero}
use Rattle.rules.specs.laws.Rounding.{Nearest, BoundIsNearest, NoOtherIsNearest, BoundIsAtMostTheLimit, BoundIsZeroUpToAHalf}
use Rattle.rules.proofs.Ranges.{below_or_not}

nearest_is : (x : ℕ) → Nearest x (nearest_hundreds x)
nearest_is x = go (ltb 50 (x % 100)) refl (eqb (x % 100) 50) refl
  where
    go :
        (a : Bool)
        → ltb 50 (x % 100) ≡ a
        → (b : Bool)
        → eqb (x % 100) 50 ≡ b
        → Nearest x (cond a (x / 100 + 1) (cond b (x / 100 + x / 100 % 2) (x / 100)))
    go true p b q =
        let above : 50 < x % 100 = ltb-true 50 (x % 100) p in
        record { low = omega arith; high = omega arith; even_above = λ e. omega arith; even_below = λ e. omega arith }
    go false p true q =
        let half : x % 100 ≡ 50 = eqb-true (x % 100) 50 q in
        record { low = omega arith; high = omega arith; even_above = λ e. omega arith; even_below = λ e. omega arith }
    go false p false q =
        let below : x % 100 < 50 = omega (arith, ltb-false 50 (x % 100) p, eqb-false (x % 100) 50 q) in
        record { low = omega arith; high = omega arith; even_above = λ e. omega arith; even_below = λ e. omega arith }

-- of two that differ each would be 50 away and even, and the larger one more than the smaller
not_both : (x d e : ℕ) → Nearest x d → Nearest x e → d < e → ⊥
not_both x d e p q h =
    let next : e ≡ d + 1 = omega arith in
    omega (arith, p.even_below (omega arith), q.even_above (omega arith))

-- no other number is like that: this determines D
pub nearest_only : NoOtherIsNearest
nearest_only x d p = go (nearest_hundreds x) (nearest_is x) (below_or_not d (nearest_hundreds x)) (below_or_not (nearest_hundreds x) d)
  where
    go : (e : ℕ) → Nearest x e → (d < e) ⊎ (e ≤ d) → (e < d) ⊎ (d ≤ e) → d ≡ e
    go e q (inl h) k = absurd (not_both x d e p q h)
    go e q (inr h) (inl k) = absurd (not_both x e d q p k)
    go e q (inr h) (inr k) = omega arith

pub bound_nearest : BoundIsNearest
bound_nearest n c = nearest_is (c * n)

pub bound_at_most : BoundIsAtMostTheLimit
bound_at_most n c h = omega (arith, (bound_nearest n c).low, mul-le-mul_right n h)

pub bound_zero : BoundIsZeroUpToAHalf
bound_zero n c = (
  (λ e. omega (arith, (bound_nearest n c).high)),
  (λ h.
      sym
      (nearest_only (c * n) 0 (record { low = omega arith; high = h; even_above = λ e. refl; even_below = λ e. refl }))),
)

-- "Refusal 3 is given when this D is 0": where the count is in range, and N and c of each feeder up to it, then and in no other case
pub refused_three : RefusalThreeIsABoundOfZero
unfolding opening
refused_three a count limit percent =
    rw (count, limit, percent)
    (go (some (λ x. eqb (bound_of x.limit x.percent) 0) (settings_read a)) (some (λ x. ltb 5 x.tail) (settings_read a))
    (ltb a.site 1 || ltb 720 a.site))
  where
    go :
        (zero long wide : Bool)
        → ((answering (cond zero 3 (cond long 19 (cond wide 28 0))) (fresh least) []
        (record { answer = opened (map (λ g. g.bound) (fresh a).feeders); state = fresh a; list = [] })
        ).answer
        ≡ refused 3)
        ↔ (zero ≡ true)
    go true long wide = ((λ r. refl), (λ z. refl))
    go false true wide = ((λ r. let z : ◌≡◌ {A = ℕ} 19 3 = cc in absurd (omega arith)), (λ z. absurd (true≢false (sym z))))
    go false false true = ((λ r. let z : ◌≡◌ {A = ℕ} 28 3 = cc in absurd (omega arith)), (λ z. absurd (true≢false (sym z))))
    go false false false = ((λ r. let z : ◌≡◌ {A = ℕ} 0 1 = cc in absurd (omega arith)), (λ z. absurd (true≢false (sym z))))
