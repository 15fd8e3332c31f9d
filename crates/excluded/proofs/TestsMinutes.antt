-- The tests of limit, balance and W in every minute from the clock on.
use mathlib.Core.Path.{◌≡◌, refl}
use Prim.Native.Nat.{ℕ, ◌+◌, ◌≤◌}
use mathlib.Core.Bool.{true, and-false}
use mathlib.Core.List.{List, [], ◌∷◌, ◌++◌}
use native.Mathlib.Omega.{arith}
use lib.Dec.{leb}
use borrow.Author.Tests.{leb-true, le-leb, le-ltb}
use Rattle.rules.specs.Load.{Load, count, counts, drawn, last_until, IsLine, limited, balanced}
use Rattle.rules.specs.Charge.{loads_of}
use Rattle.rules.specs.Site.{State, feeder_of, others_of}
use Rattle.rules.proofs.Counts.{count_past, limited_at, limited_all, balanced_at, balanced_all, from_on_at, from_on_all}
use Rattle.rules.proofs.Sites.{last_until_append}
use Rattle.guarantee.specs.DemandTwo.{SoundPlan}
use Rattle.excluded.specs.Minutes.{limit_from, balance_from, site_from, plan_sound}
use Rattle.excluded.specs.LawsOfTests.{Tests}
use Rattle.excluded.proofs.Tests.{both_tests}

drawn_past : (xs : List Load) (t : ℕ) → last_until xs ≤ t → drawn xs t ≡ 0
drawn_past [] t h = refl
drawn_past (x ∷ xs) t h =
    rw (le-ltb t x.until (omega arith), and-false (leb x.from t), drawn_past xs t (omega arith))

pub limit_tests :
    (n k : ℕ) (xs : List Load) → Tests (limit_from n k xs) ((l t : ℕ) → IsLine l → k ≤ t → count xs l t ≤ n)
limit_tests n k xs = (
  (λ e l t j h.
      limited_at n (counts xs t)
      (from_on_at k xs (λ t. limited n (counts xs t))
      (λ u i. limited_all n (counts xs u) (λ m q. rw (count_past xs m u i) (omega arith))) e t h)
      l j),
  (λ p. from_on_all k xs (λ t. limited n (counts xs t)) (λ t h. limited_all n (counts xs t) (λ l j. p l t j h))),
)

pub balance_tests :
    (d k : ℕ) (xs : List Load)
    → Tests (balance_from d k xs) ((l m t : ℕ) → IsLine l → IsLine m → k ≤ t → count xs l t ≤ count xs m t + d)
balance_tests d k xs = (
  (λ e l m t j i h.
      balanced_at d (counts xs t)
      (from_on_at k xs (λ t. balanced d (counts xs t))
      (λ u q. balanced_all d (counts xs u) (λ a b r v. rw (count_past xs a u q) (omega arith))) e t h)
      l m j i),
  (λ p. from_on_all k xs (λ t. balanced d (counts xs t)) (λ t h. balanced_all d (counts xs t) (λ l m j i. p l m t j i h))),
)

pub site_tests :
    (w k : ℕ) (others xs : List Load)
    → Tests (site_from w k others xs) ((t : ℕ) → k ≤ t → drawn others t + drawn xs t ≤ w)
site_tests w k others xs = (
  (λ e t h.
      leb-true (drawn others t + drawn xs t) w
      (from_on_at k (others ++ xs) (λ t. leb (drawn others t + drawn xs t) w) past e t h)),
  (λ p.
      from_on_all k (others ++ xs) (λ t. leb (drawn others t + drawn xs t) w)
      (λ t h. le-leb (drawn others t + drawn xs t) w (p t h))),
)
  where
    past : (u : ℕ) → last_until (others ++ xs) ≤ u → leb (drawn others u + drawn xs u) w ≡ true
    past u q =
        let e = last_until_append others xs in
        rw (drawn_past others u (omega arith), drawn_past xs u (omega arith)) (le-leb (0 + 0) w (omega arith))

pub plan_tests : (s : State) (f : ℕ) (xs : List Load) → Tests (plan_sound s f xs) (SoundPlan s f xs)
plan_tests s f xs =
    let both =
    both_tests (limit_tests (feeder_of s f).limit s.clock xs)
    (both_tests (balance_tests (feeder_of s f).bound s.clock xs) (site_tests s.site s.clock (loads_of (others_of s f)) xs)) in (
      (λ e. let p = both.0 e in record { limit = p.0; balance = p.1.0; site = p.1.1 }),
      (λ p. both.1 (p.limit, (p.balance, p.site))),
    )
