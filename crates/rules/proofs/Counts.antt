-- Counts of loads, soundness of three counts, and soundness in every minute from the clock on.
use mathlib.Core.Logic.{◌⊎◌, inl, inr}
use mathlib.Core.Path.{◌≡◌, refl}
use Prim.Native.Nat.{ℕ, ◌+◌, ◌-◌, ◌≤◌, ◌<◌}
use mathlib.Core.Bool.{Bool, true, false, cond, ◌&&◌, and-false}
use mathlib.Core.List.{List, [], ◌∷◌, ◌++◌}
use native.Mathlib.Omega.{arith}
use lib.Dec.{leb, eqb}
use borrow.Author.Tests.{leb-true, le-leb, lt-ltb, le-ltb, lt-leb, eq-eqb, eqb-true}
use Rattle.rules.specs.Load.{Load, active, share, draws, count, counts, last_until, Limits, IsLine, on_lines, limited, balanced, whole_of, within_site, sound_counts, sound_at, limit_at, balance_at, from_on, sound}
pub use Rattle.rules.specs.laws.Soundness.{Limited, Balanced, Sound}
use Rattle.rules.specs.laws.Soundness.{SoundPlansAreSoundInEveryMinute, SoundMinutesMakeASoundPlan}
use Rattle.rules.proofs.Ranges.{and_left, and_right, and_both, throughout_at, throughout_all, below_or_not}

-- Counts

pub share_most : (i rate l : ℕ) → share i rate l ≤ rate
share_most i rate l = go (eqb i l)
  where
    go : (b : Bool) → cond b rate 0 ≤ rate
    go true = omega arith
    go false = omega arith

pub share_own : (l rate : ℕ) → share l rate l ≡ rate
share_own l rate = rw (eq-eqb l l refl)

pub draws_before : (x : Load) (l t : ℕ) → t < x.from → draws x l t ≡ 0
draws_before x l t h = rw (lt-leb x.from t h)

pub draws_after : (x : Load) (l t : ℕ) → x.until ≤ t → draws x l t ≡ 0
draws_after x l t h = rw (le-ltb t x.until h, and-false (leb x.from t))

pub draws_in : (x : Load) (l t : ℕ) → x.from ≤ t → t < x.until → draws x l t ≡ share x.line x.rate l
draws_in x l t h j = rw (le-leb x.from t h, lt-ltb t x.until j)

pub draws_most : (x : Load) (l t : ℕ) → draws x l t ≤ x.rate
draws_most x l t = go (active x t)
  where
    go : (b : Bool) → cond b (share x.line x.rate l) 0 ≤ x.rate
    go true = share_most x.line x.rate l
    go false = omega arith

pub count-append : (xs ys : List Load) (l t : ℕ) → count (xs ++ ys) l t ≡ count xs l t + count ys l t
count-append [] ys l t = omega arith
count-append (x ∷ xs) ys l t = rw (count-append xs ys l t) (omega arith)

-- past the last end every count is 0
pub count_past : (xs : List Load) (l t : ℕ) → last_until xs ≤ t → count xs l t ≡ 0
count_past [] l t h = refl
count_past (x ∷ xs) l t h = rw (draws_after x l t (omega arith), count_past xs l t (omega arith))

-- Three counts, with the lines as parameters

pub on_lines_at : (f : ℕ → Bool) → on_lines f ≡ true → (l : ℕ) → IsLine l → f l ≡ true
on_lines_at f e l h = throughout_at f 3 1 e l h.low (omega (arith, h.high))

pub on_lines_all : (f : ℕ → Bool) → ((l : ℕ) → IsLine l → f l ≡ true) → on_lines f ≡ true
on_lines_all f h = throughout_all f 3 1 (λ l p q. h l (record { low = p; high = omega arith }))

pub limited_at : (n : ℕ) (f : ℕ → ℕ) → limited n f ≡ true → Limited n f
unfolding limited
limited_at n f e l h = leb-true (f l) n (on_lines_at (λ x. leb (f x) n) e l h)

pub limited_all : (n : ℕ) (f : ℕ → ℕ) → Limited n f → limited n f ≡ true
unfolding limited
limited_all n f h = on_lines_all (λ l. leb (f l) n) (λ l j. le-leb (f l) n (h l j))

pub balanced_at : (d : ℕ) (f : ℕ → ℕ) → balanced d f ≡ true → Balanced d f
unfolding balanced
balanced_at d f e l m h j =
    leb-true (f l) (f m + d)
    (on_lines_at (λ y. leb (f l) (f y + d)) (on_lines_at (λ x. on_lines (λ y. leb (f x) (f y + d))) e l h) m j)

pub balanced_all : (d : ℕ) (f : ℕ → ℕ) → Balanced d f → balanced d f ≡ true
unfolding balanced
balanced_all d f h =
    on_lines_all (λ l. on_lines (λ m. leb (f l) (f m + d)))
    (λ l j. on_lines_all (λ m. leb (f l) (f m + d)) (λ m i. le-leb (f l) (f m + d) (h l m j i)))

-- The whole site

pub within_at : (w : ℕ) (f : ℕ → ℕ) → within_site w f ≡ true → whole_of f ≤ w
unfolding within_site
within_at w f e = leb-true (whole_of f) w e

pub within_all : (w : ℕ) (f : ℕ → ℕ) → whole_of f ≤ w → within_site w f ≡ true
unfolding within_site
within_all w f h = le-leb (whole_of f) w h

pub whole_same : (f g : ℕ → ℕ) → ((l : ℕ) → g l ≡ f l) → whole_of g ≡ whole_of f
whole_same f g e = rw (e 1, e 2, e 3, e 4)

-- a load is on one line
pub whole_share : (i rate : ℕ) → whole_of (share i rate) ≤ rate
whole_share i rate = go (eqb i 1) refl (eqb i 2) refl (eqb i 3) refl (eqb i 4) refl
  where
    go :
        (a : Bool) → eqb i 1 ≡ a
        → (b : Bool) → eqb i 2 ≡ b
        → (c : Bool) → eqb i 3 ≡ c
        → (d : Bool) → eqb i 4 ≡ d
        → cond a rate 0 + (cond b rate 0 + (cond c rate 0 + cond d rate 0)) ≤ rate
    go true p true q c r d u = absurd (omega (arith, eqb-true i 1 p, eqb-true i 2 q))
    go true p false q true r d u = absurd (omega (arith, eqb-true i 1 p, eqb-true i 3 r))
    go true p false q false r true u = absurd (omega (arith, eqb-true i 1 p, eqb-true i 4 u))
    go true p false q false r false u = omega arith
    go false p true q true r d u = absurd (omega (arith, eqb-true i 2 q, eqb-true i 3 r))
    go false p true q false r true u = absurd (omega (arith, eqb-true i 2 q, eqb-true i 4 u))
    go false p true q false r false u = omega arith
    go false p false q true r true u = absurd (omega (arith, eqb-true i 3 r, eqb-true i 4 u))
    go false p false q true r false u = omega arith
    go false p false q false r true u = omega arith
    go false p false q false r false u = omega arith

pub whole_draws : (x : Load) (t : ℕ) → whole_of (λ l. draws x l t) ≤ x.rate
whole_draws x t = go (active x t)
  where
    go : (b : Bool) → whole_of (λ l. cond b (share x.line x.rate l) 0) ≤ x.rate
    go true = whole_share x.line x.rate
    go false = omega arith

pub whole_past : (xs : List Load) (t : ℕ) → last_until xs ≤ t → whole_of (counts xs t) ≡ 0
whole_past xs t h = rw (count_past xs 1 t h, count_past xs 2 t h, count_past xs 3 t h, count_past xs 4 t h)

pub sound_at_lem : (y : Limits) (f : ℕ → ℕ) → sound_counts y f ≡ true → Sound y f
sound_at_lem y f e =
    let within : limited y.limit f && within_site y.site f ≡ true
    = and_left (limited y.limit f && within_site y.site f) (balanced y.bound f) e in
    record {
      limit = limited_at y.limit f (and_left (limited y.limit f) (within_site y.site f) within);
      site = within_at y.site f (and_right (limited y.limit f) (within_site y.site f) within);
      balance =
          balanced_at y.bound f (and_right (limited y.limit f && within_site y.site f) (balanced y.bound f) e);
    }

-- "each count is at most N", and the site is within W
pub limits_all : (y : Limits) (f : ℕ → ℕ) → Limited y.limit f → whole_of f ≤ y.site → limited y.limit f && within_site y.site f ≡ true
limits_all y f n w =
    and_both (limited y.limit f) (within_site y.site f) (limited_all y.limit f n) (within_all y.site f w)

pub sound_all : (y : Limits) (f : ℕ → ℕ) → Sound y f → sound_counts y f ≡ true
sound_all y f s =
    and_both (limited y.limit f && within_site y.site f) (balanced y.bound f)
    (limits_all y f s.limit s.site)
    (balanced_all y.bound f s.balance)

-- soundness goes by the counts of the lines alone
pub sound_same : (y : Limits) (f g : ℕ → ℕ) → ((l : ℕ) → g l ≡ f l) → Sound y f → Sound y g
sound_same y f g e s =
    record {
      limit = λ l j. rw (e l) (s.limit l j);
      site = rw (whole_same f g e) s.site;
      balance = λ l m j i. rw (e l, e m) (s.balance l m j i);
    }

-- no count is above what both limits and the bound allow
pub sound_few :
    (y : Limits) (f : ℕ → ℕ) (k : ℕ)
    → k ≤ y.limit
    → k ≤ y.site
    → k ≤ y.bound
    → ((l : ℕ) → f l ≤ k)
    → whole_of f ≤ k
    → Sound y f
sound_few y f k n w d h all =
    record { limit = λ l j. omega (arith, h l); site = omega arith; balance = λ l m j i. omega (arith, h l) }

-- Every minute from the clock on

-- a test that holds wherever all counts are 0, and up to the last end, holds in every minute from the clock on
pub from_on_at :
    (k : ℕ) (xs : List Load) (test : ℕ → Bool)
    → ((t : ℕ) → last_until xs ≤ t → test t ≡ true)
    → from_on k xs test ≡ true
    → (t : ℕ)
    → k ≤ t
    → test t ≡ true
from_on_at k xs test past e t h = go (below_or_not t (last_until xs))
  where
    go : (t < last_until xs) ⊎ (last_until xs ≤ t) → test t ≡ true
    go (inl j) = throughout_at test (last_until xs - k) k e t h (omega arith)
    go (inr j) = past t j

pub from_on_all :
    (k : ℕ) (xs : List Load) (test : ℕ → Bool) → ((t : ℕ) → k ≤ t → test t ≡ true) → from_on k xs test ≡ true
from_on_all k xs test h = throughout_all test (last_until xs - k) k (λ t p q. h t p)

pub limit_past : (y : Limits) (xs : List Load) (t : ℕ) → last_until xs ≤ t → limit_at y xs t ≡ true
limit_past y xs t h =
    limits_all y (counts xs t) (λ l j. rw (count_past xs l t h) (omega arith)) (omega (arith, whole_past xs t h))

pub balance_past : (y : Limits) (xs : List Load) (t : ℕ) → last_until xs ≤ t → balance_at y xs t ≡ true
balance_past y xs t h = balanced_all y.bound (counts xs t) (λ l m j i. rw (count_past xs l t h) (omega arith))

-- a plan is sound exactly when every minute from the clock on is sound, with no upper end
pub sound_from_lem : SoundPlansAreSoundInEveryMinute
unfolding sound
sound_from_lem y k xs e t h =
    sound_at_lem y (counts xs t)
    (from_on_at k xs (sound_at y xs)
    (λ u j. and_both (limit_at y xs u) (balance_at y xs u) (limit_past y xs u j) (balance_past y xs u j))
    e t h)

pub sound_true : SoundMinutesMakeASoundPlan
unfolding sound
sound_true y k xs h = from_on_all k xs (sound_at y xs) (λ t j. sound_all y (counts xs t) (h t j))
