-- Tests of two and over a range, and the first of a range.
use mathlib.Core.Logic.{◌⊎◌, inl, inr}
use mathlib.Core.Path.{◌≡◌, refl}
use Prim.Native.Nat.{ℕ, zero, suc, ◌+◌, ◌≤◌, ◌<◌}
use mathlib.Core.Bool.{Bool, true, false, cond, ◌&&◌, ◌||◌, false≢true, true≢false}
use native.Mathlib.Omega.{arith}
use lib.Dec.{ltb}
use borrow.Author.Tests.{ltb-true, ltb-false}
use Rattle.rules.specs.Basics.{throughout, Found, at, nothing, first}

-- Two tests

pub and_left : (a b : Bool) → a && b ≡ true → a ≡ true
and_left true b e = refl
and_left false b e = e

pub and_right : (a b : Bool) → a && b ≡ true → b ≡ true
and_right true b e = e
and_right false b e = absurd (false≢true e)

pub and_both : (a b : Bool) → a ≡ true → b ≡ true → a && b ≡ true
and_both a b p q = rw (p, q)

pub or_left : (a b : Bool) → a || b ≡ false → a ≡ false
or_left true b e = e
or_left false b e = refl

pub or_right : (a b : Bool) → a || b ≡ false → b ≡ false
or_right true b e = absurd (true≢false e)
or_right false b e = e

pub or-none : (a b : Bool) → a ≡ false → b ≡ false → a || b ≡ false
or-none a b p q = rw (p, q)

-- two tests that hold at the same times are equal
pub same_test : (a b : Bool) → (a ≡ true → b ≡ true) → (b ≡ true → a ≡ true) → a ≡ b
same_test true true f g = refl
same_test true false f g = absurd (false≢true (f refl))
same_test false true f g = absurd (false≢true (g refl))
same_test false false f g = refl

-- a test that cannot hold fails
pub fails : (a : Bool) → (a ≡ true → ⊥) → a ≡ false
fails true f = absurd (f refl)
fails false f = refl

-- a test between a number and itself
pub either_way : (b : Bool) (n : ℕ) → cond b n n ≡ n
either_way true n = refl
either_way false n = refl

-- one number is below another, or not
pub below_or_not : (a b : ℕ) → (a < b) ⊎ (b ≤ a)
below_or_not a b = go (ltb a b) refl
  where
    go : (t : Bool) → ltb a b ≡ t → (a < b) ⊎ (b ≤ a)
    go true e = inl (ltb-true a b e)
    go false e = inr (ltb-false a b e)

-- one place more from a on is that place from its successor on
pub along : (a i : ℕ) → a + suc i ≡ suc a + i
along a i = omega arith

-- A test over a range

pub throughout_at : (f : ℕ → Bool) (k a : ℕ) → throughout f k a ≡ true → (t : ℕ) → a ≤ t → t < a + k → f t ≡ true
throughout_at f zero a e t h1 h2 = absurd (omega arith)
throughout_at f (suc k) a e t h1 h2 =
    go (below_or_not a t) (λ h. throughout_at f k (suc a) (and_right (f a) (throughout f k (suc a)) e) t h (omega arith))
  where
    go : (a < t) ⊎ (t ≤ a) → (a < t → f t ≡ true) → f t ≡ true
    go (inl h) rest = rest h
    go (inr h) rest = let same : t ≡ a = omega arith in rw same (and_left (f a) (throughout f k (suc a)) e)

pub throughout_all : (f : ℕ → Bool) (k a : ℕ) → ((t : ℕ) → a ≤ t → t < a + k → f t ≡ true) → throughout f k a ≡ true
throughout_all f zero a h = refl
throughout_all f (suc k) a h =
    and_both (f a) (throughout f k (suc a)) (h a (omega arith) (omega arith))
    (throughout_all f k (suc a) (λ t p q. h t (omega arith) (omega arith)))

-- The first of a range

-- s is the first of the k numbers from a on at which f holds
pub record IsFirst (f : ℕ → Bool) (k a s : ℕ) : Type 0 where
  pub low : a ≤ s
  pub high : s < a + k
  pub here : f s ≡ true
  pub least : (i : ℕ) → a ≤ i → i < s → f i ≡ false

pub first_found : (f : ℕ → Bool) (k a s : ℕ) → first f k a ≡ at s → IsFirst f k a s
first_found f zero a s e = let z : ◌≡◌ {A = ℕ} 0 1 = cc in absurd (omega arith)
first_found f (suc k) a s e = go (f a) refl (first_found f k (suc a) s)
  where
    go : (b : Bool) → f a ≡ b → (first f k (suc a) ≡ at s → IsFirst f k (suc a) s) → IsFirst f (suc k) a s
    go true p later =
        let q : at a ≡ at s = rw (p, first) at e in
        let same : a ≡ s = cc in
        record { low = omega arith; high = omega arith; here = rw (← same) p; least = λ i h j. absurd (omega arith) }
    go false p later =
        let r : IsFirst f k (suc a) s = later (rw (p, first) at e) in
        record {
          low = omega (arith, r.low);
          high = omega (arith, r.high);
          here = r.here;
          least = λ i h j. before i h j (below_or_not a i) (r.least i);
        }
      where
        before : (i : ℕ) → a ≤ i → i < s → (a < i) ⊎ (i ≤ a) → (suc a ≤ i → i < s → f i ≡ false) → f i ≡ false
        before i h j (inl l) rest = rest l j
        before i h j (inr l) rest = let same : i ≡ a = omega arith in rw same p

pub first-none : (f : ℕ → Bool) (k a : ℕ) → first f k a ≡ nothing → (i : ℕ) → a ≤ i → i < a + k → f i ≡ false
first-none f zero a e i h j = absurd (omega arith)
first-none f (suc k) a e i h j = go (f a) refl (first-none f k (suc a))
  where
    go :
        (b : Bool)
        → f a ≡ b
        → (first f k (suc a) ≡ nothing → (i : ℕ) → suc a ≤ i → i < suc a + k → f i ≡ false)
        → f i ≡ false
    go true p later =
        let q : at a ≡ nothing = rw (p, first) at e in
        let z : ◌≡◌ {A = ℕ} 0 1 = cc in
        absurd (omega arith)
    go false p later = split (below_or_not a i)
      where
        split : (a < i) ⊎ (i ≤ a) → f i ≡ false
        split (inl l) = later (rw (p, first) at e) i l (omega arith)
        split (inr l) = let same : i ≡ a = omega arith in rw same p

-- a search that does not come back with nothing has found something
pub found_or_not : (r : Found) → (r ≡ nothing → ⊥) → (s : ℕ) × (r ≡ at s)
found_or_not (at s) h = (s, refl)
found_or_not nothing h = absurd (h refl)

-- the number with these properties is what the search finds
pub first-is : (f : ℕ → Bool) (k a s : ℕ) → IsFirst f k a s → first f k a ≡ at s
first-is f k a s r = go (first f k a) refl
  where
    go : (o : Found) → first f k a ≡ o → first f k a ≡ at s
    go nothing e = absurd (true≢false (subst⁻ (first-none f k a e s r.low r.high)))
      where
        subst⁻ : f s ≡ false → true ≡ false
        subst⁻ q = rw r.here at q
    go (at u) e = let q : IsFirst f k a u = first_found f k a u e in rw (← (same q)) e
      where
        same : IsFirst f k a u → u ≡ s
        same q = apart (below_or_not u s) (below_or_not s u)
          where
            apart : (u < s) ⊎ (s ≤ u) → (s < u) ⊎ (u ≤ s) → u ≡ s
            apart (inl h) b = absurd (true≢false (rw q.here at (r.least u q.low h)))
            apart (inr h) (inl j) = absurd (true≢false (rw r.here at (q.least s r.low j)))
            apart (inr h) (inr j) = omega arith

pub first_nothing : (f : ℕ → Bool) (k a : ℕ) → ((i : ℕ) → a ≤ i → i < a + k → f i ≡ false) → first f k a ≡ nothing
first_nothing f k a h = go (first f k a) refl
  where
    go : (o : Found) → first f k a ≡ o → first f k a ≡ nothing
    go nothing e = e
    go (at s) e =
        let r : IsFirst f k a s = first_found f k a s e in
        absurd (true≢false (rw r.here at (h s r.low r.high)))
