-- The test of a candidate start: how many minutes it looks at, that its verdict is soundness, and the earliest start by it.
use mathlib.Core.Logic.{◌⊎◌, inl, inr}
use mathlib.Core.Path.{◌≡◌, refl, sym, ◌∙◌, ap}
use Prim.Native.Nat.{ℕ, zero, suc, ◌+◌, ◌-◌, ◌≤◌, ◌<◌}
use mathlib.Core.Bool.{Bool, true, false, not, true≢false}
use mathlib.Core.List.{List}
use native.Mathlib.Omega.{arith}
use borrow.Author.Tests.{not-true, not-false}
use Rattle.rules.specs.Basics.{Found, at, nothing, first}
use Rattle.rules.specs.Load.{Load, Draw, load_from, share, count, counts, last_until, Limits, sound_at, sound}
use Rattle.rules.specs.Charge.{seen}
use Rattle.rules.specs.Site.{feeder_of, charges_on, limits_of}
use Rattle.rules.specs.Search.{added, earliest}
use Rattle.rules.specs.Calls.{draw_for}
use Rattle.rules.specs.Candidate.{looked_up_to, tested_by, candidate}
pub use Rattle.rules.specs.laws.Candidates.{FailsFirst}
use Rattle.rules.specs.laws.Candidates.{FirstFailingMinuteIsTheLast, AllMinutesWhereNoneFails, LookedIsWithinTheActiveMinutes, EarliestIsTheFirstCandidate, OrdersStartAtTheFirstCandidate, OrderTestsLookUpToTheTail}
use Rattle.rules.proofs.Ranges.{fails, below_or_not, IsFirst, first_found, first-none, first-is, first_nothing}
use Rattle.rules.proofs.Counts.{draws_after, draws_in, Sound, sound_at_lem, sound_all, sound_same, sound_from_lem, sound_true}
use Rattle.rules.proofs.Searches.{count_added, count_added_before}

-- The test of any minutes

-- at least the first minute is looked at, and none behind the last
pub looked_bounds : LookedIsWithinTheActiveMinutes
unfolding tested_by
looked_bounds f time s some = go (first (λ t. not (f t)) time s) refl
  where
    go :
        (r : Found)
        → first (λ t. not (f t)) time s ≡ r
        → (1 ≤ (looked_up_to time s r).looked) × ((looked_up_to time s r).looked ≤ time)
    go (at t) e =
        let h : IsFirst (λ t. not (f t)) time s t = first_found (λ t. not (f t)) time s t e in
        (omega arith, omega (arith, h.low, h.high))
    go nothing e = (omega arith, omega arith)

-- then it is the last that is looked at
pub tested_fails : FirstFailingMinuteIsTheLast
unfolding tested_by
tested_fails f time s t h =
    ap (looked_up_to time s)
    (first-is (λ u. not (f u)) time s t
    (record {
      low = h.low;
      high = h.high;
      here = ap not h.fails;
      least = λ u a b. ap not (h.passed u a b);
    }))

-- where none fails all are
pub tested_passes : AllMinutesWhereNoneFails
unfolding tested_by
tested_passes f time s h =
    ap (looked_up_to time s) (first_nothing (λ u. not (f u)) time s (λ t a b. ap not (h t a b)))

-- what an answer says
pub tested_told :
    (f : ℕ → Bool) (time s : ℕ) → (tested_by f time s).fits ≡ true → (t : ℕ) → s ≤ t → t < s + time → f t ≡ true
unfolding tested_by
tested_told f time s = go (first (λ t. not (f t)) time s) refl
  where
    go :
        (r : Found)
        → first (λ t. not (f t)) time s ≡ r
        → (looked_up_to time s r).fits ≡ true
        → (t : ℕ)
        → s ≤ t
        → t < s + time
        → f t ≡ true
    go (at u) e h t a b = absurd (true≢false (sym h))
    go nothing e h t a b = not-false (f t) (first-none (λ t. not (f t)) time s e t a b)

pub record LookedTo (f : ℕ → Bool) (time s looked : ℕ) : Type 0 where
  pub minute : ℕ
  pub number : looked ≡ suc (minute - s)
  pub first : FailsFirst f time s minute

pub tested_stops :
    (f : ℕ → Bool) (time s : ℕ) → (tested_by f time s).fits ≡ false → LookedTo f time s (tested_by f time s).looked
unfolding tested_by
tested_stops f time s = go (first (λ t. not (f t)) time s) refl
  where
    go :
        (r : Found)
        → first (λ t. not (f t)) time s ≡ r
        → (looked_up_to time s r).fits ≡ false
        → LookedTo f time s (looked_up_to time s r).looked
    go (at t) e h =
        let i : IsFirst (λ t. not (f t)) time s t = first_found (λ t. not (f t)) time s t e in
        record {
          minute = t;
          number = refl;
          first =
              record {
                low = i.low;
                high = i.high;
                passed = λ u a b. not-false (f u) (i.least u a b);
                fails = not-true (f t) i.here;
              };
        }
    go nothing e h = absurd (true≢false h)

-- the test goes by the minutes looked at alone
pub first-same :
    (f g : ℕ → Bool) (k a : ℕ) → ((t : ℕ) → a ≤ t → t < a + k → f t ≡ g t) → first f k a ≡ first g k a
first-same f g zero a h = refl
first-same f g (suc k) a h =
    go (f a) refl (first-same f g k (suc a) (λ t p q. h t (omega arith) (omega arith)))
  where
    go : (b : Bool) → f a ≡ b → first f k (suc a) ≡ first g k (suc a) → first f (suc k) a ≡ first g (suc k) a
    go true e rest = let d : g a ≡ true = sym (h a (omega arith) (omega arith)) ∙ e in rw (first, e, d)
    go false e rest = let d : g a ≡ false = sym (h a (omega arith) (omega arith)) ∙ e in rw (first, e, d) rest

pub tested_same :
    (f g : ℕ → Bool) (time s : ℕ)
    → ((t : ℕ) → s ≤ t → t < s + time → f t ≡ g t)
    → tested_by f time s ≡ tested_by g time s
unfolding tested_by
tested_same f g time s h =
    ap (looked_up_to time s) (first-same (λ t. not (f t)) (λ t. not (g t)) time s (λ t a b. ap not (h t a b)))

-- Beside loads

module _ (y : Limits) (k : ℕ) (xs : List Load) (a : Draw) (s : ℕ) where
  -- a minute of the charge's own
  pub counts_own : (t : ℕ) → s ≤ t → t < s + a.time → (l : ℕ) → counts (added xs a s) t l ≡ count xs l t + share a.line a.rate l
  counts_own t i j l =
      count_added xs a s l t ∙ ap (λ (x : ℕ). count xs l t + x) (draws_in (load_from a s) l t i j)

  -- a failing minute of its own makes it unsound
  pub fails_unsound : (t : ℕ) → k ≤ t → sound_at y (added xs a s) t ≡ false → sound y k (added xs a s) ≡ false
  fails_unsound t i e =
      fails (sound y k (added xs a s))
      (λ h. true≢false (sym (sound_all y (counts (added xs a s) t) (sound_from_lem y k (added xs a s) h t i)) ∙ e))

  -- beside a sound plan no other minute can
  pub fits_sound :
      sound y k xs ≡ true
      → ((t : ℕ) → s ≤ t → t < s + a.time → sound_at y (added xs a s) t ≡ true)
      → sound y k (added xs a s) ≡ true
  fits_sound e h = sound_true y k (added xs a s) (λ t i. go t i (below_or_not t s) (below_or_not t (s + a.time)))
    where
      go :
          (t : ℕ)
          → k ≤ t
          → (t < s) ⊎ (s ≤ t)
          → (t < s + a.time) ⊎ (s + a.time ≤ t)
          → Sound y (counts (added xs a s) t)
      go t i (inl b) d =
          sound_same y (counts xs t) (counts (added xs a s) t) (λ l. count_added_before xs a s l t b) (sound_from_lem y k xs e t i)
      go t i (inr b) (inl d) = sound_at_lem y (counts (added xs a s) t) (h t b d)
      go t i (inr b) (inr d) =
          sound_same y (counts xs t) (counts (added xs a s) t)
          (λ l. omega (arith, count_added xs a s l t, draws_after (load_from a s) l t d))
          (sound_from_lem y k xs e t i)

  -- the verdict is soundness of the plan with the charge, where the plan alone is sound
  pub candidate_sound : k ≤ s → sound y k xs ≡ true → (candidate y xs a s).fits ≡ sound y k (added xs a s)
  candidate_sound le e = go (candidate y xs a s).fits refl
    where
      go : (b : Bool) → (candidate y xs a s).fits ≡ b → (candidate y xs a s).fits ≡ sound y k (added xs a s)
      go true h = h ∙ sym (fits_sound e (tested_told (sound_at y (added xs a s)) a.time s h))
      go false h =
          let w : LookedTo (sound_at y (added xs a s)) a.time s (candidate y xs a s).looked =
          tested_stops (sound_at y (added xs a s)) a.time s h in
          h ∙ sym (fails_unsound w.minute (omega (arith, w.first.low)) w.first.fails)

-- the earliest start is the first candidate that fits
pub earliest_candidate : EarliestIsTheFirstCandidate
unfolding earliest
earliest_candidate y k xs a e =
    first-same (λ s. sound y k (added xs a s)) (λ s. (candidate y xs a s).fits) (suc (last_until xs - k)) k
    (λ s i j. sym (candidate_sound y k xs a s i e))

-- Of an order on a station

pub order_candidates : OrdersStartAtTheFirstCandidate
order_candidates s f line p rate v h =
    earliest_candidate (limits_of s f) s.clock (seen (limits_of s f) (charges_on s f)) (draw_for s f line p rate) (v.sound_on f h)

pub order_looked : OrderTestsLookUpToTheTail
order_looked s f line p rate start h =
    looked_bounds
    (sound_at (limits_of s f) (added (seen (limits_of s f) (charges_on s f)) (draw_for s f line p rate) start))
    (p + (feeder_of s f).tail)
    start
    (omega arith)
