-- The searches find the smallest start, and find one wherever there is one; the bounds of the definitions miss nothing.
use mathlib.Core.Logic.{◌⊎◌, inl, inr}
use mathlib.Core.Path.{◌≡◌, sym, ◌∙◌}
use Prim.Native.Nat.{ℕ, suc, ◌+◌, ◌-◌, max, ◌≤◌, ◌<◌}
use mathlib.Core.Bool.{Bool, true, false, not, true≢false}
use mathlib.Core.List.{List, [], ◌∷◌}
use native.Mathlib.Omega.{arith}
use lib.Dec.{leb}
use borrow.Author.Tests.{le-leb, leb-true, not-false}
use Rattle.rules.specs.Basics.{at}
use Rattle.rules.specs.Load.{Load, Draw, load_from, draws, count, counts, last_until, Limits, whole_of, balance_at, sound}
use Rattle.rules.specs.Search.{added, earliest, Caps, room_for, fits_under, first_unbalanced}
use Rattle.rules.specs.laws.Searches.{SoundPlansLeaveAStart, NoStartFoundIsNoStart, NoMinuteFoundIsBalance}
use Rattle.rules.proofs.Ranges.{and_left, and_right, and_both, fails, below_or_not, throughout_all, IsFirst, first_found, first-none, found_or_not}
use Rattle.rules.proofs.Counts.{draws_before, draws_most, count-append, count_past, whole_draws, whole_past, Sound, sound_same, sound_few, sound_from_lem, sound_true, balance_past, balanced_at}

-- One more load

pub count_added :
    (xs : List Load) (a : Draw) (s l t : ℕ)
    → count (added xs a s) l t ≡ count xs l t + draws (load_from a s) l t
count_added xs a s l t = rw (count-append xs (load_from a s ∷ []) l t) (omega arith)

pub count_added_before :
    (xs : List Load) (a : Draw) (s l t : ℕ) → t < s → count (added xs a s) l t ≡ count xs l t
count_added_before xs a s l t h =
    rw (count_added xs a s l t, draws_before (load_from a s) l t h) (omega arith)

-- past the last end the new load is alone
pub count_added_past :
    (xs : List Load) (a : Draw) (s l t : ℕ) → last_until xs ≤ t → count (added xs a s) l t ≤ a.rate
count_added_past xs a s l t h =
    rw (count_added xs a s l t, count_past xs l t h) (omega (arith, draws_most (load_from a s) l t))

-- all that is drawn, with one more load
pub whole_added :
    (xs : List Load) (a : Draw) (s t : ℕ) → whole_of (counts (added xs a s) t) ≤ whole_of (counts xs t) + a.rate
whole_added xs a s t =
    omega (
      arith,
      count_added xs a s 1 t,
      count_added xs a s 2 t,
      count_added xs a s 3 t,
      count_added xs a s 4 t,
      whole_draws (load_from a s) t,
    )

-- The smallest sound start

-- the start found is sound, not below the clock nor past the last end, and no smaller one not below the clock is sound
pub earliest_first :
    (y : Limits) (k : ℕ) (xs : List Load) (a : Draw) (s : ℕ)
    → earliest y k xs a ≡ at s
    → IsFirst (λ u. sound y k (added xs a u)) (suc (last_until xs - k)) k s
unfolding earliest
earliest_first y k xs a s e =
    first_found (λ u. sound y k (added xs a u)) (suc (last_until xs - k)) k s e

-- where the minutes before the last end are sound without the charge, the last end serves
at_the_end :
    (y : Limits) (k : ℕ) (xs : List Load) (a : Draw) (s : ℕ)
    → a.rate ≤ y.limit
    → a.rate ≤ y.site
    → a.rate ≤ y.bound
    → last_until xs ≤ s
    → ((t : ℕ) → k ≤ t → t < s → Sound y (counts xs t))
    → sound y k (added xs a s) ≡ true
at_the_end y k xs a s n w d le h = sound_true y k (added xs a s) (λ t j. go t j (below_or_not t s))
  where
    go : (t : ℕ) → k ≤ t → (t < s) ⊎ (s ≤ t) → Sound y (counts (added xs a s) t)
    go t j (inl i) =
        sound_same y (counts xs t) (counts (added xs a s) t)
        (λ l. count_added_before xs a s l t i)
        (h t j i)
    go t j (inr i) =
        sound_few y (counts (added xs a s) t) a.rate n w d
        (λ l. count_added_past xs a s l t (omega arith))
        (omega (arith, whole_added xs a s t, whole_past xs t (omega arith)))

-- nothing found: no start at all is sound
pub earliest_none : NoStartFoundIsNoStart
unfolding earliest
earliest_none y k xs a n w d e s h = go (below_or_not s (k + suc (last_until xs - k)))
  where
    f : ℕ → Bool
    f u = sound y k (added xs a u)

    end : ℕ
    end = max k (last_until xs)

    last : f end ≡ false
    last = first-none f (suc (last_until xs - k)) k e end (omega arith) (omega arith)

    -- a sound start behind the end would make the end sound too
    beyond : end ≤ s → f s ≡ true → ⊥
    beyond j p =
        true≢false
        (sym
        (at_the_end y k xs a end n w d (omega arith)
        (λ t i l.
        sound_same y (counts (added xs a s) t) (counts xs t)
        (λ x. sym (count_added_before xs a s x t (omega arith)))
        (sound_from_lem y k (added xs a s) p t i)))
        ∙ last)

    go : (s < k + suc (last_until xs - k)) ⊎ (k + suc (last_until xs - k) ≤ s) → f s ≡ false
    go (inl j) = first-none f (suc (last_until xs - k)) k e s h j
    go (inr j) = fails (f s) (beyond (omega arith))

-- a sound plan always leaves a start for a rate that is not above N, W or D
pub earliest_found : SoundPlansLeaveAStart
earliest_found y k xs a n w d e =
    found_or_not (earliest y k xs a)
    (λ none.
    true≢false
    (sym
    (at_the_end y k xs a (max k (last_until xs)) n w d (omega arith)
    (λ t j i. sound_from_lem y k xs e t j))
    ∙ earliest_none y k xs a n w d none (max k (last_until xs)) (omega arith)))

-- Under a cap

-- in minute t the line's count, with one more of the rate, is at or below the cap, and the site within w
pub record Under (w : ℕ) (cap : Caps) (xs : List Load) (line rate t : ℕ) : Type 0 where
  pub own : count xs line t + rate ≤ cap line t
  pub whole : whole_of (counts xs t) + rate ≤ w

module _ (w : ℕ) (cap : Caps) (xs : List Load) (line rate : ℕ) where
  pub room_under_lem : (t : ℕ) → room_for w cap xs line rate t ≡ true → Under w cap xs line rate t
  room_under_lem t e =
      let own : Bool = leb (count xs line t + rate) (cap line t) in
      let whole : Bool = leb (whole_of (counts xs t) + rate) w in
      record {
        own = leb-true (count xs line t + rate) (cap line t) (and_left own whole e);
        whole = leb-true (whole_of (counts xs t) + rate) w (and_right own whole e);
      }

  pub under_room : (t : ℕ) → Under w cap xs line rate t → room_for w cap xs line rate t ≡ true
  under_room t u =
      and_both (leb (count xs line t + rate) (cap line t)) (leb (whole_of (counts xs t) + rate) w)
      (le-leb (count xs line t + rate) (cap line t) u.own)
      (le-leb (whole_of (counts xs t) + rate) w u.whole)

-- past the last end a cap and a site limit that are not below the rate leave room
pub under_past :
    (w : ℕ) (cap : Caps) (xs : List Load) (a : Draw) (s : ℕ)
    → ((t : ℕ) → a.rate ≤ cap a.line t)
    → a.rate ≤ w
    → last_until xs ≤ s
    → fits_under w cap xs a s ≡ true
under_past w cap xs a s h n le =
    throughout_all (room_for w cap xs a.line a.rate) a.time s
    (λ t i j.
    under_room w cap xs a.line a.rate t
    (record {
      own = rw (count_past xs a.line t (omega arith)) (omega (arith, h t));
      whole = rw (whole_past xs t (omega arith)) (omega arith);
    }))

-- The first unbalanced minute

pub unbalanced_first :
    (y : Limits) (k : ℕ) (xs : List Load) (t : ℕ)
    → first_unbalanced y k xs ≡ at t
    → IsFirst (λ u. not (balance_at y xs u)) (last_until xs - k) k t
unfolding first_unbalanced
unbalanced_first y k xs t e = first_found (λ u. not (balance_at y xs u)) (last_until xs - k) k t e

-- none found: every minute from the clock on is in balance
pub unbalanced_none : NoMinuteFoundIsBalance
unfolding first_unbalanced
unbalanced_none y k xs e t h = balanced_at y.bound (counts xs t) (go (below_or_not t (last_until xs)))
  where
    go : (t < last_until xs) ⊎ (last_until xs ≤ t) → balance_at y xs t ≡ true
    go (inl j) =
        not-false (balance_at y xs t)
        (first-none (λ u. not (balance_at y xs u)) (last_until xs - k) k e t h (omega arith))
    go (inr j) = balance_past y xs t j
