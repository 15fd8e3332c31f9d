-- Which charges fit at a start: the run of minutes with room, what stays so when more is drawn, and the smallest start at which one
-- fits, which never falls.
use mathlib.Core.Logic.{◌⊎◌, inl, inr}
use mathlib.Core.Path.{◌≡◌, refl, sym, ap, ◌∙◌}
use Prim.Native.Nat.{ℕ, zero, suc, ◌+◌, ◌-◌, max, ◌≤◌, ◌<◌}
use mathlib.Core.Bool.{Bool, true, false, cond, not, true≢false}
use mathlib.Core.List.{List, [], ◌∷◌, ◌++◌, append_assoc}
use native.Mathlib.Omega.{arith}
use lib.Dec.{leb, eqb}
use borrow.Author.Tests.{le-leb, lt-leb}
use Rattle.rules.specs.Basics.{throughout, at, run_of, keep, some}
use Rattle.rules.specs.Load.{Load, Draw, count, last_until}
use Rattle.rules.specs.Charge.{Charge, draw_of, load_of, loads_of}
use Rattle.rules.specs.Search.{added, Caps, room_for, fits_under}
use Rattle.rules.specs.Priority.{Fitting, fits_at, first_fit, without_ticket}
pub use Rattle.rules.specs.laws.Fitting.{NoneBelow}
use Rattle.rules.specs.laws.Fitting.{FitsExactlyInTheRun, NoneBelowStaysNone, StartsOfALineRise}
use Rattle.rules.proofs.Ranges.{fails, below_or_not, throughout_at, throughout_all, along, or_left, or_right, or-none, IsFirst, first_found, first-is}
use Rattle.rules.proofs.Lists.{map-append}
use Rattle.rules.proofs.Searches.{count_added, Under, room_under_lem, under_room}

-- The run of minutes that pass a test

-- r of the k numbers from a on pass f, and the next one does not
pub record Run (f : ℕ → Bool) (k a r : ℕ) : Type 0 where
  pub high : r ≤ k
  pub passes : (t : ℕ) → a ≤ t → t < a + r → f t ≡ true
  pub stops : r < k → f (a + r) ≡ false

pub run_has : (f : ℕ → Bool) (k a : ℕ) → Run f k a (run_of f k a)
run_has f zero a = record { high = omega arith; passes = λ t p q. absurd (omega arith); stops = λ h. absurd (omega arith) }
run_has f (suc k) a = go (f a) refl (run_has f k (suc a))
  where
    go : (b : Bool) → f a ≡ b → Run f k (suc a) (run_of f k (suc a)) → Run f (suc k) a (cond b (suc (run_of f k (suc a))) 0)
    go true p r =
        record {
          high = omega (arith, r.high);
          passes = λ t i j. within t i j (below_or_not a t);
          stops = λ h. rw (along a (run_of f k (suc a))) (r.stops (omega arith));
        }
      where
        within : (t : ℕ) → a ≤ t → t < a + suc (run_of f k (suc a)) → (a < t) ⊎ (t ≤ a) → f t ≡ true
        within t i j (inl h) = r.passes t h (omega arith)
        within t i j (inr h) = let same : t ≡ a = omega arith in rw same p
    go false p r =
        record {
          high = omega arith;
          passes = λ t i j. absurd (omega arith);
          stops = λ h. let same : a + 0 ≡ a = omega arith in rw same p;
        }

-- two runs from the same number are equally long
run_not_longer : (f : ℕ → Bool) (k a r q : ℕ) → Run f k a r → Run f k a q → r ≤ q
run_not_longer f k a r q x y = go (below_or_not q r)
  where
    go : (q < r) ⊎ (r ≤ q) → r ≤ q
    go (inl h) =
        absurd (true≢false (rw (x.passes (a + q) (omega arith) (omega arith)) at (y.stops (omega (arith, x.high)))))
    go (inr h) = h

pub run_is : (f : ℕ → Bool) (k a r : ℕ) → Run f k a r → run_of f k a ≡ r
run_is f k a r x =
    omega (
      arith,
      run_not_longer f k a (run_of f k a) r (run_has f k a) x,
      run_not_longer f k a r (run_of f k a) x (run_has f k a),
    )

-- A charge fits at a start exactly when the run of minutes from it on with room for its rate is at least its time.
pub fits_run_lem : FitsExactlyInTheRun
fits_run_lem w cap xs a most s h = go (run_has room most s) (below_or_not (run_of room most s) a.time)
  where
    room : ℕ → Bool
    room = room_for w cap xs a.line a.rate

    r : ℕ
    r = run_of room most s

    go : Run room most s r → (r < a.time) ⊎ (a.time ≤ r) → throughout room a.time s ≡ leb a.time r
    go x (inl j) =
        fails (throughout room a.time s)
        (λ e. true≢false (sym (throughout_at room a.time s e (s + r) (omega arith) (omega arith)) ∙ x.stops (omega arith)))
        ∙ sym (lt-leb a.time r j)
    go x (inr j) =
        throughout_all room a.time s (λ t p q. x.passes t p (omega arith)) ∙ sym (le-leb a.time r j)

-- More that is drawn

-- with more loads nothing fits where it did not
pub fits_less :
    (w : ℕ) (cap : Caps) (xs : List Load) (b : Draw) (u : ℕ) (a : Draw) (s : ℕ)
    → fits_under w cap (added xs b u) a s ≡ true
    → fits_under w cap xs a s ≡ true
fits_less w cap xs b u a s e =
    throughout_all (room_for w cap xs a.line a.rate) a.time s
    (λ t i j. under_room w cap xs a.line a.rate t (go t (room_under_lem w cap (added xs b u) a.line a.rate t
    (throughout_at (room_for w cap (added xs b u) a.line a.rate) a.time s e t i j))))
  where
    more : (l t : ℕ) → count xs l t ≤ count (added xs b u) l t
    more l t = rw (count_added xs b u l t) (omega arith)

    go : (t : ℕ) → Under w cap (added xs b u) a.line a.rate t → Under w cap xs a.line a.rate t
    go t v =
        record {
          own = omega (arith, v.own, more a.line t);
          whole = omega (arith, v.whole, more 1 t, more 2 t, more 3 t, more 4 t);
        }

-- the loads with one more charge placed
pub loads_more :
    (base : List Load) (placed : List Charge) (d : Charge)
    → base ++ loads_of (placed ++ (d ∷ [])) ≡ added (base ++ loads_of placed) (draw_of d) d.start
loads_more base placed d =
    ap (λ xs. base ++ xs) (map-append load_of placed (d ∷ [])) ∙ sym (append_assoc base (loads_of placed) (loads_of (d ∷ [])))

module _ (w : ℕ) (cap : Caps) (base : List Load) (placed : List Charge) (d : Charge) where
  -- what did not fit at a start does not fit there after a placement
  pub unfit_stays :
      (s : ℕ) (c : Charge)
      → fits_at w cap (base ++ loads_of placed) s c ≡ false
      → fits_at w cap (base ++ loads_of (placed ++ (d ∷ []))) s c ≡ false
  unfit_stays s c e =
      fails (fits_at w cap (base ++ loads_of (placed ++ (d ∷ []))) s c)
      (λ f.
      true≢false
      (sym (fits_less w cap (base ++ loads_of placed) (draw_of d) d.start (draw_of c) s (rw (loads_more base placed d) at f)) ∙ e))

  pub none_stays :
      (s : ℕ) (f : Charge → Bool) (left : List Charge)
      → some (fits_at w cap (base ++ loads_of placed) s) left ≡ false
      → some (fits_at w cap (base ++ loads_of (placed ++ (d ∷ []))) s) (keep f left) ≡ false
  none_stays s f [] e = refl
  none_stays s f (c ∷ left) e = go (f c) (none_stays s f left (or_right (now c) (some now left) e))
    where
      now : Charge → Bool
      now x = fits_at w cap (base ++ loads_of placed) s x

      after : Charge → Bool
      after x = fits_at w cap (base ++ loads_of (placed ++ (d ∷ []))) s x

      go : (b : Bool) → some after (keep f left) ≡ false → some after (cond b (c ∷ keep f left) (keep f left)) ≡ false
      go true h = or-none (after c) (some after (keep f left)) (unfit_stays s c (or_left (now c) (some now left) e)) h
      go false h = h

-- The smallest start at which a charge fits

-- none does after a placement, wherever its start is
pub none_below_stays : NoneBelowStaysNone
none_below_stays w cap clock base placed d t left s h u i j =
    none_stays w cap base placed d u (λ c. not (eqb c.ticket t)) left (h u i j)

pub first_fit_first :
    (fits : Fitting) (clock : ℕ) (xs : List Load) (left : List Charge) (s : ℕ)
    → first_fit fits clock xs left ≡ at s
    → IsFirst (λ u. some (fits xs u) left) (suc (last_until xs - clock)) clock s
unfolding first_fit
first_fit_first fits clock xs left s e =
    first_found (λ u. some (fits xs u) left) (suc (last_until xs - clock)) clock s e

pub first_fit_is :
    (fits : Fitting) (clock : ℕ) (xs : List Load) (left : List Charge) (s : ℕ)
    → clock ≤ s
    → s ≤ max clock (last_until xs)
    → some (fits xs s) left ≡ true
    → NoneBelow fits clock xs left s
    → first_fit fits clock xs left ≡ at s
unfolding first_fit
first_fit_is fits clock xs left s low high here none =
    first-is (λ u. some (fits xs u) left) (suc (last_until xs - clock)) clock s
    (record { low = low; high = omega arith; here = here; least = none })

-- The smallest start never falls from one placement of a line to the next.
pub starts_rise : StartsOfALineRise
starts_rise w cap clock base placed d t left s next e f = go (below_or_not next s)
  where
    old : List Load
    old = base ++ loads_of placed

    new : List Load
    new = base ++ loads_of (placed ++ (d ∷ []))

    go : (next < s) ⊎ (s ≤ next) → s ≤ next
    go (inl h) =
        let now : IsFirst (λ u. some (fits_at w cap old u) left) (suc (last_until old - clock)) clock s
        = first_fit_first (fits_at w cap) clock old left s e in
        let after : IsFirst (λ u. some (fits_at w cap new u) (without_ticket t left)) (suc (last_until new - clock)) clock next
        = first_fit_first (fits_at w cap) clock new (without_ticket t left) next f in
        absurd
        (true≢false
        (sym after.here ∙ none_below_stays w cap clock base placed d t left s now.least next after.low h))
    go (inr h) = h
