-- The charge that is taken: of those looked at, and of all, where no later one can be heavier for its time.
use mathlib.Core.Logic.{◌⊎◌, inl, inr, ⊎_elim}
use mathlib.Core.Path.{◌≡◌, sym, ◌∙◌}
use Prim.Native.Nat.{ℕ, ◌+◌, ◌-◌, ◌*◌, ◌≤◌, ◌<◌}
use mathlib.Core.Bool.{true, true≢false}
use lib.ListN.{length, get_or}
use native.Mathlib.Omega.{arith}
use native.Mathlib.Nat.{mul-le-mul_left, mul-le-mul_right}
use Rattle.rules.proofs.Ranges.{below_or_not}
use Rattle.rules.proofs.Foremost.{ratio_onwards}
use Rattle.priority.specs.declared.choice.Left.{Left}
use Rattle.priority.specs.declared.choice.Runs.{Runs}
use Rattle.priority.specs.declared.choice.Weighed.{Weighed}
use Rattle.priority.specs.Chosen.{time_at, due_at, fits_run, weight_at, WeighedAt, Ahead, FitsFirst, CanChoose, Foremost}
use Rattle.priority.proofs.Weighing.{slack_falls}

-- the best of those that fit among the first j
pub record BestSoFar (l : Left) (start : ℕ) (runs : Runs) (best : ℕ) (taken : Weighed) (j : ℕ) : Type 0 where
  pub before : best < j
  pub high : j ≤ length l.places.now
  pub fits : fits_run l runs best ≡ true
  pub weighed : WeighedAt l start (get_or l.places.now best 0) taken
  pub ahead :
      (i : ℕ) → i < j → fits_run l runs i ≡ true → (i ≡ best → ⊥) → Ahead (weight_at l start) (time_at l) best i

module _ {l : Left} {start : ℕ} {runs : Runs} {best : ℕ} {taken : Weighed} {from : ℕ}
    (b : BestSoFar l start runs best taken from) where
  abbrev W : ℕ → ℕ
  W = weight_at l start

  abbrev T : ℕ → ℕ
  T = time_at l

  -- the j-th is the next that fits
  module _ {next : Weighed} {j : ℕ} (can : CanChoose l) (f : FitsFirst l runs from j)
      (weighed : WeighedAt l start (get_or l.places.now j 0) next) where
    -- those between do not fit
    looked : (i : ℕ) → i < j → fits_run l runs i ≡ true → i < from
    looked i a e = ⊎_elim (λ x. x) (λ x. absurd (true≢false (sym e ∙ f.passed i x a))) (below_or_not i from)

    not_heavier : next.weight * taken.time ≤ taken.weight * next.time → Ahead W T best j
    not_heavier h =
        ⊎_elim
        (λ x. inl x)
        (λ x. inr (omega (arith, h'), omega (arith, b.before, f.low)))
        (below_or_not (W j * T best) (W best * T j))
      where
        h' : W j * T best ≤ W best * T j
        h' = rw (← weighed.weight_is, ← b.weighed.weight_is, ← b.weighed.time_is, ← weighed.time_is) h

    -- no later one is heavier for its time
    pub best_stop : next.weight * taken.time ≤ taken.weight * l.times.shortest → Foremost l start runs best
    best_stop h =
        record {
          inside = omega (arith, b.before, b.high);
          fits = b.fits;
          ahead = λ i k e ne. ⊎_elim (λ a. b.ahead i (looked i a e) e ne) (λ a. later i k a) (below_or_not i j);
        }
      where
        h' : W j * T best ≤ W best * l.times.shortest
        h' = rw (← weighed.weight_is, ← b.weighed.weight_is, ← b.weighed.time_is) h

        falls : (i : ℕ) → j ≤ i → i < length l.places.now → W i ≤ W j
        falls i a k =
            slack_falls (due_at l j - (start + T j)) (due_at l i - (start + T i)) l.crowd.number l.crowd.total can.total_low
            (⊎_elim
            (λ less. omega (arith, can.in_order j i less k))
            (λ same. let e : i ≡ j = omega arith in rw e (omega arith))
            (below_or_not j i))

        later : (i : ℕ) → i < length l.places.now → j ≤ i → Ahead W T best i
        later i k a =
            let one : W i * T best ≤ W j * T best = mul-le-mul_right (T best) (falls i a k) in
            let two : W best * l.times.shortest ≤ W best * T i = mul-le-mul_left (W best) (can.shortest_low i k) in
            ⊎_elim
            (λ x. inl x)
            (λ x. inr (omega (arith, one, two, h'), omega (arith, b.before, f.low)))
            (below_or_not (W i * T best) (W best * T i))

    -- those before, or the j-th itself
    here_or_before : (i : ℕ) → i < j + 1 → fits_run l runs i ≡ true → (i < from) ⊎ (i ≡ j)
    here_or_before i a e = ⊎_elim (λ x. inl (looked i x e)) (λ x. inr (omega arith)) (below_or_not i j)

    pub best_stays : next.weight * taken.time ≤ taken.weight * next.time → BestSoFar l start runs best taken (j + 1)
    best_stays h =
        record {
          before = omega (arith, b.before, f.low);
          high = omega (arith, f.inside);
          fits = b.fits;
          weighed = b.weighed;
          ahead = λ i a e ne. ⊎_elim (λ x. b.ahead i x e ne) (λ q. rw q (not_heavier h)) (here_or_before i a e);
        }

    pub best_moves : taken.weight * next.time < next.weight * taken.time → BestSoFar l start runs j next (j + 1)
    best_moves h =
        record {
          before = omega arith;
          high = omega (arith, f.inside);
          fits = f.here;
          weighed = weighed;
          ahead = λ i a e ne. ⊎_elim (λ x. inl (earlier i x e)) (λ q. absurd (ne q)) (here_or_before i a e);
        }
      where
        h' : W best * T j < W j * T best
        h' = rw (← weighed.weight_is, ← b.weighed.weight_is, ← b.weighed.time_is, ← weighed.time_is) h

        over : (i : ℕ) → i < from → W i * T best ≤ W best * T i → W i * T j < W j * T i
        over i x m =
            ⊎_elim
            (λ a. a)
            (λ a.
            absurd
            (omega (arith, h', ratio_onwards (W j) (T j) (W i) (T i) (W best) (T best) (can.range.short i (omega (arith, b.high))).0 a m)))
            (below_or_not (W i * T j) (W j * T i))

        earlier : (i : ℕ) → i < from → fits_run l runs i ≡ true → W i * T j < W j * T i
        earlier i k e = split (below_or_not i best) (below_or_not best i)
          where
            not_best : (i ≡ best → ⊥) → W i * T j < W j * T i
            not_best ne =
                ⊎_elim (λ x. over i k (omega (arith, x))) (λ x. over i k (omega (arith, x.0))) (b.ahead i k e ne)

            split : (i < best) ⊎ (best ≤ i) → (best < i) ⊎ (i ≤ best) → W i * T j < W j * T i
            split (inl x) y = not_best (λ q. omega arith)
            split (inr x) (inl y) = not_best (λ q. omega arith)
            split (inr x) (inr y) = let q : i ≡ best = omega arith in rw q h'
