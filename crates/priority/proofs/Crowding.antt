-- The summed time of those that wait is small; and with one charge more, the shortest and the longest of a rate.
use mathlib.Core.Logic.{⊎_elim}
use mathlib.Core.Path.{◌≡◌, refl}
use Prim.Native.Nat.{ℕ, suc, ◌+◌, ◌*◌, min, ◌≤◌, ◌<◌}
use mathlib.Core.List.{List, [], ◌∷◌}
use lib.ListN.{length, get_or}
use Rattle.std.specs.List.{sum_by}
use Rattle.std.proofs.lemmas.List.Sums.{sum_by-cons}
use native.Mathlib.Omega.{arith}
use Rattle.std.specs.declared.option.Option.{Option}
use Rattle.std.specs.declared.option.Option.TheVariants.{Some, None}
use Rattle.rules.proofs.Ranges.{below_or_not}
use Rattle.charges.specs.declared.Charges.{Charges}
use Rattle.priority.specs.declared.crowd.Span.{Span}
use Rattle.priority.specs.declared.crowd.Times.{Times}
use Rattle.priority.specs.Numbers.{number_of, InRange}
use Rattle.priority.specs.Crowds.{widened, Joined, Found, FoundIf, SpanOf, FirstTimes}

-- The sum

sum_most : (f : ℕ → ℕ) (xs : List ℕ) → ((j : ℕ) → j < length xs → f (get_or xs j 0) ≤ 1445) → sum_by f xs ≤ 1445 * length xs
sum_most f [] h = omega arith
sum_most f (x ∷ xs) h = omega (arith, sum_by-cons f x xs, h 0 (omega arith), sum_most f xs (λ j b. h (suc j) (omega arith)))

pub total_most : {q : Charges} {waiting : List ℕ} → InRange q waiting → sum_by (λ i. get_or q.times i 0) waiting ≤ 260100
total_most {q} {waiting} range =
    omega (arith, sum_most (λ i. get_or q.times i 0) waiting (λ j h. (range.short j h).1), range.inside.few)

-- The times of a rate

module _ {q : Charges} {left : List ℕ} {rate : ℕ} where
  pub span_none : SpanOf q left 0 rate None
  span_none =
      record {
        most = omega arith;
        in_order = omega arith;
        each = λ j h e. absurd (omega arith);
        found = tt;
      }

  module _ {k : ℕ} where
    found_still : {time : ℕ} → Found q left k rate time → Found q left (k + 1) rate time
    found_still f = record { who = f.who; inside = omega (arith, f.inside); rate_is = f.rate_is; time_is = f.time_is }

    -- a charge of another rate
    pub span_other : {s : Option Span} → SpanOf q left k rate s → (rate ≡ number_of q.rates left k → ⊥) → SpanOf q left (k + 1) rate s
    span_other {s} w ne =
        record {
          most = w.most;
          in_order = w.in_order;
          each = λ j h e. ⊎_elim (λ l. w.each j l e) (λ l. let same : j ≡ k = omega arith in absurd (ne (rw same at e))) (below_or_not j k);
          found = still s w.found;
        }
      where
        still : (s : Option Span) → FoundIf q left k rate s → FoundIf q left (k + 1) rate s
        still (Some s) f = found_still f
        still None f = tt

    -- a charge of the rate
    pub span_more :
        (s : Option Span) → SpanOf q left k rate s → rate ≡ number_of q.rates left k
        → (1 ≤ number_of q.active_times left k) × (number_of q.active_times left k ≤ 1445)
        → SpanOf q left (k + 1) rate (Some (widened s (number_of q.active_times left k)))
    span_more None w same range =
        record {
          most = range.1;
          in_order = omega arith;
          each = λ j h f.
              ⊎_elim
              (λ l. absurd (omega (arith, (w.each j l f).0)))
              (λ l. let here : j ≡ k = omega arith in rw here (range.0, omega arith, omega arith))
              (below_or_not j k);
          found = record { who = k; inside = omega arith; rate_is = same; time_is = refl };
        }
    span_more (Some s) w same range =
        let f = w.found in
        record {
          most = omega (arith, w.most, range.1);
          in_order = omega (arith, w.in_order);
          each = λ j b e.
              ⊎_elim
              (λ l. let z = w.each j l e in (omega (arith, z.0, range.0), omega (arith, z.1), omega (arith, z.2)))
              (λ l.
              let here : j ≡ k = omega arith in
              rw here (omega (arith, (w.each f.who f.inside f.rate_is).0, range.0), omega arith, omega arith))
              (below_or_not j k);
          found =
              ⊎_elim
              (λ l. record { who = k; inside = omega arith; rate_is = same; time_is = omega arith })
              (λ l. rw (lesser l) (found_still f))
              (below_or_not (number_of q.active_times left k) s.shortest);
        }
      where
        lesser : s.shortest ≤ number_of q.active_times left k → min s.shortest (number_of q.active_times left k) ≡ s.shortest
        lesser l = omega arith

-- All of them

module _ {q : Charges} {left : List ℕ} {k : ℕ} {t : Times} (range : InRange q left) (w : FirstTimes q left k t) (more : k < length left) where
  joined-more :
      {r : Times} → Joined t (number_of q.times left k) (number_of q.active_times left k) (number_of q.rates left k) r
      → FirstTimes q left (k + 1) r
  joined-more {r} x =
      ⊎_elim (λ e. ones (omega arith)) (λ e. twos (omega (arith, (range.rated k more).high))) (below_or_not (number_of q.rates left k) 2)
    where
      low : (j : ℕ) → j < k + 1 → r.shortest ≤ number_of q.times left j
      low j h =
          ⊎_elim
          (λ l. omega (arith, x.shortest, w.shortest_low j l))
          (λ l. let here : j ≡ k = omega arith in rw here (omega (arith, x.shortest)))
          (below_or_not j k)

      active : (1 ≤ number_of q.active_times left k) × (number_of q.active_times left k ≤ 1445)
      active = range.active k more

      ones : number_of q.rates left k < 2 → FirstTimes q left (k + 1) r
      ones l =
          let is_one : 1 ≡ number_of q.rates left k = omega (arith, (range.rated k more).low) in
          let y = x.one (omega arith) in
          record {
            one = rw y.0 (span_more t.one w.one is_one active);
            two = rw y.1 (span_other w.two (λ e. omega arith));
            shortest_low = low;
          }

      twos : 2 ≡ number_of q.rates left k → FirstTimes q left (k + 1) r
      twos is-two =
          let y = x.two (λ e. omega arith) in
          record {
            one = rw y.1 (span_other w.one (λ e. omega arith));
            two = rw y.0 (span_more t.two w.two is-two active);
            shortest_low = low;
          }

  -- the numbers that were read are those of the charge
  pub times_more :
      {time active rate : ℕ} {r : Times}
      → Joined t time active rate r
      → time ≡ number_of q.times left k
      → active ≡ number_of q.active_times left k
      → rate ≡ number_of q.rates left k
      → FirstTimes q left (k + 1) r
  times_more x e f g = joined-more (rw (e, f, g) at x)
