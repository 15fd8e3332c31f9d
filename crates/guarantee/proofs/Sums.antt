-- What is drawn of W in a minute is the sum of the counts of all lines of all feeders.
use mathlib.Core.Logic.{◌⊎◌, inl, inr}
use mathlib.Core.Path.{◌≡◌, refl, sym}
use Prim.Native.Nat.{ℕ, zero, suc, ◌+◌, ◌≤◌, ◌<◌}
use mathlib.Core.Bool.{cond}
use mathlib.Core.List.{List, [], ◌∷◌, map}
use native.Mathlib.Omega.{arith}
use lib.ListN.{length}
use borrow.Author.Tests.{eq-eqb, ne_eqb}
use Rattle.rules.specs.Basics.{Each}
use Rattle.rules.specs.Load.{Load, active, draws, count, drawn, IsLine}
use Rattle.rules.specs.Calls.{step}
use Rattle.rules.proofs.Ranges.{either_way, below_or_not}
use Rattle.rules.proofs.Sites.{whole_beside}
use Rattle.guarantee.proofs.Assured.{orders_placed}
use Rattle.guarantee.proofs.DemandThree.{reached}
use Rattle.guarantee.specs.Past.{Order, past, staying_orders, on_feeder, load_of}
use Rattle.guarantee.specs.Counts.{sum_over, over_lines, SiteIsTheSum}

sum_same : (g h : ℕ → ℕ) (k a : ℕ) → ((i : ℕ) → a ≤ i → h i ≡ g i) → sum_over h k a ≡ sum_over g k a
sum_same g h zero a e = refl
sum_same g h (suc k) a e = rw (e a (omega arith), sum_same g h k (suc a) (λ i p. e i (omega arith)))

-- one of them has more
sum_more :
    (g h : ℕ → ℕ) (f x k a : ℕ)
    → a ≤ f
    → f < a + k
    → h f ≡ x + g f
    → ((i : ℕ) → (i ≡ f → ⊥) → h i ≡ g i)
    → sum_over h k a ≡ x + sum_over g k a
sum_more g h f x zero a low high own rest = absurd (omega arith)
sum_more g h f x (suc k) a low high own rest =
    go (below_or_not a f) (λ j. sum_more g h f x k (suc a) j (omega arith) own rest)
  where
    go : (a < f) ⊎ (f ≤ a) → (suc a ≤ f → sum_over h k (suc a) ≡ x + sum_over g k (suc a)) → h a + sum_over h k (suc a) ≡ x + (g a + sum_over g k (suc a))
    go (inl j) later = omega (arith, rest a (λ e. omega arith), later j)
    go (inr j) later =
        let e : a ≡ f = omega arith in
        rw (e, own, sum_same g h k (suc f) (λ i p. rest i (λ q. omega arith))) (omega arith)

-- a load is on one line
lines_drawn : (x : Load) (t : ℕ) → IsLine x.line → over_lines (λ l. draws x l t) ≡ cond (active x t) x.rate 0
lines_drawn x t h =
    let none : draws x 4 t ≡ 0 = rw (ne_eqb x.line 4 (λ e. omega (arith, h.high))) (either_way (active x t) 0) in
    omega (arith, none, whole_beside [] (x ∷ []) t (h, tt))

sum_none : (k a : ℕ) → sum_over (λ i. 0) k a ≡ 0
sum_none zero a = refl
sum_none (suc k) a = rw (sum_none k (suc a))

-- the loads of some orders, each on a line of one of n feeders
module _ (n : ℕ) (load : Order → Load) (t : ℕ) where
  -- what feeder f draws on all its lines
  abbrev feeder_draws : List Order → ℕ → ℕ
  feeder_draws os f = over_lines (λ l. count (map load (on_feeder f os)) l t)

  abbrev OnALine : Order → Type 0
  OnALine o = ((1 ≤ o.feeder) × (o.feeder ≤ n)) × IsLine (load o).line

  sum_lines : (os : List Order) → Each OnALine os → drawn (map load os) t ≡ sum_over (feeder_draws os) n 1
  sum_lines [] e = sym (sum_none n 1)
  sum_lines (o ∷ os) e =
      rw (sum_lines os e.1)
      (sym
      (sum_more (feeder_draws os) (feeder_draws (o ∷ os)) o.feeder (cond (active (load o) t) (load o).rate 0) n 1
      e.0.0.0
      (omega (arith, e.0.0.1))
      (rw (eq-eqb o.feeder o.feeder refl) (omega (arith, lines_drawn (load o) t e.0.1)))
      (λ i d. rw (ne_eqb o.feeder i (λ q. d (sym q))))))

-- "the weighted count of all lines in a minute", after every list of calls
pub site_sum : SiteIsTheSum
site_sum s calls v t =
    sum_lines (length s.feeders) (load_of step (past step s calls)) t (staying_orders (past step s calls))
    (orders_placed s (past step s calls) (reached s calls v).now (reached s calls v).known)
