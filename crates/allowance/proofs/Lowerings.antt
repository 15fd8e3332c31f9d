-- Replan by lines under its allowance: each lowering leaves the cap strictly lower in the minute found, and a larger allowance
-- changes nothing that was reached.
use mathlib.Core.Logic.{◌⊎◌, inl, inr}
use mathlib.Core.Path.{◌≡◌, refl, sym, ◌∙◌}
use Prim.Native.Nat.{ℕ, zero, suc, ◌+◌, ◌-◌, min, ◌≤◌, ◌<◌}
use mathlib.Core.Bool.{Bool, true, false, cond, ◌&&◌, true≢false}
use mathlib.Core.List.{List, ◌++◌}
use native.Mathlib.Omega.{arith}
use lib.Dec.{leb, eqb}
use borrow.Author.Tests.{leb-true, le-leb, eq-eqb, not-true}
use Rattle.rules.specs.Basics.{Found, at, nothing}
use Rattle.rules.specs.Load.{Load, count, counts, Limits, IsLine, balance_at}
use Rattle.rules.specs.Charge.{Charge, loads_of, waiting_charges}
use Rattle.rules.specs.Search.{Caps, first_unbalanced}
use Rattle.rules.specs.Priority.{fits_at}
use Rattle.rules.specs.Replan.{none, Placed, all, stuck, standing, place_lines, largest_line, smallest_line, lowered, placed_active, Outcome, ends, lowers, after_round, round, go_on, rounds_from, by_lines}
use Rattle.rules.proofs.Ranges.{below_or_not}
use Rattle.rules.proofs.Counts.{balanced_all}
use Rattle.rules.proofs.Searches.{unbalanced_first}
use Rattle.rules.proofs.Rounds.{largest_line_lem, smallest_line_lem}
use Rattle.allowance.proofs.Placings.{under_within}
use Rattle.allowance.proofs.Placed.{RoundPlaced, round_placed}

-- The minute found

-- the largest and the smallest count differ by more than D
unbalanced_by :
    (y : Limits) (clock : ℕ) (xs : List Load) (t : ℕ)
    → first_unbalanced y clock xs ≡ at t
    → counts xs t (smallest_line (counts xs t)) + y.bound < counts xs t (largest_line (counts xs t))
unbalanced_by y clock xs t e = go (below_or_not (f (smallest_line f) + y.bound) (f (largest_line f)))
  where
    f : ℕ → ℕ
    f = counts xs t

    uneven : balance_at y xs t ≡ false
    uneven = not-true (balance_at y xs t) (unbalanced_first y clock xs t e).here

    go :
        (f (smallest_line f) + y.bound < f (largest_line f)) ⊎ (f (largest_line f) ≤ f (smallest_line f) + y.bound)
        → f (smallest_line f) + y.bound < f (largest_line f)
    go (inl h) = h
    go (inr h) =
        absurd (true≢false
        (sym
        (balanced_all y.bound f
        (λ l m j i.
        let a : f l ≤ f (largest_line f) = leb-true (f l) (f (largest_line f)) ((largest_line_lem f).highest l j) in
        let b : f (smallest_line f) ≤ f m = leb-true (f (smallest_line f)) (f m) ((smallest_line_lem f).highest m i) in
        omega arith))
        ∙ uneven))

-- What a round says that lowers a cap

pub record Lowers (y : Limits) (clock : ℕ) (held : List Charge) (cap : Caps) (i t v : ℕ) : Type 0 where
  pub plan : List Charge
  -- the waiting charges, placed under the caps
  pub placed : RoundPlaced cap clock (standing y clock held) (waiting_charges clock held) plan
  pub found : first_unbalanced y clock (standing y clock held ++ loads_of plan) ≡ at t
  pub line : IsLine i
  -- D or more
  pub low : y.bound ≤ v
  -- i's count is at or below its cap, and above what it is lowered to
  pub below : v < count (standing y clock held ++ loads_of plan) i t
  pub within : count (standing y clock held ++ loads_of plan) i t ≤ cap i t

pub round_lowers :
    (y : Limits) (clock : ℕ) (held : List Charge) (cap : Caps) (i t v : ℕ)
    → round y clock held cap ≡ lowers i t v
    → Lowers y clock held cap i t v
unfolding round
round_lowers y clock held cap i t v e =
    go (place_lines (fits_at y.site cap) clock (standing y clock held) (waiting_charges clock held) 3) refl e
  where
    ends_apart : (p : _) → ends p ≡ lowers i t v → ⊥
    ends_apart p q = let z : ◌≡◌ {A = ℕ} 0 1 = cc in omega arith

    go :
        (p : Placed)
        → place_lines (fits_at y.site cap) clock (standing y clock held) (waiting_charges clock held) 3 ≡ p
        → after_round y clock held p ≡ lowers i t v
        → Lowers y clock held cap i t v
    go stuck q u = absurd (ends_apart (none 1) u)
    go (all plan) q u = searched (first_unbalanced y clock (standing y clock held ++ loads_of plan)) refl
      where
        f : ℕ → ℕ → ℕ
        f w = counts (standing y clock held ++ loads_of plan) w

        placing : RoundPlaced cap clock (standing y clock held) (waiting_charges clock held) plan
        placing = round_placed y.site cap clock (standing y clock held) (waiting_charges clock held) plan q

        active_in :
            (w : ℕ)
            → first_unbalanced y clock (standing y clock held ++ loads_of plan) ≡ at w
            → (b : Bool)
            → placed_active plan (largest_line (f w)) w ≡ b
            → cond b (lowers (largest_line (f w)) w (f w (smallest_line (f w)) + y.bound)) (ends (none 1)) ≡ lowers i t v
            → Lowers y clock held cap i t v
        active_in w o false p z = absurd (ends_apart (none 1) z)
        active_in w o true p z =
            let line : largest_line (f w) ≡ i = cc in
            let minute : w ≡ t = cc in
            let value : f w (smallest_line (f w)) + y.bound ≡ v = cc in
            record {
              plan = plan;
              placed = placing;
              found = rw (← minute) o;
              line = rw (← line) (largest_line_lem (f w)).line;
              low = rw (← value) (omega arith);
              below =
                  rw (← minute, ← line, ← value)
                  (unbalanced_by y clock (standing y clock held ++ loads_of plan) w o);
              within =
                  rw (← minute, ← line)
                  (under_within placing.under (λ l t h. absurd (true≢false (sym h))) (largest_line (f w)) w p);
            }

        searched :
            (o : Found)
            → first_unbalanced y clock (standing y clock held ++ loads_of plan) ≡ o
            → Lowers y clock held cap i t v
        searched nothing o = absurd (ends_apart _ (rw (o, after_round) at u))
        searched (at w) o = active_in w o (placed_active plan (largest_line (f w)) w) refl (rw (o, after_round) at u)

-- "each lowering of a cap leaves it strictly lower in the minute found"
pub lowered_below :
    (y : Limits) (clock : ℕ) (held : List Charge) (cap : Caps) (i t v : ℕ)
    → round y clock held cap ≡ lowers i t v
    → lowered cap i t v i t < cap i t
lowered_below y clock held cap i t v e =
    let r : Lowers y clock held cap i t v = round_lowers y clock held cap i t v e in
    rw (eq-eqb i i refl, le-leb t t (omega arith)) (omega (arith, r.below, r.within))

pub lowered_most : (cap : Caps) (i t v l u : ℕ) → lowered cap i t v l u ≤ cap l u
lowered_most cap i t v l u = go (eqb l i && leb t u)
  where
    go : (b : Bool) → cond b (min (cap l u) v) (cap l u) ≤ cap l u
    go true = omega arith
    go false = omega arith

-- A larger allowance

rounds_same :
    (play : Caps → Outcome) (left more made : ℕ) (cap : Caps)
    → left ≤ more
    → ((rounds_from play left made cap).proposal ≡ none 2 → ⊥)
    → rounds_from play more made cap ≡ rounds_from play left made cap
unfolding rounds_from
rounds_same play zero zero made cap h n = refl
rounds_same play zero (suc more) made cap h n = go (play cap) n
  where
    go :
        (o : Outcome)
        → ((go_on made (λ c. record { proposal = none 2; rounds = made }) cap o).proposal ≡ none 2 → ⊥)
        → go_on made (rounds_from play more (suc made)) cap o
        ≡ go_on made (λ c. record { proposal = none 2; rounds = made }) cap o
    go (ends p) k = refl
    go (lowers i t v) k = absurd (k refl)
rounds_same play (suc left) zero made cap h n = absurd (omega arith)
rounds_same play (suc left) (suc more) made cap h n =
    go (play cap) n (λ c k. rounds_same play left more (suc made) c (omega arith) k)
  where
    go :
        (o : Outcome)
        → ((go_on made (rounds_from play left (suc made)) cap o).proposal ≡ none 2 → ⊥)
        → ((c : Caps)
        → ((rounds_from play left (suc made) c).proposal ≡ none 2 → ⊥)
        → rounds_from play more (suc made) c ≡ rounds_from play left (suc made) c)
        → go_on made (rounds_from play more (suc made)) cap o ≡ go_on made (rounds_from play left (suc made)) cap o
    go (ends p) k again = refl
    go (lowers i t v) k again = again (lowered cap i t v) k

-- "If replan by lines .. reaches an answer other than cause 2, then every larger allowance .. gives the same"
pub by_lines_same :
    (y : Limits) (clock a b : ℕ) (held : List Charge)
    → a ≤ b
    → ((by_lines y clock a held).proposal ≡ none 2 → ⊥)
    → by_lines y clock b held ≡ by_lines y clock a held
unfolding by_lines
by_lines_same y clock a b held h n =
    rounds_same (round y clock held) (a - 1) (b - 1) 1 (λ l t. y.limit) (omega arith) n
