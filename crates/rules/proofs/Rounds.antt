-- The rounds of replan by lines: caps, largest and smallest line, and which caps are played with.
use mathlib.Core.Logic.{◌⊎◌, inl, inr}
use mathlib.Core.Path.{◌≡◌, refl, sym, ◌∙◌, ap}
use Prim.Native.Nat.{ℕ, zero, suc, min, ◌≤◌, ◌<◌}
use mathlib.Core.Bool.{Bool, true, false, cond, ◌&&◌, true≢false}
use native.Mathlib.Omega.{arith}
use lib.Dec.{leb, eqb}
use borrow.Author.Tests.{leb-true, leb-false, le-leb}
use Rattle.rules.specs.Load.{IsLine, on_lines}
use Rattle.rules.specs.Search.{Caps}
use Rattle.rules.specs.Replan.{lowest_line, largest_line, smallest_line, lowered, Outcome, ends, lowers, go_on, rounds_from}
pub use Rattle.rules.specs.laws.Placing.{AtLeast}
use Rattle.rules.specs.laws.Rounds.{LoweredCapsAreAtLeast}
use Rattle.rules.proofs.Ranges.{fails, below_or_not}
use Rattle.rules.proofs.Counts.{on_lines_at, on_lines_all}

-- Caps

pub lowered_at_least : LoweredCapsAreAtLeast
lowered_at_least k cap i t v h c l u = go (eqb l i && leb t u)
  where
    go : (b : Bool) → k ≤ cond b (min (cap l u) v) (cap l u)
    go true = omega (arith, c l u)
    go false = c l u

-- The largest and the smallest line

-- the lowest line at which a test holds
pub record Lowest (f : ℕ → Bool) (i : ℕ) : Type 0 where
  pub line : IsLine i
  pub here : f i ≡ true
  pub least : (l : ℕ) → 1 ≤ l → l < i → f l ≡ false

lowest_line_lem : (f : ℕ → Bool) → (f 1 ≡ false → f 2 ≡ false → f 3 ≡ true) → Lowest f (lowest_line f)
lowest_line_lem f h = go (f 1) (f 2) refl refl
  where
    go : (x y : Bool) → f 1 ≡ x → f 2 ≡ y → Lowest f (cond x 1 (cond y 2 3))
    go true y p q = record { line = line_one; here = p; least = λ l a b. absurd (omega arith) }
      where
        line_one : IsLine 1
        line_one = omega arith
    go false true p q =
        record { line = line_two; here = q; least = λ l a b. let same : l ≡ 1 = omega arith in rw same p }
      where
        line_two : IsLine 2
        line_two = omega arith
    go false false p q = record { line = line_three; here = h p q; least = λ l a b. below l a b (below_or_not l 2) }
      where
        line_three : IsLine 3
        line_three = omega arith

        below : (l : ℕ) → 1 ≤ l → l < 3 → (l < 2) ⊎ (2 ≤ l) → f l ≡ false
        below l a b (inl j) = let same : l ≡ 1 = omega arith in rw same p
        below l a b (inr j) = let same : l ≡ 2 = omega arith in rw same q

-- r a b: line a stands no higher than line b
pub record Ranking (r : ℕ → ℕ → Bool) : Type 0 where
  pub same : (a : ℕ) → r a a ≡ true
  pub either : (a b : ℕ) → r a b ≡ false → r b a ≡ true
  pub onwards : (a b c : ℕ) → r a b ≡ true → r b c ≡ true → r a c ≡ true

-- every line stands no higher than i, and each lower line lower
pub record Top (r : ℕ → ℕ → Bool) (i : ℕ) : Type 0 where
  pub line : IsLine i
  pub highest : (l : ℕ) → IsLine l → r l i ≡ true
  pub lowest : (l : ℕ) → 1 ≤ l → l < i → r i l ≡ false

module _ (r : ℕ → ℕ → Bool) (k : Ranking r) where
  top_test : ℕ → Bool
  top_test l = on_lines (λ m. r m l)

  -- where neither line 1 nor line 2 is the highest, line 3 is
  third : top_test 1 ≡ false → top_test 2 ≡ false → top_test 3 ≡ true
  unfolding top_test
  third p q = go (r 1 3) (r 2 3) refl refl
    where
      first_false : r 3 1 ≡ true → r 2 1 ≡ false
      first_false e = fails (r 2 1) (λ f. true≢false (rw (k.same 1, f, e) at p))

      second_false : r 3 2 ≡ true → r 1 2 ≡ false
      second_false e = fails (r 1 2) (λ f. true≢false (rw (f, k.same 2, e) at q))

      go : (x y : Bool) → r 1 3 ≡ x → r 2 3 ≡ y → on_lines (λ m. r m 3) ≡ true
      go true true e f = rw (e, f, k.same 3)
      go false y e f =
          let u : r 3 1 ≡ true = k.either 1 3 e in
          let v : r 1 2 ≡ true = k.either 2 1 (first_false u) in
          absurd (true≢false (rw v at (second_false (k.onwards 3 1 2 u v))))
      go true false e f =
          let u : r 3 2 ≡ true = k.either 2 3 f in
          let v : r 2 1 ≡ true = k.either 1 2 (second_false u) in
          absurd (true≢false (rw v at (first_false (k.onwards 3 2 1 u v))))

  pub top_line : Top r (lowest_line (λ l. on_lines (λ m. r m l)))
  unfolding top_test
  top_line =
      let w : Lowest top_test (lowest_line top_test) = lowest_line_lem top_test third in
      let i : ℕ = lowest_line top_test in
      record {
        line = w.line;
        highest = λ l h. on_lines_at (λ m. r m i) w.here l h;
        lowest =
            λ l a b.
            fails (r i l)
            (λ e.
            true≢false
            (sym
            (on_lines_all (λ m. r m l) (λ m h. k.onwards m i l (on_lines_at (λ x. r x i) w.here m h) e))
            ∙ w.least l a b));
      }

up : (f : ℕ → ℕ) → Ranking (λ a b. leb (f a) (f b))
up f =
    record {
      same = λ a. le-leb (f a) (f a) (omega arith);
      either = λ a b e. le-leb (f b) (f a) (omega (arith, leb-false (f a) (f b) e));
      onwards =
          λ a b c p q. le-leb (f a) (f c) (omega (arith, leb-true (f a) (f b) p, leb-true (f b) (f c) q));
    }

down : (f : ℕ → ℕ) → Ranking (λ a b. leb (f b) (f a))
down f =
    record {
      same = (up f).same;
      either = λ a b. (up f).either b a;
      onwards = λ a b c p q. (up f).onwards c b a q p;
    }

-- "i is the line with the largest count .., lowest line first among equals"
pub largest_line_lem : (f : ℕ → ℕ) → Top (λ a b. leb (f a) (f b)) (largest_line f)
largest_line_lem f = top_line (λ a b. leb (f a) (f b)) (up f)

pub smallest_line_lem : (f : ℕ → ℕ) → Top (λ a b. leb (f b) (f a)) (smallest_line f)
smallest_line_lem f = top_line (λ a b. leb (f b) (f a)) (down f)

-- The rounds that are played

-- an outcome ends the replan, or P holds of the caps that it leaves
abbrev pub LeavesIn : (Caps → Type 0) → Caps → Outcome → Type 0
LeavesIn P cap (ends p) = Unit {0}
LeavesIn P cap (lowers i t v) = P (lowered cap i t v)

-- Where P holds of the first caps and of those that each round leaves, no round is played with other caps: whatever such a round
-- came to, the replan would be the same.
pub rounds_played :
    (P : Caps → Type 0) (play other : Caps → Outcome)
    → ((cap : Caps) → P cap → LeavesIn P cap (play cap))
    → ((cap : Caps) → P cap → play cap ≡ other cap)
    → (left made : ℕ) (cap : Caps)
    → P cap
    → rounds_from play left made cap ≡ rounds_from other left made cap
unfolding rounds_from
rounds_played P play other leaves same zero made cap p = rw (same cap p) refl
rounds_played P play other leaves same (suc left) made cap p =
    go (play cap) (leaves cap p) (λ c q. rounds_played P play other leaves same left (suc made) c q)
    ∙ ap (go_on made (rounds_from other left (suc made)) cap) (same cap p)
  where
    go :
        (o : Outcome)
        → LeavesIn P cap o
        → ((c : Caps) → P c → rounds_from play left (suc made) c ≡ rounds_from other left (suc made) c)
        → go_on made (rounds_from play left (suc made)) cap o ≡ go_on made (rounds_from other left (suc made)) cap o
    go (ends _) q again = refl
    go (lowers i t v) q again = again (lowered cap i t v) q
