-- The table of weights: 512 numbers that pass one computed test keep its rule at each k, and are the numbers E.
use mathlib.Core.Logic.{◌⊎◌, inl, inr}
use mathlib.Core.Path.{◌≡◌, refl, sym, ap, ◌∙◌}
use Prim.Native.Nat.{ℕ, zero, suc, ◌+◌, ◌*◌, ◌/◌, ◌^◌, ◌≤◌, ◌<◌}
use mathlib.Core.Bool.{Bool, true, ◌&&◌}
use mathlib.Core.List.{List}
use native.Mathlib.Omega.{arith}
use lib.Dec.{ltb, leb, eqb}
use lib.ListN.{length, get_or, get_or-eq_default}
use borrow.Author.Tests.{ltb-true, leb-true, eqb-true}
use Rattle.rules.specs.Basics.{throughout}
use Rattle.rules.specs.Priority.{fading, weights, weight_of, steps_at, bound_at, keeps_the_rule}
use Rattle.rules.specs.laws.Weights.{Bounded, Table, TestedTableKeepsTheRule, WeightsKeepTheRule, FadingKeepsItsBound, WeightIsFading, WeightEndsWithTheTable, TestedTableHasTheWeights}
use Rattle.rules.proofs.Ranges.{and_left, and_right, throughout_at, below_or_not}

-- what the test says of the whole table, at each k
pub keeps_rule : TestedTableKeepsTheRule
keeps_rule table e =
    record {
      size = eqb-true (length table) 512 (and_left size_test first-test (and_left (size_test && first-test) (step_test && bound_test) e));
      begins =
          eqb-true (get_or table 0 0) 1073741824
          (and_right size_test first-test (and_left (size_test && first-test) (step_test && bound_test) e));
      steps =
          λ k h.
          eqb-true (get_or table (suc k) 0) (get_or table k 0 * 63 / 64)
          (throughout_at (steps_at table) 511 0 (and_left step_test bound_test each) k (omega arith) (omega arith));
      bounds =
          λ k h.
          bounded k (throughout_at (bound_at table) 512 0 (and_right step_test bound_test each) k (omega arith) (omega arith));
    }
  where
    size_test : Bool
    size_test = eqb (length table) 512

    first-test : Bool
    first-test = eqb (get_or table 0 0) 1073741824

    step_test : Bool
    step_test = throughout (steps_at table) 511 0

    bound_test : Bool
    bound_test = throughout (bound_at table) 512 0

    each : step_test && bound_test ≡ true
    each = and_right (size_test && first-test) (step_test && bound_test) e

    bounded : (k : ℕ) → bound_at table k ≡ true → Bounded (get_or table k 0) k
    bounded k h =
        record {
          low =
              leb-true (get_or table k 0 * 64 ^ k) (2 ^ 30 * 63 ^ k)
              (and_left (leb (get_or table k 0 * 64 ^ k) (2 ^ 30 * 63 ^ k)) (ltb (2 ^ 30 * 63 ^ k) ((get_or table k 0 + 64) * 64 ^ k)) h);
          high =
              ltb-true (2 ^ 30 * 63 ^ k) ((get_or table k 0 + 64) * 64 ^ k)
              (and_right (leb (get_or table k 0 * 64 ^ k) (2 ^ 30 * 63 ^ k)) (ltb (2 ^ 30 * 63 ^ k) ((get_or table k 0 + 64) * 64 ^ k)) h);
        }

-- such a table has the numbers E
pub table_entry : (table : List ℕ) → Table table → (k : ℕ) → k < 512 → get_or table k 0 ≡ fading k
unfolding fading
table_entry table r zero h = r.begins
table_entry table r (suc k) h =
    r.steps k (omega arith) ∙ ap (λ (e : ℕ). e * 63 / 64) (table_entry table r k (omega arith))

-- The table of the rules: one computed test of all 512 numbers.
weights_keep : keeps_the_rule weights ≡ true
unfolding weights fading
weights_keep = refl

pub weights_table : WeightsKeepTheRule
weights_table = keeps_rule weights weights_keep

pub weight_within : WeightIsFading
unfolding weight_of
weight_within k h = table_entry weights weights_table k h

-- "and the weight is 0 beyond"
pub weight_beyond : WeightEndsWithTheTable
unfolding weight_of
weight_beyond k h = get_or-eq_default weights 0 {n = k} (omega (arith, weights_table.size))

-- the table's bound, said of E
pub fading_bounded : FadingKeepsItsBound
fading_bounded k h = rw (← (table_entry weights weights_table k h)) (weights_table.bounds k h)

-- a table that passes the test serves for the weight at every k
pub table_weight : TestedTableHasTheWeights
table_weight table e k = go (keeps_rule table e) (below_or_not k 512)
  where
    go : Table table → (k < 512) ⊎ (512 ≤ k) → get_or table k 0 ≡ weight_of k
    go r (inl h) = table_entry table r k h ∙ sym (weight_within k h)
    go r (inr h) = get_or-eq_default table 0 {n = k} (omega (arith, r.size)) ∙ sym (weight_beyond k h)

-- No weight is above E(0).

fading_most : (k : ℕ) → fading k ≤ 1073741824
unfolding fading
fading_most zero = omega arith
fading_most (suc k) = less (fading k) (fading_most k)
  where
    less : (e : ℕ) → e ≤ 1073741824 → e * 63 / 64 ≤ 1073741824
    less e h = omega arith

pub weight_most : (k : ℕ) → weight_of k ≤ 1073741824
weight_most k = go (below_or_not k 512)
  where
    go : (k < 512) ⊎ (512 ≤ k) → weight_of k ≤ 1073741824
    go (inl h) = rw (weight_within k h) (fading_most k)
    go (inr h) = rw (weight_beyond k h) (omega arith)
