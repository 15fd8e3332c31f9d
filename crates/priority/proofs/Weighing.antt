-- Weights fall with the slack; and the products that are compared are numbers of 64 bits.
use mathlib.Core.Logic.{◌⊎◌, inl, inr}
use mathlib.Core.Path.{◌≡◌, refl, sym, ap, subst⁻¹, ◌∙◌}
use mathlib.Core.Bool.{true}
use mathlib.Core.List.{List}
use lib.ListN.{get_or}
use Prim.Native.Nat.{ℕ, zero, suc, ◌+◌, ◌-◌, ◌*◌, ◌/◌, ◌^◌, ◌≤◌, ◌<◌}
use native.Mathlib.Omega.{arith}
use native.Mathlib.Nat.{le_of_lt, lt_of_le_of_lt, mul-le-mul_left, mul-le-mul_right, mul-lt-mul_of_pos_right}
use lib.Ieee.Nearest.{div_mono}
use lib.Pow.{pow_pos, pow-add}
use lib.Seq.{ext_get_or}
use Rattle.priority.specs.declared.table.TheConstants.{WEIGHTS}
use Rattle.rules.specs.Priority.{fading, weights, weight_of, keeps_the_rule}
use Rattle.rules.proofs.Ranges.{below_or_not}
use Rattle.rules.proofs.Weights.{keeps_rule, weights_table, weight_within, weight_beyond, table_weight}

-- the product of two numbers of k bits has at most k + k
pub product_fits : (k : ℕ) {a b : ℕ} → a < 2 ^ k → b < 2 ^ k → a * b < 2 ^ (k + k)
product_fits k {a} {b} ha hb =
    subst⁻¹ (λ (n : ℕ). a * b < n) (pow-add 2 k k)
    (lt_of_le_of_lt (mul-le-mul_left a (le_of_lt hb)) (mul-lt-mul_of_pos_right ha (pow_pos k)))

-- a table that passes the test of the rules is theirs
table_kept : (table : List ℕ) → keeps_the_rule table ≡ true → table ≡ weights
unfolding weight_of
table_kept table e =
    ext_get_or 0 table weights ((keeps_rule table e).size ∙ sym weights_table.size) (λ k h. table_weight table e k)

-- the code's table has the weights of the rules: the checker computes the test over all of it
pub the_weights : WEIGHTS ≡ weights
the_weights = table_kept WEIGHTS refl

pub table_at : (k : ℕ) → get_or WEIGHTS k 0 ≡ weight_of k
unfolding weight_of
table_at k = ap (λ (t : List ℕ). get_or t k 0) the_weights

-- E falls
fading_next : (k : ℕ) → fading (suc k) ≤ fading k
unfolding fading
fading_next k = less (fading k)
  where
    less : (e : ℕ) → e * 63 / 64 ≤ e
    less e = omega arith

fading_falls : (j d k : ℕ) → k ≡ j + d → fading k ≤ fading j
fading_falls j zero k e = let same : k ≡ j = omega arith in rw same (omega arith)
fading_falls j (suc d) k e =
    let next : k ≡ suc (j + d) = omega arith in
    rw next (omega (arith, fading_next (j + d), fading_falls j d (j + d) refl))

weight_falls : (j k : ℕ) → j ≤ k → weight_of k ≤ weight_of j
weight_falls j k h = go (below_or_not k 512)
  where
    go : (k < 512) ⊎ (512 ≤ k) → weight_of k ≤ weight_of j
    go (inl l) = rw (weight_within k l, weight_within j (omega arith)) (fading_falls j (k - j) k (omega arith))
    go (inr l) = rw (weight_beyond k l) (omega arith)

-- the weight of a charge with more slack is not larger
pub slack_falls : (m l n p : ℕ) → 1 ≤ p → m ≤ l → weight_of (256 * l * n / p) ≤ weight_of (256 * m * n / p)
slack_falls m l n p h j =
    weight_falls (256 * m * n / p) (256 * l * n / p)
    (div_mono (256 * m * n) p (256 * l * n) p h h
    (mul-le-mul_right p (mul-le-mul_right n (mul-le-mul_left 256 j))))
