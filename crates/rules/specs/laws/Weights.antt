-- The table of weights: E(0) is 2^30, E(k + 1) is E(k) × 63 / 64 rounded down, for k from 0 to 511, and 0 beyond.
use Rattle.std.specs.Prelude.{◌≡◌, ℕ, suc, ◌+◌, ◌*◌, ◌/◌, ◌^◌, ◌≤◌, ◌<◌, true, List, length, get_or}
use Rattle.rules.specs.Priority.{fading, weights, weight_of, keeps_the_rule}

-- "E(k) × 64^k ≤ 2^30 × 63^k < (E(k) + 64) × 64^k", for the number e in the place of E(k)
pub record Bounded (e k : ℕ) : Type 0 where
  pub low : e * 64 ^ k ≤ 2 ^ 30 * 63 ^ k
  pub high : 2 ^ 30 * 63 ^ k < (e + 64) * 64 ^ k

-- the table's rule
pub record Table (table : List ℕ) : Type 0 where
  pub size : length table ≡ 512
  pub begins : get_or table 0 0 ≡ 1073741824
  pub steps : (k : ℕ) → k < 511 → get_or table (suc k) 0 ≡ get_or table k 0 * 63 / 64
  pub bounds : (k : ℕ) → k < 512 → Bounded (get_or table k 0) k

-- What one computed test says of a whole table of 512 numbers holds at each k.
abbrev pub TestedTableKeepsTheRule : Type 0
TestedTableKeepsTheRule = (table : List ℕ) → keeps_the_rule table ≡ true → Table table

-- The table of the rules passes it.
abbrev pub WeightsKeepTheRule : Type 0
WeightsKeepTheRule = Table weights

-- E itself keeps the bound at each k.
abbrev pub FadingKeepsItsBound : Type 0
FadingKeepsItsBound = (k : ℕ) → k < 512 → Bounded (fading k) k

-- The weight is E(k) within the table.
abbrev pub WeightIsFading : Type 0
WeightIsFading = (k : ℕ) → k < 512 → weight_of k ≡ fading k

-- The weight is 0 beyond the table.
abbrev pub WeightEndsWithTheTable : Type 0
WeightEndsWithTheTable = (k : ℕ) → 512 ≤ k → weight_of k ≡ 0

-- Any table that passes the test has the weights of the rules.
abbrev pub TestedTableHasTheWeights : Type 0
TestedTableHasTheWeights = (table : List ℕ) → keeps_the_rule table ≡ true → (k : ℕ) → get_or table k 0 ≡ weight_of k
