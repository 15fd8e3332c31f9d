-- The charges left on a line, as places of held charges: what these have there.
use Rattle.std.specs.Prelude.{ℕ, ◌≤◌, ◌<◌, List, length, get_or}
use Rattle.rules.specs.Load.{IsRate}
use Rattle.charges.specs.declared.Charges.{Charges}
use Rattle.charges.specs.Places.{Inside}

-- what the place of the j-th charge left has in a column
abbrev pub number_of : List ℕ → List ℕ → ℕ → ℕ
number_of column left j = get_or column (get_or left j 0) 0

-- charging times, or active ones
abbrev pub ShortTimes : List ℕ → List ℕ → Type 0
ShortTimes times left = (j : ℕ) → j < length left → (1 ≤ number_of times left j) × (number_of times left j ≤ 1445)

-- the places are those of arrays, and the numbers there are in range
pub record InRange (q : Charges) (left : List ℕ) : Type 0 where
  pub inside : Inside left
  pub short : ShortTimes q.times left
  pub active : ShortTimes q.active_times left
  pub dues_most : (j : ℕ) → j < length left → number_of q.dues left j ≤ 2000000
  pub rated : (j : ℕ) → j < length left → IsRate (number_of q.rates left j)
