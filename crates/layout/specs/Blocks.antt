-- "answers how many blocks differ": all 512 bytes of each of the nine blocks are compared.
use Rattle.std.specs.Prelude.{ℕ, zero, suc, ◌+◌, Bool, cond, List, eqb}
use Rattle.layout.specs.Lists.{every}
use Rattle.layout.specs.Reading.{in_block}

-- at how many of the first n numbers f fails
unfoldable pub failing : (ℕ → Bool) → ℕ → ℕ
failing f zero = 0
failing f (suc n) = failing f n + cond (f n) 0 1

abbrev pub same_at : List ℕ → List ℕ → ℕ → ℕ → Bool
same_at xs ys b i = eqb (in_block xs b i) (in_block ys b i)

unfoldable pub same_block : List ℕ → List ℕ → ℕ → Bool
same_block xs ys b = every (same_at xs ys b) 512

unfoldable pub differing : List ℕ → List ℕ → ℕ
differing xs ys = failing (same_block xs ys) 9
