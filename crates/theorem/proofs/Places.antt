-- Places of a list whose front has been written.
use mathlib.Core.Path.{◌≡◌, refl, ap}
use Prim.Native.Nat.{ℕ, zero, suc, ◌≤◌, ◌<◌}
use mathlib.Core.List.{List, [], ◌∷◌, ◌++◌, map}
use native.Mathlib.Omega.{arith}
use lib.ListN.{length, get_or}
use Rattle.rules.specs.Calls.{written}

pub front_at : (f : ℕ → ℕ) (xs rest : List ℕ) (i : ℕ) → i < length xs → get_or (map f xs ++ rest) i 0 ≡ f (get_or xs i 0)
front_at f [] rest i h = absurd (omega arith)
front_at f (x ∷ xs) rest zero h = refl
front_at f (x ∷ xs) rest (suc i) h = front_at f xs rest i (omega arith)

-- behind the front stands what stood there
pub behind_at : (xs list : List ℕ) (i : ℕ) → length xs ≤ i → get_or (written xs list) i 0 ≡ get_or list i 0
behind_at [] list i h = refl
behind_at (x ∷ xs) [] zero h = absurd (omega arith)
behind_at (x ∷ xs) [] (suc i) h = past xs i (omega arith)
  where
    past : (xs : List ℕ) (i : ℕ) → length xs ≤ i → get_or (xs ++ []) i 0 ≡ 0
    past [] i h = refl
    past (x ∷ xs) zero h = absurd (omega arith)
    past (x ∷ xs) (suc i) h = past xs i (omega arith)
behind_at (x ∷ xs) (y ∷ ys) zero h = absurd (omega arith)
behind_at (x ∷ xs) (y ∷ ys) (suc i) h = behind_at xs ys i (omega arith)

pub written_length : (xs list : List ℕ) → length xs ≤ length list → length (written xs list) ≡ length list
written_length [] list h = refl
written_length (x ∷ xs) [] h = absurd (omega arith)
written_length (x ∷ xs) (y ∷ ys) h = ap suc (written_length xs ys (omega arith))
