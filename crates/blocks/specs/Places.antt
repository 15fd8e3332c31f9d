-- Lists written place by place.
use Rattle.std.specs.Prelude.{ℕ, ◌+◌, ◌<◌, ◌≡◌, List, length, get_or, set}
use Rattle.layout.specs.Bytes.{byte_of}

-- a list of n places of which the first k are filled by f
pub record Filling (f : ℕ → ℕ) (n k : ℕ) (xs : List ℕ) : Type 0 where
  pub long : length xs ≡ n
  pub done : (j : ℕ) → j < k → get_or xs j 0 ≡ f j

-- with the four bytes of a number at a place
pub record Put (before after : List ℕ) (at x : ℕ) : Type 0 where
  pub result :
      after ≡ set (set (set (set before at (byte_of 0 x)) (at + 1) (byte_of 1 x)) (at + 2) (byte_of 2 x)) (at + 3) (byte_of 3 x)
