-- A table of conditions with their numbers, read from the front.
use mathlib.Core.Logic.{inl, inr}
use mathlib.Core.Path.{◌≡◌, refl}
use Prim.Native.Nat.{ℕ, suc, ◌≤◌}
use mathlib.Core.Bool.{Bool, true, false, cond}
use mathlib.Core.List.{List, [], ◌∷◌}
use native.Mathlib.Omega.{arith}
use Rattle.rules.specs.Basics.{first_of}
use Rattle.rules.proofs.Tables.{Numbered}
use Rattle.guarantee.specs.DemandOne.{FirstIs}

pub first_of_is : (j : ℕ) (rows : List (Bool × ℕ)) → first_of rows ≡ suc j → FirstIs rows (suc j)
first_of_is j [] e = absurd (omega arith)
first_of_is j (row ∷ rows) e = go row.0 refl e (first_of_is j rows)
  where
    go :
        (b : Bool)
        → row.0 ≡ b
        → cond b row.1 (first_of rows) ≡ suc j
        → (first_of rows ≡ suc j → FirstIs rows (suc j))
        → FirstIs (row ∷ rows) (suc j)
    go true q u later = inl (q, u)
    go false q u later = inr (q, later u)

pub is_first_of : (k : ℕ) (rows : List (Bool × ℕ)) → FirstIs rows k → first_of rows ≡ k
is_first_of k [] h = absurd h
is_first_of k (row ∷ rows) (inl (p, e)) = rw p e
is_first_of k (row ∷ rows) (inr (p, h)) = rw p (is_first_of k rows h)

pub is_numbered : (k : ℕ) (rows : List (Bool × ℕ)) → Numbered rows → FirstIs rows k → 1 ≤ k
is_numbered k [] n h = absurd h
is_numbered k (row ∷ rows) n (inl (p, e)) = omega (arith, n.0)
is_numbered k (row ∷ rows) n (inr (p, h)) = is_numbered k rows n.1 h
