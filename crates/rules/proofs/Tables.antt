-- An ordered table of conditions: the first that holds.
use mathlib.Core.Path.{◌≡◌, refl}
use Prim.Native.Nat.{ℕ, suc, ◌≤◌}
use mathlib.Core.Bool.{Bool, true, false, cond}
use mathlib.Core.List.{List, [], ◌∷◌, ◌++◌}
use native.Mathlib.Omega.{arith}
use Rattle.rules.specs.Basics.{Each, first_of}

-- no condition of the table holds
abbrev pub NoneHolds : List (Bool × ℕ) → Type 0
NoneHolds rows = Each (λ (row : Bool × ℕ). row.0 ≡ false) rows

-- each number is above 0
abbrev pub Numbered : List (Bool × ℕ) → Type 0
Numbered rows = Each (λ (row : Bool × ℕ). 1 ≤ row.1) rows

pub first_of_none : (rows : List (Bool × ℕ)) → Numbered rows → first_of rows ≡ 0 → NoneHolds rows
first_of_none [] p e = tt
first_of_none (row ∷ rows) p e = go row.0 refl e (first_of_none rows p.1)
  where
    go :
        (b : Bool)
        → row.0 ≡ b
        → cond b row.1 (first_of rows) ≡ 0
        → (first_of rows ≡ 0 → NoneHolds rows)
        → (row.0 ≡ false) × NoneHolds rows
    go true q u later = absurd (omega (arith, p.0))
    go false q u later = (q, later u)

pub none_first_of : (rows : List (Bool × ℕ)) → NoneHolds rows → first_of rows ≡ 0
none_first_of [] e = refl
none_first_of (row ∷ rows) e = rw (e.0, none_first_of rows e.1)

-- A table that goes on with more rows

pub none_front : (rows more : List (Bool × ℕ)) → NoneHolds (rows ++ more) → NoneHolds rows × NoneHolds more
none_front [] more e = (tt, e)
none_front (row ∷ rows) more e = let r = none_front rows more e.1 in ((e.0, r.0), r.1)

pub first_of_more : (rows more : List (Bool × ℕ)) → NoneHolds rows → first_of (rows ++ more) ≡ first_of more
first_of_more [] more e = refl
first_of_more (row ∷ rows) more e = rw (e.0, first_of_more rows more e.1)

pub first_of_front : (rows more : List (Bool × ℕ)) (k : ℕ) → first_of rows ≡ suc k → first_of (rows ++ more) ≡ suc k
first_of_front [] more k e = absurd (omega arith)
first_of_front (row ∷ rows) more k e = go row.0 e (first_of_front rows more k)
  where
    go :
        (b : Bool)
        → cond b row.1 (first_of rows) ≡ suc k
        → (first_of rows ≡ suc k → first_of (rows ++ more) ≡ suc k)
        → cond b row.1 (first_of (rows ++ more)) ≡ suc k
    go true u later = u
    go false u later = later u

-- a row whose number is not given can be left out
pub row_left_out :
    (before : List (Bool × ℕ)) (row : Bool × ℕ) (after : List (Bool × ℕ))
    → (first_of (before ++ (row ∷ after)) ≡ row.1 → ⊥)
    → first_of (before ++ after) ≡ first_of (before ++ (row ∷ after))
row_left_out [] row after h = go row.0 h
  where
    go : (b : Bool) → (cond b row.1 (first_of after) ≡ row.1 → ⊥) → first_of after ≡ cond b row.1 (first_of after)
    go true k = absurd (k refl)
    go false k = refl
row_left_out (first ∷ before) row after h = go first.0 h (row_left_out before row after)
  where
    go :
        (b : Bool)
        → (cond b first.1 (first_of (before ++ (row ∷ after))) ≡ row.1 → ⊥)
        → ((first_of (before ++ (row ∷ after)) ≡ row.1 → ⊥) → first_of (before ++ after) ≡ first_of (before ++ (row ∷ after)))
        → cond b first.1 (first_of (before ++ after)) ≡ cond b first.1 (first_of (before ++ (row ∷ after)))
    go true k later = refl
    go false k later = later k
