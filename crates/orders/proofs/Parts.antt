-- The loads of two windows, one behind the other; and what those that begin before a minute draw before it.
use mathlib.Core.Logic.{◌⊎◌, inl, inr}
use mathlib.Core.Path.{◌≡◌, refl}
use Prim.Native.Nat.{ℕ, ◌+◌, ◌≤◌, ◌<◌, max}
use mathlib.Core.Bool.{Bool, true, false, cond}
use mathlib.Core.List.{List, [], ◌∷◌}
use native.Mathlib.Omega.{arith}
use lib.Dec.{ltb}
use lib.ListN.{length}
use borrow.Author.Tests.{lt-ltb, le-ltb, le-leb, lt-leb}
use Rattle.rules.specs.Basics.{keep}
use Rattle.rules.specs.Load.{Load, draws, count, last_until}
use Rattle.rules.proofs.Ranges.{below_or_not}
use Rattle.rules.proofs.Counts.{draws_before}
use Rattle.windows.specs.Windows.{started}

-- the loads that begin before a minute
abbrev pub is_before : ℕ → Load → Bool
is_before high x = ltb x.from high

abbrev pub started_before : ℕ → List Load → List Load
started_before high xs = keep (is_before high) xs

-- whatever is summed over the loads: those before `low` and those from there up to `high` are all before `high`
module _ (w : Load → ℕ) (sum : List Load → ℕ) (none : sum [] ≡ 0) (more : (x : Load) (xs : List Load) → sum (x ∷ xs) ≡ w x + sum xs) where
  pub in_two : (low high : ℕ) → low ≤ high → (xs : List Load) → sum (started_before low xs) + sum (started low high xs) ≡ sum (started_before high xs)
  in_two low high h [] = omega (arith, none)
  in_two low high h (x ∷ xs) = go (below_or_not x.from low) (below_or_not x.from high) (in_two low high h xs)
    where
      go :
          (x.from < low) ⊎ (low ≤ x.from)
          → (x.from < high) ⊎ (high ≤ x.from)
          → sum (started_before low xs) + sum (started low high xs) ≡ sum (started_before high xs)
          → sum (started_before low (x ∷ xs)) + sum (started low high (x ∷ xs)) ≡ sum (started_before high (x ∷ xs))
      go (inl a) (inl b) e =
          rw (lt-ltb x.from low a, lt-leb low x.from a, lt-ltb x.from high b)
          (omega (arith, e, more x (started_before low xs), more x (started_before high xs)))
      go (inl a) (inr b) e = absurd (omega arith)
      go (inr a) (inl b) e =
          rw (le-ltb x.from low a, le-leb low x.from a, lt-ltb x.from high b)
          (omega (arith, e, more x (started low high xs), more x (started_before high xs)))
      go (inr a) (inr b) e =
          rw (le-ltb x.from low a, le-leb low x.from a, le-ltb x.from high b) (omega (arith, e))

pub count_in_two :
    (l t low high : ℕ) → low ≤ high → (xs : List Load)
    → count (started_before low xs) l t + count (started low high xs) l t ≡ count (started_before high xs) l t
count_in_two l t = in_two (λ x. draws x l t) (λ xs. count xs l t) refl (λ x xs. refl)

pub length_in_two :
    (low high : ℕ) → low ≤ high → (xs : List Load)
    → length (started_before low xs) + length (started low high xs) ≡ length (started_before high xs)
length_in_two = in_two (λ x. 1) length refl (λ x xs. omega arith)

-- what begins at or behind a minute draws nothing before it
pub count_before : (until l t : ℕ) → t < until → (xs : List Load) → count (started_before until xs) l t ≡ count xs l t
count_before until l t h [] = refl
count_before until l t h (x ∷ xs) = go (below_or_not x.from until) (count_before until l t h xs)
  where
    go :
        (x.from < until) ⊎ (until ≤ x.from)
        → count (started_before until xs) l t ≡ count xs l t
        → count (started_before until (x ∷ xs)) l t ≡ count (x ∷ xs) l t
    go (inl a) e = rw (lt-ltb x.from until a) (omega (arith, e))
    go (inr a) e = rw (le-ltb x.from until a) (omega (arith, e, draws_before x l t (omega arith)))

-- some loads end no later than all
pub last_kept : (f : Load → Bool) (xs : List Load) → last_until (keep f xs) ≤ last_until xs
last_kept f [] = omega arith
last_kept f (x ∷ xs) = go (f x) (last_kept f xs)
  where
    go :
        (b : Bool)
        → last_until (keep f xs) ≤ last_until xs
        → last_until (cond b (x ∷ keep f xs) (keep f xs)) ≤ max x.until (last_until xs)
    go true h = omega arith
    go false h = omega arith
