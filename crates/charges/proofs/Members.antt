-- Members of a list: what each has by its place, and those that pass a test.
use mathlib.Core.Path.{◌≡◌, refl, ap}
use Prim.Native.Nat.{ℕ, zero, suc, ◌+◌, ◌≤◌, ◌<◌}
use mathlib.Core.Bool.{Bool, true, false, cond}
use mathlib.Core.List.{List, [], ◌∷◌, ◌++◌, map}
use native.Mathlib.Omega.{arith}
use lib.ListN.{length}
use Rattle.rules.specs.Basics.{Each, tabulate, keep}
use Rattle.rules.proofs.Lists.{tabulate_each, length_keep}

pub each_place :
    {A : Type 0} (P : A → Type 0) (g : ℕ → A) (k : ℕ) → Each P (tabulate g k 0) → (i : ℕ) → i < k → P (g i)
each_place P g k e i h = tabulate_each P g k 0 e i (omega arith) (omega arith)

-- a list made by place, in two parts
pub tabulate_parts : {A : Type 0} (g : ℕ → A) (i k : ℕ) → tabulate g (i + k) 0 ≡ tabulate g i 0 ++ tabulate g k i
tabulate_parts g i k = let z : 0 + i ≡ i = omega arith in rw z at (from i 0)
  where
    from : (i a : ℕ) → tabulate g (i + k) a ≡ tabulate g i a ++ tabulate g k (a + i)
    from zero a = let z : a + 0 ≡ a = omega arith in let y : 0 + k ≡ k = omega arith in rw (z, y) refl
    from (suc i) a =
        let z : a + suc i ≡ suc a + i = omega arith in
        let y : suc i + k ≡ suc (i + k) = omega arith in
        rw (z, y) (ap (λ l. g a ∷ l) (from i (suc a)))

-- Those that pass a test

pub map_keep :
    {A B : Type 0} (h : A → B) (f : B → Bool) (xs : List A) → map h (keep (λ x. f (h x)) xs) ≡ keep f (map h xs)
map_keep h f [] = refl
map_keep h f (x ∷ xs) = go (f (h x)) (map_keep h f xs)
  where
    go :
        (b : Bool)
        → map h (keep (λ y. f (h y)) xs) ≡ keep f (map h xs)
        → map h (cond b (x ∷ keep (λ y. f (h y)) xs) (keep (λ y. f (h y)) xs)) ≡ cond b (h x ∷ keep f (map h xs)) (keep f (map h xs))
    go true e = ap (λ l. h x ∷ l) e
    go false e = e

-- where as many pass as there are, all do
pub keep_whole : {A : Type 0} (f : A → Bool) (l : List A) → length l ≤ length (keep f l) → keep f l ≡ l
keep_whole f [] h = refl
keep_whole f (a ∷ l) h = go (f a) h (keep_whole f l)
  where
    go :
        (b : Bool)
        → suc (length l) ≤ length (cond b (a ∷ keep f l) (keep f l))
        → (length l ≤ length (keep f l) → keep f l ≡ l)
        → cond b (a ∷ keep f l) (keep f l) ≡ a ∷ l
    go true p ih = ap (λ m. a ∷ m) (ih (omega arith))
    go false p ih = absurd (omega (arith, length_keep f l))
