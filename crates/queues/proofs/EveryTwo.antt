-- Every two members of a list, the earlier one first: what gives a property of them, and what keeps it.
use Prim.Native.Nat.{ℕ, zero, suc, ◌+◌, ◌≤◌, ◌<◌}
use mathlib.Core.Path.{◌≡◌}
use mathlib.Core.Bool.{Bool, true, false, cond}
use mathlib.Core.List.{List, [], ◌∷◌, ◌++◌, map}
use native.Mathlib.Omega.{arith}
use lib.ListN.{length, get_or}
use Rattle.rules.specs.Basics.{Each, tabulate, keep}
use Rattle.rules.proofs.Ranges.{along}
use Rattle.rules.proofs.Lists.{each_map, keep_each, each_tabulate, tabulate_each}
use Rattle.rules.proofs.Sorting.{InOrder}

pub two_tabulate :
    {A : Type 0} (R : A → A → Type 0) (g : ℕ → A) (k a : ℕ)
    → ((i j : ℕ) → a ≤ i → i < j → j < a + k → R (g i) (g j))
    → InOrder R (tabulate g k a)
two_tabulate R g zero a h = tt
two_tabulate R g (suc k) a h = (
  each_tabulate (R (g a)) g k (suc a) (λ j p q. h a j (omega arith) (omega arith) (omega arith)),
  two_tabulate R g k (suc a) (λ i j p q r. h i j (omega arith) (omega arith) (omega arith)),
)

pub two_keep :
    {A : Type 0} (R : A → A → Type 0) (f : A → Bool) (xs : List A) → InOrder R xs → InOrder R (keep f xs)
two_keep R f [] e = tt
two_keep R f (x ∷ xs) e = go (f x) (two_keep R f xs e.1)
  where
    go : (b : Bool) → InOrder R (keep f xs) → InOrder R (cond b (x ∷ keep f xs) (keep f xs))
    go true h = (keep_each (R x) f xs e.0, h)
    go false h = h

two_at :
    {A : Type 0} (R : A → A → Type 0) (g : ℕ → A) (n a : ℕ)
    → InOrder R (tabulate g n a)
    → (i j : ℕ)
    → i < j
    → j < n
    → R (g (a + i)) (g (a + j))
two_at R g zero a e i j h l = absurd (omega arith)
two_at R g (suc n) a e zero zero h l = absurd (omega arith)
two_at R g (suc n) a e zero (suc j) h l =
    rw (nothing a, along a j) (tabulate_each (R (g a)) g n (suc a) e.0 (suc a + j) (omega arith) (omega arith))
  where
    nothing : (a : ℕ) → a + 0 ≡ a
    nothing a = omega arith
two_at R g (suc n) a e (suc i) zero h l = absurd (omega arith)
two_at R g (suc n) a e (suc i) (suc j) h l =
    rw (along a i, along a j) (two_at R g n (suc a) e.1 i j (omega arith) (omega arith))

-- from the first place on
pub two_places :
    {A : Type 0} (R : A → A → Type 0) (g : ℕ → A) (n : ℕ)
    → InOrder R (tabulate g n 0)
    → (i j : ℕ)
    → i < j
    → j < n
    → R (g i) (g j)
two_places R g n e i j h l = rw (same i, same j) at (two_at R g n 0 e i j h l)
  where
    same : (i : ℕ) → 0 + i ≡ i
    same i = omega arith

-- by the places of a list of numbers
pub each_get : (P : ℕ → Type 0) (xs : List ℕ) → Each P xs → (j : ℕ) → j < length xs → P (get_or xs j 0)
each_get P [] e j h = absurd (omega arith)
each_get P (x ∷ xs) e zero h = e.0
each_get P (x ∷ xs) e (suc j) h = each_get P xs e.1 j (omega arith)

pub two_get :
    (R : ℕ → ℕ → Type 0) (xs : List ℕ)
    → InOrder R xs
    → (i j : ℕ)
    → i < j
    → j < length xs
    → R (get_or xs i 0) (get_or xs j 0)
two_get R [] e i j h l = absurd (omega arith)
two_get R (x ∷ xs) e zero zero h l = absurd (omega arith)
two_get R (x ∷ xs) e zero (suc j) h l = each_get (R x) xs e.0 j (omega arith)
two_get R (x ∷ xs) e (suc i) zero h l = absurd (omega arith)
two_get R (x ∷ xs) e (suc i) (suc j) h l = two_get R xs e.1 i j (omega arith) (omega arith)

-- of any list, from what holds at its places
each_from_places :
    {A : Type 0} (P : A → Type 0) (xs : List A) → ((j : ℕ) (d : A) → j < length xs → P (get_or xs j d)) → Each P xs
each_from_places P [] h = tt
each_from_places P (x ∷ xs) h = (h 0 x (omega arith), each_from_places P xs (λ j d l. h (suc j) d (omega arith)))

pub two_from_places :
    {A : Type 0} (R : A → A → Type 0) (xs : List A)
    → ((i j : ℕ) (d : A) → i < j → j < length xs → R (get_or xs i d) (get_or xs j d))
    → InOrder R xs
two_from_places R [] h = tt
two_from_places R (x ∷ xs) h = (
  each_from_places (R x) xs (λ j d l. h 0 (suc j) d (omega arith) (omega arith)),
  two_from_places R xs (λ i j d l m. h (suc i) (suc j) d (omega arith) (omega arith)),
)

each_both : {A : Type 0} (P Q : A → Type 0) (xs : List A) → Each P xs → Each Q xs → Each (λ x. P x × Q x) xs
each_both P Q [] e d = tt
each_both P Q (x ∷ xs) e d = ((e.0, d.0), each_both P Q xs e.1 d.1)

-- what follows for two members from the property of each
pub two_imp :
    {A : Type 0} (P : A → Type 0) (R Q : A → A → Type 0)
    → ((x y : A) → P x → P y → R x y → Q x y)
    → (xs : List A)
    → Each P xs
    → InOrder R xs
    → InOrder Q xs
two_imp P R Q h [] e d = tt
two_imp P R Q h (x ∷ xs) e d = (
  each_map (λ y. P y × R x y) (Q x) (λ y p. h x y e.0 p.0 p.1) xs (each_both P (R x) xs e.1 d.0),
  two_imp P R Q h xs e.1 d.1,
)

-- what follows for two members alone
pub two_so :
    {A : Type 0} (R Q : A → A → Type 0) → ((x y : A) → R x y → Q x y) → (xs : List A) → InOrder R xs → InOrder Q xs
two_so R Q h [] d = tt
two_so R Q h (x ∷ xs) d = (each_map (R x) (Q x) (λ y r. h x y r) xs d.0, two_so R Q h xs d.1)

module _ {A B : Type 0} (f : A → B) where
  each_mapped : (P : B → Type 0) (xs : List A) → Each (λ x. P (f x)) xs → Each P (map f xs)
  each_mapped P [] e = tt
  each_mapped P (x ∷ xs) e = (e.0, each_mapped P xs e.1)

  pub two_map : (R : B → B → Type 0) (xs : List A) → InOrder (λ x y. R (f x) (f y)) xs → InOrder R (map f xs)
  two_map R [] d = tt
  two_map R (x ∷ xs) d = (each_mapped (R (f x)) xs d.0, two_map R xs d.1)

module _ {A : Type 0} (R : A → A → Type 0) where
  pub two_all : ((x y : A) → R x y) → (xs : List A) → InOrder R xs
  two_all h [] = tt
  two_all h (x ∷ xs) = (each xs, two_all h xs)
    where
      each : (ys : List A) → Each (R x) ys
      each [] = tt
      each (y ∷ ys) = (h x y, each ys)

  -- of two lists one after another, each
  pub two_right : (xs ys : List A) → InOrder R (xs ++ ys) → InOrder R ys
  two_right [] ys d = d
  two_right (x ∷ xs) ys d = two_right xs ys d.1

  each_left : (P : A → Type 0) (xs ys : List A) → Each P (xs ++ ys) → Each P xs
  each_left P [] ys e = tt
  each_left P (x ∷ xs) ys e = (e.0, each_left P xs ys e.1)

  pub two_left : (xs ys : List A) → InOrder R (xs ++ ys) → InOrder R xs
  two_left [] ys d = tt
  two_left (x ∷ xs) ys d = (each_left (R x) xs ys d.0, two_left xs ys d.1)
