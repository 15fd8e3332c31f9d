-- A table of tests, and the same conditions in words: the first that holds is the same.
use mathlib.Core.Logic.{◌⊎◌, inl, inr, ◌↔◌}
use mathlib.Core.Path.{◌≡◌, refl, sym, ◌∙◌}
use Prim.Native.Nat.{ℕ, ◌≤◌, ◌<◌}
use mathlib.Core.Bool.{Bool, true, false, not, ◌&&◌, ◌||◌, true≢false}
use mathlib.Core.List.{List, [], ◌∷◌, ◌++◌}
use lib.Dec.{ltb, leb, eqb}
use native.Mathlib.Omega.{arith}
use borrow.Author.Tests.{ltb-true, ltb-false, lt-ltb, leb-true, le-leb, eqb-true, eq-eqb}
use Rattle.rules.specs.Basics.{some, Each}
use Rattle.rules.proofs.Ranges.{fails, or_left, or_right}
use Rattle.guarantee.specs.DemandOne.{FirstIs, NoneApplies}
use Rattle.theorem.specs.Single.{OfSome, Condition, when, FirstToHold}

-- row by row they say the same, each wherever none before it holds
abbrev pub Matches : List (Bool × ℕ) → List Condition → Type 0
Matches [] [] = Unit {0}
Matches [] (when Holds n ∷ conditions) = ⊥
Matches (row ∷ rows) [] = ⊥
Matches (row ∷ rows) (when Holds n ∷ conditions) =
    ((row.0 ≡ true) ↔ Holds) × (row.1 ≡ n) × (row.0 ≡ false → Matches rows conditions)

pub first_holds :
    (rows : List (Bool × ℕ)) (conditions : List Condition) (k : ℕ)
    → Matches rows conditions
    → FirstIs rows k ↔ FirstToHold conditions k
first_holds [] [] k h = ((λ e. e), (λ e. e))
first_holds [] (when Holds n ∷ conditions) k h = absurd h
first_holds (row ∷ rows) [] k h = absurd h
first_holds (row ∷ rows) (when Holds n ∷ conditions) k (same, number, more) =
    (there (λ p. first_holds rows conditions k (more p)), back (λ p. first_holds rows conditions k (more p)))
  where
    there :
        (row.0 ≡ false → FirstIs rows k ↔ FirstToHold conditions k)
        → FirstIs (row ∷ rows) k
        → FirstToHold (when Holds n ∷ conditions) k
    there rest (inl (p, e)) = inl (same.0 p, sym number ∙ e)
    there rest (inr (p, f)) = inr ((λ h. true≢false (sym (same.1 h) ∙ p)), (rest p).0 f)

    back :
        (row.0 ≡ false → FirstIs rows k ↔ FirstToHold conditions k)
        → FirstToHold (when Holds n ∷ conditions) k
        → FirstIs (row ∷ rows) k
    back rest (inl (h, e)) = inl (same.1 h, number ∙ e)
    back rest (inr (h, f)) =
        let p : row.0 ≡ false = fails row.0 (λ q. h (same.0 q)) in
        inr (p, (rest p).1 f)

-- a table that goes on
pub matches_more :
    (rows more : List (Bool × ℕ)) (conditions further : List Condition)
    → Matches rows conditions
    → (NoneApplies rows → Matches more further)
    → Matches (rows ++ more) (conditions ++ further)
matches_more [] more [] further h then = then tt
matches_more [] more (when Holds n ∷ conditions) further h then = absurd h
matches_more (row ∷ rows) more [] further h then = absurd h
matches_more (row ∷ rows) more (when Holds n ∷ conditions) further (same, number, rest) then =
    (same, number, (λ p. matches_more rows more conditions further (rest p) (λ none. then (p, none))))

-- Tests in words

pub below_is : (a b : ℕ) → (ltb a b ≡ true) ↔ (a < b)
below_is a b = (ltb-true a b, lt-ltb a b)

pub most_is : (a b : ℕ) → (leb a b ≡ true) ↔ (a ≤ b)
most_is a b = (leb-true a b, le-leb a b)

pub either_is : (a b : Bool) {A B : Type 0} → (a ≡ true) ↔ A → (b ≡ true) ↔ B → (a || b ≡ true) ↔ (A ⊎ B)
either_is true b f g = ((λ e. inl (f.0 refl)), (λ e. refl))
either_is false b {A = A} {B = B} f g = ((λ e. inr (g.0 e)), go)
  where
    go : A ⊎ B → b ≡ true
    go (inl h) = absurd (true≢false (sym (f.1 h)))
    go (inr h) = g.1 h

pub not_is : (a : Bool) {A : Type 0} → (a ≡ true) ↔ A → (not a ≡ true) ↔ (A → ⊥)
not_is true f = ((λ e. absurd (true≢false (sym e))), (λ h. absurd (h (f.0 refl))))
not_is false f = ((λ e h. true≢false (sym (f.1 h))), (λ h. refl))

pub some_is :
    {A : Type 0} (f : A → Bool) (P : A → Type 0)
    → ((a : A) → (f a ≡ true) ↔ P a)
    → (l : List A)
    → (some f l ≡ true) ↔ OfSome P l
some_is f P same [] = ((λ e. true≢false (sym e)), (λ h. absurd h))
some_is f P same (a ∷ l) = either_is (f a) (some f l) (same a) (some_is f P same l)

pub some_map : {A : Type 0} (P Q : A → Type 0) → ((a : A) → P a → Q a) → (l : List A) → OfSome P l → OfSome Q l
some_map P Q f [] h = absurd h
some_map P Q f (a ∷ l) (inl p) = inl (f a p)
some_map P Q f (a ∷ l) (inr h) = inr (some_map P Q f l h)

pub none_is :
    {A : Type 0} (f : A → Bool) (P : A → Type 0)
    → ((a : A) → (f a ≡ true) ↔ P a)
    → (l : List A)
    → (not (some f l) ≡ true) ↔ Each (λ a. P a → ⊥) l
none_is {A = A} f P same l = ((λ e. each l (not_true (some f l) e)), (λ h. not_some l h))
  where
    not_true : (b : Bool) → not b ≡ true → b ≡ false
    not_true true e = sym e
    not_true false e = refl

    each : (l : List A) → some f l ≡ false → Each (λ a. P a → ⊥) l
    each [] e = tt
    each (a ∷ l) e = (
      (λ p. true≢false (sym ((same a).1 p) ∙ or_left (f a) (some f l) e)),
      each l (or_right (f a) (some f l) e),
    )

    not_some : (l : List A) → Each (λ a. P a → ⊥) l → not (some f l) ≡ true
    not_some [] h = refl
    not_some (a ∷ l) h = rw (fails (f a) (λ p. h.0 ((same a).0 p))) (not_some l h.1)

pub equal_is : (a b : ℕ) → (eqb a b ≡ true) ↔ (a ≡ b)
equal_is a b = (eqb-true a b, eq-eqb a b)

pub both_is : (a b : Bool) {A B : Type 0} → (a ≡ true) ↔ A → (b ≡ true) ↔ B → (a && b ≡ true) ↔ (A × B)
both_is true b f g = ((λ e. (f.0 refl, g.0 e)), (λ h. g.1 h.1))
both_is false b f g = ((λ e. absurd (true≢false (sym e))), (λ h. f.1 h.0))

-- not below
pub waits_is : (a b : ℕ) → (not (ltb a b) ≡ true) ↔ (b ≤ a)
waits_is a b = go (ltb a b) refl
  where
    go : (t : Bool) → ltb a b ≡ t → (not t ≡ true) ↔ (b ≤ a)
    go true e = ((λ p. absurd (true≢false (sym p))), (λ h. absurd (omega (arith, ltb-true a b e))))
    go false e = ((λ p. ltb-false a b e), (λ h. refl))
