-- Charges in whatever order they stand: what they draw, up to when, and whether one of them passes a test.
use mathlib.Core.Path.{◌≡◌, refl, ◌∙◌}
use Prim.Native.Nat.{ℕ}
use mathlib.Core.Bool.{Bool, true, false, ◌||◌}
use mathlib.Core.List.{List, [], ◌∷◌}
use Rattle.rules.specs.Basics.{some}
use Rattle.rules.specs.Charge.{Charge}
use Rattle.rules.proofs.Sorting.{Inserted, here, later, Rearranged, none, more}
use Rattle.rules.proofs.Sites.{Joins}

-- a number made of a list of charges by joining those of its parts
module _ (g : List Charge → ℕ) (j : Joins g) where
  turned : (b c : Charge) (l : List Charge) → g (b ∷ c ∷ l) ≡ g (c ∷ b ∷ l)
  turned b c l =
      rw (
        j.join (b ∷ c ∷ []) l,
        j.join (c ∷ b ∷ []) l,
        j.join (b ∷ []) (c ∷ []),
        j.join (c ∷ []) (b ∷ []),
        j.turn (g (b ∷ [])) (g (c ∷ [])),
      )

  one_more : (b : Charge) (l m : List Charge) → g m ≡ g l → g (b ∷ m) ≡ g (b ∷ l)
  one_more b l m e = rw (j.join (b ∷ []) m, j.join (b ∷ []) l, e)

  number_inserted : {c : Charge} {l m : List Charge} → Inserted c l m → g m ≡ g (c ∷ l)
  number_inserted here = refl
  number_inserted {c = c} (later {b = b} {l = l} {m = m} i) = one_more b (c ∷ l) m (number_inserted i) ∙ turned b c l

  pub number_rearranged : {l m : List Charge} → Rearranged l m → g m ≡ g l
  number_rearranged none = refl
  number_rearranged (more {a = a} {l = l} {m = m} r i) = number_inserted i ∙ one_more a l m (number_rearranged r)

some_inserted :
    {A : Type 0} (f : A → Bool) {a : A} {l m : List A} → Inserted a l m → some f m ≡ f a || some f l
some_inserted f here = refl
some_inserted f {a = a} (later {b = b} {l = l} i) = rw (some_inserted f i) (turn (f b) (f a) (some f l))
  where
    turn : (x y z : Bool) → x || (y || z) ≡ y || (x || z)
    turn true true z = refl
    turn true false z = refl
    turn false true z = refl
    turn false false z = refl

pub some_rearranged : {A : Type 0} (f : A → Bool) {l m : List A} → Rearranged l m → some f m ≡ some f l
some_rearranged f none = refl
some_rearranged f (more {a = a} r i) = some_inserted f i ∙ rw (some_rearranged f r)
