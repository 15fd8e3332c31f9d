-- Two facts that hold for each member of a list, and what holds of the images of the members.
use mathlib.Core.Path.{◌≡◌, refl}
use mathlib.Core.Bool.{Bool, true, false, cond}
use mathlib.Core.List.{List, [], ◌∷◌, map}
use Rattle.rules.specs.Basics.{keep, some, Each}
use Rattle.rules.proofs.Lists.{each_map}
use Rattle.rules.proofs.Sorting.{InOrder}

pub each_two :
    {A : Type 0} (P Q R : A → Type 0) → ((a : A) → P a → Q a → R a) → (l : List A) → Each P l → Each Q l → Each R l
each_two P Q R f [] d e = tt
each_two P Q R f (a ∷ l) d e = (f a d.0 e.0, each_two P Q R f l d.1 e.1)

-- `each_map`, where the facts can be told from the function
pub each_in : {A : Type 0} {P Q : A → Type 0} → ((a : A) → P a → Q a) → (l : List A) → Each P l → Each Q l
each_in {P = P} {Q = Q} f l e = each_map P Q f l e

pub image_each :
    {A : Type 0} {B : Type 0} (P : B → Type 0) (f : A → B) (l : List A) → Each P (map f l) → Each (λ a. P (f a)) l
image_each P f [] e = tt
image_each P f (a ∷ l) e = (e.0, image_each P f l e.1)

pub each_image :
    {A : Type 0} {B : Type 0} (P : B → Type 0) (f : A → B) (l : List A) → Each (λ a. P (f a)) l → Each P (map f l)
each_image P f [] e = tt
each_image P f (a ∷ l) e = (e.0, each_image P f l e.1)

-- a test of the images
pub keep_image :
    {A : Type 0} {B : Type 0} (g : A → B) (f : B → Bool) (l : List A) → keep f (map g l) ≡ map g (keep (λ a. f (g a)) l)
keep_image g f [] = refl
keep_image g f (a ∷ l) = go (f (g a)) (keep_image g f l)
  where
    go :
        (b : Bool)
        → keep f (map g l) ≡ map g (keep (λ a. f (g a)) l)
        → cond b (g a ∷ keep f (map g l)) (keep f (map g l))
        ≡ map g (cond b (a ∷ keep (λ a. f (g a)) l) (keep (λ a. f (g a)) l))
    go true ih = rw ih
    go false ih = ih

pub some_image :
    {A : Type 0} {B : Type 0} (g : A → B) (f : B → Bool) (l : List A) → some f (map g l) ≡ some (λ a. f (g a)) l
some_image g f [] = refl
some_image g f (a ∷ l) = rw (some_image g f l)

-- a relation of any two members, and of any two images
pub image_order :
    {A : Type 0} {B : Type 0} (R : B → B → Type 0) (g : A → B) (l : List A)
    → InOrder R (map g l)
    → InOrder (λ a b. R (g a) (g b)) l
image_order R g [] o = tt
image_order R g (a ∷ l) o = (image_each (R (g a)) g l o.0, image_order R g l o.1)

pub order_image :
    {A : Type 0} {B : Type 0} (R : B → B → Type 0) (g : A → B) (l : List A)
    → InOrder (λ a b. R (g a) (g b)) l
    → InOrder R (map g l)
order_image R g [] o = tt
order_image R g (a ∷ l) o = (each_image (R (g a)) g l o.0, order_image R g l o.1)
