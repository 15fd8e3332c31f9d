-- Lists made from a function of the place, and lists of the members that pass a test.
use mathlib.Core.Logic.{◌⊎◌, inl, inr}
use mathlib.Core.Path.{◌≡◌, refl, ap}
use Prim.Native.Nat.{ℕ, zero, suc, ◌+◌, ◌≤◌, ◌<◌}
use mathlib.Core.Bool.{Bool, true, false, cond, ◌||◌}
use mathlib.Core.List.{List, [], ◌∷◌, ◌++◌, map}
use native.Mathlib.Omega.{arith}
use native.Mathlib.Numerals.{add-one}
use lib.ListN.{length, get_or}
use Rattle.rules.specs.Basics.{Each, tabulate, keep, some}
use Rattle.rules.proofs.Ranges.{below_or_not, along}

pub length_tabulate : {A : Type 0} (f : ℕ → A) (k a : ℕ) → length (tabulate f k a) ≡ k
length_tabulate f zero a = refl
length_tabulate f (suc k) a = ap suc (length_tabulate f k (suc a))

-- equal functions on the range give equal lists
pub tabulate_same :
    {A : Type 0} (f g : ℕ → A) (k a : ℕ)
    → ((i : ℕ) → a ≤ i → i < a + k → f i ≡ g i)
    → tabulate f k a ≡ tabulate g k a
tabulate_same f g zero a h = refl
tabulate_same f g (suc k) a h =
    rw (h a (omega arith) (omega arith), tabulate_same f g k (suc a) (λ i p q. h i (omega arith) (omega arith)))

-- one number more
pub tabulate_more :
    {A : Type 0} (f : ℕ → A) (k a : ℕ) → tabulate f (suc k) a ≡ tabulate f k a ++ (f (a + k) ∷ [])
tabulate_more f zero a = rw (nothing_added a)
  where
    nothing_added : (a : ℕ) → a + 0 ≡ a
    nothing_added a = omega arith
tabulate_more f (suc k) a =
    ap (λ l. f a ∷ l) (rw (along a k) (tabulate_more f k (suc a)))

-- one number more, as code counts
pub tabulate_next :
    {A : Type 0} (f : ℕ → A) (k : ℕ) → tabulate f (k + 1) 0 ≡ tabulate f k 0 ++ (f k ∷ [])
tabulate_next f k = rw (add-one k, tabulate_more f k 0) (ap (λ (i : ℕ). tabulate f k 0 ++ (f i ∷ [])) (from_zero k))
  where
    from_zero : (k : ℕ) → 0 + k ≡ k
    from_zero k = omega arith

pub map_tabulate :
    {A : Type 0} {B : Type 0} (g : A → B) (f : ℕ → A) (k a : ℕ) → map g (tabulate f k a) ≡ tabulate (λ i. g (f i)) k a
map_tabulate g f zero a = refl
map_tabulate g f (suc k) a = ap (λ l. g (f a) ∷ l) (map_tabulate g f k (suc a))

pub get_d_tabulate :
    {A : Type 0} (f : ℕ → A) (k a i : ℕ) (d : A) → i < k → get_or (tabulate f k a) i d ≡ f (a + i)
get_d_tabulate f zero a i d h = absurd (omega arith)
get_d_tabulate f (suc k) a zero d h = ap f (same a)
  where
    same : (a : ℕ) → a ≡ a + 0
    same a = omega arith
get_d_tabulate f (suc k) a (suc i) d h = rw (along a i) (get_d_tabulate f k (suc a) i d (omega arith))

pub map-append : {A : Type 0} {B : Type 0} (g : A → B) (xs ys : List A) → map g (xs ++ ys) ≡ map g xs ++ map g ys
map-append g [] ys = refl
map-append g (x ∷ xs) ys = ap (λ l. g x ∷ l) (map-append g xs ys)

-- The members that pass a test

pub keep_append : {A : Type 0} (f : A → Bool) (xs ys : List A) → keep f (xs ++ ys) ≡ keep f xs ++ keep f ys
keep_append f [] ys = refl
keep_append f (x ∷ xs) ys = go (f x) (keep_append f xs ys)
  where
    go :
        (b : Bool)
        → keep f (xs ++ ys) ≡ keep f xs ++ keep f ys
        → cond b (x ∷ keep f (xs ++ ys)) (keep f (xs ++ ys)) ≡ cond b (x ∷ keep f xs) (keep f xs) ++ keep f ys
    go true ih = rw ih
    go false ih = ih

pub some_append : {A : Type 0} (f : A → Bool) (xs ys : List A) → some f (xs ++ ys) ≡ some f xs || some f ys
some_append f [] ys = refl
some_append f (x ∷ xs) ys = go (f x) (some_append f xs ys)
  where
    go : (b : Bool) → some f (xs ++ ys) ≡ some f xs || some f ys → b || some f (xs ++ ys) ≡ (b || some f xs) || some f ys
    go true ih = refl
    go false ih = ih

pub keep_all : {A : Type 0} (f : A → Bool) (l : List A) → Each (λ a. f a ≡ true) l → keep f l ≡ l
keep_all f [] e = refl
keep_all f (a ∷ l) e = rw (e.0, keep_all f l e.1)

-- two tests can be made in either order
pub keep_keep : {A : Type 0} (f g : A → Bool) (l : List A) → keep f (keep g l) ≡ keep g (keep f l)
keep_keep f g [] = refl
keep_keep f g (a ∷ l) = go (f a) (g a) refl refl (keep_keep f g l)
  where
    go :
        (x y : Bool)
        → f a ≡ x
        → g a ≡ y
        → keep f (keep g l) ≡ keep g (keep f l)
        → keep f (keep g (a ∷ l)) ≡ keep g (keep f (a ∷ l))
    go true true p q ih = simp (p, q, ih)
    go true false p q ih = rw (p, q, ih)
    go false true p q ih = simp (p, q, ih)
    go false false p q ih = rw (p, q, ih)

pub keep_none : {A : Type 0} (f : A → Bool) → ((a : A) → f a ≡ false) → (l : List A) → keep f l ≡ []
keep_none f h [] = refl
keep_none f h (a ∷ l) = rw (h a, keep_none f h l)

-- A property of each member

pub each_map : {A : Type 0} (P Q : A → Type 0) → ((a : A) → P a → Q a) → (l : List A) → Each P l → Each Q l
each_map P Q f [] e = tt
each_map P Q f (a ∷ l) e = (f a e.0, each_map P Q f l e.1)

pub each_both : {A : Type 0} (P Q : A → Type 0) (l : List A) → Each P l → Each Q l → Each (λ a. P a × Q a) l
each_both P Q [] d e = tt
each_both P Q (a ∷ l) d e = ((d.0, e.0), each_both P Q l d.1 e.1)

pub each_append : {A : Type 0} (P : A → Type 0) (l m : List A) → Each P l → Each P m → Each P (l ++ m)
each_append P [] m d e = e
each_append P (a ∷ l) m d e = (d.0, each_append P l m d.1 e)

pub each_right : {A : Type 0} (P : A → Type 0) (l m : List A) → Each P (l ++ m) → Each P m
each_right P [] m e = e
each_right P (a ∷ l) m e = each_right P l m e.1

pub each_keep :
    {A : Type 0} (P : A → Type 0) (f : A → Bool) (l : List A) → Each P l → Each (λ a. P a × (f a ≡ true)) (keep f l)
each_keep P f [] e = tt
each_keep P f (a ∷ l) e = go (f a) refl (each_keep P f l e.1)
  where
    go :
        (b : Bool)
        → f a ≡ b
        → Each (λ a. P a × (f a ≡ true)) (keep f l)
        → Each (λ a. P a × (f a ≡ true)) (cond b (a ∷ keep f l) (keep f l))
    go true p r = ((e.0, p), r)
    go false p r = r

pub kept_pass : {A : Type 0} (f : A → Bool) (l : List A) → Each (λ a. f a ≡ true) (keep f l)
kept_pass f [] = tt
kept_pass f (a ∷ l) = go (f a) refl (kept_pass f l)
  where
    go : (b : Bool) → f a ≡ b → Each (λ a. f a ≡ true) (keep f l) → Each (λ a. f a ≡ true) (cond b (a ∷ keep f l) (keep f l))
    go true p ih = (p, ih)
    go false p ih = ih

pub keep_each : {A : Type 0} (P : A → Type 0) (f : A → Bool) (l : List A) → Each P l → Each P (keep f l)
keep_each P f l e = each_map (λ a. P a × (f a ≡ true)) P (λ a p. p.0) (keep f l) (each_keep P f l e)

-- what each member of a list made by place has, each place has, and the other way round
pub each_tabulate :
    {A : Type 0} (P : A → Type 0) (f : ℕ → A) (k a : ℕ)
    → ((i : ℕ) → a ≤ i → i < a + k → P (f i))
    → Each P (tabulate f k a)
each_tabulate P f zero a h = tt
each_tabulate P f (suc k) a h =
    (h a (omega arith) (omega arith), each_tabulate P f k (suc a) (λ i p q. h i (omega arith) (omega arith)))

pub tabulate_each :
    {A : Type 0} (P : A → Type 0) (f : ℕ → A) (k a : ℕ)
    → Each P (tabulate f k a)
    → (i : ℕ)
    → a ≤ i
    → i < a + k
    → P (f i)
tabulate_each P f zero a e i p q = absurd (omega arith)
tabulate_each P f (suc k) a e i p q = go (below_or_not a i) (λ h. tabulate_each P f k (suc a) e.1 i h (omega arith))
  where
    go : (a < i) ⊎ (i ≤ a) → (a < i → P (f i)) → P (f i)
    go (inl h) rest = rest h
    go (inr h) rest = let same : i ≡ a = omega arith in rw same e.0

pub length_keep : {A : Type 0} (f : A → Bool) (l : List A) → length (keep f l) ≤ length l
length_keep f [] = omega arith
length_keep f (a ∷ l) = go (f a) (length_keep f l)
  where
    go : (b : Bool) → length (keep f l) ≤ length l → length (cond b (a ∷ keep f l) (keep f l)) ≤ suc (length l)
    go true h = omega arith
    go false h = omega arith
