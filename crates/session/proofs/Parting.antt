-- The requests of a text and of one after it.
use mathlib.Core.Path.{◌≡◌, refl, sym}
use mathlib.Core.Bool.{Bool, true, false, cond}
use mathlib.Core.List.{List, [], ◌∷◌, ◌++◌, append_assoc}
use Prim.Native.Nat.{ℕ, zero, suc}
use native.Mathlib.Omega.{arith}
use lib.Dec.{eqb}
use lib.ListN.{take}
use Rattle.text.specs.Parts.{joined, split}

abbrev pub Some : List (List ℕ) → Type 0
Some [] = ⊥
Some (request ∷ requests) = Unit {0}

-- the last request of those before goes on
abbrev pub onto : List (List ℕ) → List (List ℕ) → List (List ℕ)
onto [] more = more
onto (request ∷ []) more = joined request more
onto (request ∷ (next ∷ requests)) more = request ∷ onto (next ∷ requests) more

pub joined-some : (text : List ℕ) (requests : List (List ℕ)) → Some (joined text requests)
joined-some text [] = tt
joined-some text (request ∷ requests) = tt

pub split_some : (b : ℕ) (bytes : List ℕ) → Some (split b bytes)
unfolding split
split_some b [] = tt
split_some b (x ∷ xs) = go (eqb x b)
  where
    go : (t : Bool) → Some (cond t ([] ∷ split b xs) (joined (x ∷ []) (split b xs)))
    go true = tt
    go false = joined-some (x ∷ []) (split b xs)

joined-none : (requests : List (List ℕ)) → Some requests → joined [] requests ≡ requests
joined-none [] h = absurd h
joined-none (request ∷ requests) h = refl

onto_cons : (request : List ℕ) (requests more : List (List ℕ)) → Some requests → onto (request ∷ requests) more ≡ request ∷ onto requests more
onto_cons request [] more h = absurd h
onto_cons request (next ∷ requests) more h = refl

joined_joined : (text request : List ℕ) (more : List (List ℕ)) → joined text (joined request more) ≡ joined (text ++ request) more
joined_joined text request [] = refl
joined_joined text request (m ∷ ms) = rw (append_assoc text request m)

onto_joined :
    (text : List ℕ) (requests more : List (List ℕ)) → Some requests → joined text (onto requests more) ≡ onto (joined text requests) more
onto_joined text [] more h = absurd h
onto_joined text (request ∷ []) more h = joined_joined text request more
onto_joined text (request ∷ (next ∷ requests)) more h = refl

pub split_onto : (b : ℕ) (xs ys : List ℕ) → split b (xs ++ ys) ≡ onto (split b xs) (split b ys)
unfolding split
split_onto b [] ys = sym (joined-none (split b ys) (split_some b ys))
split_onto b (x ∷ xs) ys = go (eqb x b) (split_onto b xs ys)
  where
    go :
        (t : Bool) → split b (xs ++ ys) ≡ onto (split b xs) (split b ys)
        → cond t ([] ∷ split b (xs ++ ys)) (joined (x ∷ []) (split b (xs ++ ys)))
        ≡ onto (cond t ([] ∷ split b xs) (joined (x ∷ []) (split b xs))) (split b ys)
    go true ih = rw (ih, onto_cons [] (split b xs) (split b ys) (split_some b xs))
    go false ih = rw ih (onto_joined (x ∷ []) (split b xs) (split b ys) (split_some b xs))

pub onto_some : (requests more : List (List ℕ)) → Some requests → Some (onto requests more)
onto_some [] more h = absurd h
onto_some (request ∷ []) more h = joined-some request more
onto_some (request ∷ (next ∷ requests)) more h = tt

-- A request has no line feed

abbrev pub Whole : List ℕ → Type 0
Whole request = split 10 request ≡ request ∷ []

abbrev pub Wholes : List (List ℕ) → Type 0
Wholes [] = Unit {0}
Wholes (request ∷ requests) = Whole request × Wholes requests

pub split_wholes : (bytes : List ℕ) → Wholes (split 10 bytes)
unfolding split
split_wholes [] = (refl, tt)
split_wholes (x ∷ xs) = go (eqb x 10) refl (split_wholes xs)
  where
    more : eqb x 10 ≡ false → (requests : List (List ℕ)) → Wholes requests → Wholes (joined (x ∷ []) requests)
    more e [] h = (rw e, tt)
    more e (request ∷ requests) h = (rw (e, h.0), h.1)

    go :
        (t : Bool) → eqb x 10 ≡ t → Wholes (split 10 xs)
        → Wholes (cond t ([] ∷ split 10 xs) (joined (x ∷ []) (split 10 xs)))
    go true e ih = (refl, ih)
    go false e ih = more e (split 10 xs) ih

pub take_whole : (n : ℕ) (request : List ℕ) → Whole request → Whole (take n request)
unfolding split
take_whole zero request h = refl
take_whole (suc n) [] h = refl
take_whole (suc n) (x ∷ xs) h = go (eqb x 10) refl (take_whole n xs)
  where
    inner : (requests : List (List ℕ)) → joined (x ∷ []) requests ≡ (x ∷ xs) ∷ [] → Some requests → requests ≡ xs ∷ []
    inner [] e o = absurd o
    inner (request ∷ requests) e o = cc

    go : (t : Bool) → eqb x 10 ≡ t → (Whole xs → Whole (take n xs)) → Whole (x ∷ take n xs)
    go true e ih =
        let f : [] ∷ split 10 xs ≡ (x ∷ xs) ∷ [] = rw e at h in let z : ◌≡◌ {A = ℕ} 0 1 = cc in absurd (omega arith)
    go false e ih =
        let f : joined (x ∷ []) (split 10 xs) ≡ (x ∷ xs) ∷ [] = rw e at h in
        rw (e, ih (inner (split 10 xs) f (split_some 10 xs)))
