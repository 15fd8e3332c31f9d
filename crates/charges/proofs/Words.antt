-- The rules' words for lists in the library's words, which the code's chains are proved in.
use mathlib.Core.Path.{◌≡◌, refl, ap, sym, ◌∙◌}
use Prim.Native.Nat.{ℕ, zero, suc, ◌+◌, ◌≤◌, ◌<◌}
use mathlib.Core.Bool.{Bool, true, false, cond}
use mathlib.Core.List.{List, [], ◌∷◌, map}
use native.Mathlib.Omega.{arith}
use native.Mathlib.Numerals.{add-one}
use lib.ListN.{length, get_or, take, drop}
use lib.Seq.{drop-cons, take-length}
use Rattle.std.specs.List.{All, filter, list_any, position, position_from, remove}
use Rattle.std.specs.declared.option.Option.{Option}
use Rattle.std.specs.declared.option.Option.TheVariants.{Some}
use Rattle.std.proofs.lemmas.Iterator.Adapters.{position_from-zero}
use Rattle.std.proofs.lemmas.List.Elements.{All-append, All-take, All-drop}
use Rattle.rules.specs.Site.{places}
use Rattle.rules.specs.Basics.{at, first, keep, some, tabulate}
use Rattle.rules.proofs.Lists.{map_tabulate}
use Rattle.charges.specs.Arrays.{found_at}

pub keep_is : {A : Type 0} (f : A → Bool) (xs : List A) → keep f xs ≡ filter f xs
keep_is f [] = refl
keep_is f (x ∷ xs) = rw (keep_is f xs)

pub some_is : {A : Type 0} (f : A → Bool) (xs : List A) → some f xs ≡ list_any f xs
some_is f [] = refl
some_is f (x ∷ xs) = rw (some_is f xs)

-- the first place at which a test holds, among m places from the i-th on
first_from :
    (f : ℕ → Bool) (xs : List ℕ) (m i : ℕ)
    → i + m ≤ length xs
    → first (λ j. f (get_or xs j 0)) m i ≡ found_at (position_from f i (take m (drop i xs)))
first_from f xs zero i h = refl
first_from f xs (suc m) i h =
    rw (drop-cons xs i 0 (omega arith)) (go (f (get_or xs i 0)) (first_from f xs m (suc i) (omega arith)))
  where
    go :
        (b : Bool)
        → first (λ j. f (get_or xs j 0)) m (suc i) ≡ found_at (position_from f (suc i) (take m (drop (suc i) xs)))
        → elim b [ true ↦ at i | false ↦ first (λ j. f (get_or xs j 0)) m (suc i) ]
        ≡ found_at (cond b (Some i) (position_from f (i + 1) (take m (drop (suc i) xs))))
    go true ih = refl
    go false ih = rw (add-one i) ih

pub first_is :
    (f : ℕ → Bool) (xs : List ℕ) (n : ℕ) (r : Option ℕ)
    → n ≤ length xs
    → r ≡ position f (take n xs)
    → first (λ i. f (get_or xs i 0)) n 0 ≡ found_at r
first_is f xs n r h e =
    first_from f xs n 0 (omega arith) ∙ ap found_at (sym (position_from-zero f (take n xs)) ∙ sym e)

-- the first numbers of a column, place by place
take_from : (xs : List ℕ) (m i : ℕ) → i + m ≤ length xs → take m (drop i xs) ≡ tabulate (λ j. get_or xs j 0) m i
take_from xs zero i h = refl
take_from xs (suc m) i h = rw (drop-cons xs i 0 (omega arith), take_from xs m (suc i) (omega arith))

pub take_is : (xs : List ℕ) (n : ℕ) → n ≤ length xs → take n xs ≡ tabulate (λ j. get_or xs j 0) n 0
take_is xs n h = take_from xs n 0 (omega arith)

-- a list, place by place
pub map_is :
    {A : Type 0} (h : ℕ → A) (xs : List ℕ) → map h xs ≡ tabulate (λ j. h (get_or xs j 0)) (length xs) 0
map_is h xs =
    ap (map h) (sym (take-length xs) ∙ take_is xs (length xs) (omega arith)) ∙ map_tabulate h (λ j. get_or xs j 0) (length xs) 0

-- where a place is taken out, the others stay below 180
pub removed_below :
    (is rest : List ℕ) (i : ℕ) → rest ≡ remove is i → All (λ j. j < places) is → All (λ j. j < places) rest
removed_below is rest i e h =
    let below : ℕ → Type 0 = λ j. j < places in
    rw e (All-append below (take i is) (drop (suc i) is) (All-take below i is h) (All-drop below (suc i) is h))
