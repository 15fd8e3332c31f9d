-- Numbers that rise along a list, place by place.
use mathlib.Core.Path.{◌≡◌, refl, sym}
use Prim.Native.Nat.{ℕ, zero, suc, ◌+◌, ◌≤◌, ◌<◌}
use mathlib.Core.Bool.{Bool, true, false}
use mathlib.Core.List.{List, [], ◌∷◌}
use native.Mathlib.Omega.{arith}
use lib.Dec.{leb, ltb}
use Rattle.std.specs.List.{IsAllAdjacentAnswer}
use lib.ListN.{length, get_or}
use borrow.Author.Tests.{leb-true, le-leb, ltb-true, ltb-false}
use Rattle.rules.specs.Calls.{rises_from}
use Rattle.rules.proofs.Ranges.{and_left, and_right}

-- Each number is above those before it

rises_low : (a : ℕ) (xs : List ℕ) → rises_from a xs ≡ true → (j : ℕ) → j < length xs → a ≤ get_or xs j 0
rises_low a [] e j h = absurd (omega arith)
rises_low a (x ∷ xs) e zero h = leb-true a x (and_left (leb a x) (rises_from (suc x) xs) e)
rises_low a (x ∷ xs) e (suc j) h =
    omega (
      arith,
      leb-true a x (and_left (leb a x) (rises_from (suc x) xs) e),
      rises_low (suc x) xs (and_right (leb a x) (rises_from (suc x) xs) e) j (omega arith),
    )

pub rises_apart :
    (a : ℕ) (xs : List ℕ) → rises_from a xs ≡ true → (i j : ℕ) → i < j → j < length xs → get_or xs i 0 < get_or xs j 0
rises_apart a [] e i j h l = absurd (omega arith)
rises_apart a (x ∷ xs) e i zero h l = absurd (omega arith)
rises_apart a (x ∷ xs) e zero (suc j) h l = rises_low (suc x) xs (and_right (leb a x) (rises_from (suc x) xs) e) j (omega arith)
rises_apart a (x ∷ xs) e (suc i) (suc j) h l =
    rises_apart (suc x) xs (and_right (leb a x) (rises_from (suc x) xs) e) i j (omega arith) (omega arith)

-- Each is above the one before it

rises_above :
    (a : ℕ) (xs : List ℕ)
    → (0 < length xs → a ≤ get_or xs 0 0)
    → ((k : ℕ) → k + 1 < length xs → get_or xs k 0 < get_or xs (k + 1) 0)
    → rises_from a xs ≡ true
rises_above a [] low h = refl
rises_above a (x ∷ xs) low h =
    rw (le-leb a x (low (omega arith)))
    (rises_above (suc x) xs (λ l. h 0 (omega arith)) (λ k l. let e : suc k + 1 ≡ suc (k + 1) = omega arith in rw e at (h (suc k) (omega arith))))

-- what the library says of neighbours that were compared
pub rises_answer : (xs : List ℕ) {ys : List ℕ} (r : Bool) → IsAllAdjacentAnswer (λ x y b. b ≡ ltb x y) ys r → ys ≡ xs → r ≡ rises_from 0 xs
rises_answer xs r h e = answer r (rw e at h)
  where
    answer : (r : Bool) → IsAllAdjacentAnswer (λ x y b. b ≡ ltb x y) xs r → r ≡ rises_from 0 xs
    answer true h = sym (rises_above 0 xs (λ l. omega arith) (λ k l. ltb-true (get_or xs k 0) (get_or xs (k + 1) 0) (sym (h k 0 l))))
    answer false h = go (rises_from 0 xs) refl
      where
        go : (b : Bool) → rises_from 0 xs ≡ b → false ≡ b
        go false e = refl
        go true e =
            absurd (omega (arith, ltb-false (get_or xs h.0 0) (get_or xs (h.0 + 1) 0) (sym (h.2 0)), rises_apart 0 xs e h.0 (h.0 + 1) (omega arith) h.1))
