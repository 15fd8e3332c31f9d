-- Lists by place, and tests over the first numbers.
use mathlib.Core.Logic.{◌⊎◌, inl, inr}
use mathlib.Core.Path.{◌≡◌, refl, sym, ◌∙◌}
use Prim.Native.Nat.{ℕ, zero, suc, ◌+◌, ◌≤◌, ◌<◌}
use mathlib.Core.Bool.{Bool, true, false, true≢false}
use mathlib.Core.List.{List, [], ◌∷◌, ◌++◌}
use native.Mathlib.Omega.{arith}
use native.Mathlib.Numerals.{add-one}
use lib.ListN.{length, get_or, length-append, get_or-append}
use lib.Seq.{get_or_at, ext_get_or}
use Rattle.rules.proofs.Ranges.{and_left, and_right, and_both, fails, below_or_not}
use Rattle.layout.specs.Lists.{listed, every}

-- Lists by place

pub length-listed : (f : ℕ → ℕ) (n : ℕ) → length (listed f n) ≡ n
unfolding listed
length-listed f zero = refl
length-listed f (suc n) = omega (arith, length-append (listed f n) (f n ∷ []), length-listed f n)

pub get_d_listed : (f : ℕ → ℕ) (n k : ℕ) → k < n → get_or (listed f n) k 0 ≡ f k
unfolding listed
get_d_listed f zero k h = absurd (omega arith)
get_d_listed f (suc n) k h = go (below_or_not k n) (get_d_listed f n k)
  where
    go : (k < n) ⊎ (n ≤ k) → (k < n → get_or (listed f n) k 0 ≡ f k) → get_or (listed f n ++ (f n ∷ [])) k 0 ≡ f k
    go (inl l) ih = get_or-append (listed f n) (f n ∷ []) 0 k (omega (arith, length-listed f n)) ∙ ih l
    go (inr l) ih =
        let e : k ≡ n = omega arith in
        rw e (get_or_at (listed f n) (f n) [] 0 n (length-listed f n))

-- a list that has f at each place
pub is_listed :
    (f : ℕ → ℕ) (n : ℕ) (xs : List ℕ) → length xs ≡ n → ((k : ℕ) → k < n → get_or xs k 0 ≡ f k) → xs ≡ listed f n
is_listed f n xs e h =
    ext_get_or 0 xs (listed f n) (e ∙ sym (length-listed f n))
    (λ k l. h k (omega arith) ∙ sym (get_d_listed f n k (omega arith)))

-- A test at each of the first numbers

pub every_none : (f : ℕ → Bool) → every f 0 ≡ true
unfolding every
every_none f = refl

pub every_more : (f : ℕ → Bool) (n : ℕ) → every f n ≡ true → f n ≡ true → every f (n + 1) ≡ true
unfolding every
every_more f n p q = rw (add-one n) (and_both (every f n) (f n) p q)

pub every_at : (f : ℕ → Bool) (n : ℕ) → every f n ≡ true → (k : ℕ) → k < n → f k ≡ true
unfolding every
every_at f zero e k h = absurd (omega arith)
every_at f (suc n) e k h = go (below_or_not k n) (every_at f n (and_left (every f n) (f n) e) k)
  where
    go : (k < n) ⊎ (n ≤ k) → (k < n → f k ≡ true) → f k ≡ true
    go (inl l) ih = ih l
    go (inr l) ih = let s : k ≡ n = omega arith in rw s (and_right (every f n) (f n) e)

pub every_all : (f : ℕ → Bool) (n : ℕ) → ((k : ℕ) → k < n → f k ≡ true) → every f n ≡ true
unfolding every
every_all f zero h = refl
every_all f (suc n) h =
    and_both (every f n) (f n) (every_all f n (λ k l. h k (omega arith))) (h n (omega arith))

pub every_not : (f : ℕ → Bool) (n k : ℕ) → k < n → f k ≡ false → every f n ≡ false
every_not f n k h e = fails (every f n) (λ t. true≢false (sym (every_at f n t k h) ∙ e))
