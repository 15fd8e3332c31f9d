-- Numbers of up to four bytes, and their bytes.
use mathlib.Core.Path.{◌≡◌, refl}
use Prim.Native.Nat.{ℕ, zero, suc, ◌+◌, ◌-◌, ◌/◌, ◌≤◌, ◌<◌}
use mathlib.Core.Bool.{Bool, true, false, cond}
use mathlib.Core.List.{List, [], ◌∷◌}
use native.Mathlib.Omega.{arith}
use lib.Dec.{ltb}
use Rattle.layout.specs.Bytes.{byte_of, number_at, packed_from, packed}

pub byte_small : (j x : ℕ) → byte_of j x < 256
byte_small zero x = omega arith
byte_small (suc j) x = byte_small j (x / 256)

pub cond_small : (t : Bool) (x y : ℕ) → x < 256 → y < 256 → cond t x y < 256
cond_small true x y p q = p
cond_small false x y p q = q

packed_from_small : (a : ℕ) (fields : List (ℕ × ℕ)) (i : ℕ) → packed_from a fields i < 256
packed_from_small a [] i = omega arith
packed_from_small a (f ∷ fields) i =
    cond_small (ltb i (a + f.0)) (byte_of (i - a) f.1) (packed_from (a + f.0) fields i) (byte_small (i - a) f.1)
    (packed_from_small (a + f.0) fields i)

pub packed_small : (fields : List (ℕ × ℕ)) (i : ℕ) → packed fields i < 256
packed_small fields i = packed_from_small 0 fields i

-- a number from its bytes
pub four : (x : ℕ) → x < 4294967296 → number_at (λ j. byte_of j x) 0 4 ≡ x
four x h = omega arith

pub two : (x : ℕ) → x < 65536 → number_at (λ j. byte_of j x) 0 2 ≡ x
two x h = omega arith

pub one : (x : ℕ) → x < 256 → number_at (λ j. byte_of j x) 0 1 ≡ x
one x h = omega arith

pub number_same :
    (f g : ℕ → ℕ) (a n : ℕ) → ((i : ℕ) → a ≤ i → i < a + n → f i ≡ g i) → number_at f a n ≡ number_at g a n
number_same f g a zero h = refl
number_same f g a (suc n) h =
    omega (arith, h a (omega arith) (omega arith), number_same f g (suc a) n (λ i p q. h i (omega arith) (omega arith)))

-- a number further on
pub number_shifted : (f : ℕ → ℕ) (m a n : ℕ) → number_at (λ i. f (m + i)) a n ≡ number_at f (m + a) n
number_shifted f m a zero = refl
number_shifted f m a (suc n) =
    let e : m + suc a ≡ suc (m + a) = omega arith in
    rw (number_shifted f m (suc a) n, e)
