-- Numbers as bytes: "Multi-byte numbers are little-endian."
use Rattle.std.specs.Prelude.{ℕ, zero, suc, ◌+◌, ◌-◌, ◌*◌, ◌/◌, ◌%◌, cond, List, [], ◌∷◌, ltb}

-- byte j of a number, the lowest first
abbrev pub byte_of : ℕ → ℕ → ℕ
byte_of zero x = x % 256
byte_of (suc j) x = byte_of j (x / 256)

-- the number whose n bytes stand at f from place a on
abbrev pub number_at : (ℕ → ℕ) → ℕ → ℕ → ℕ
number_at f a zero = 0
number_at f a (suc n) = f a + 256 * number_at f (suc a) n

-- Byte i of fields one after another from place a on, each a width in bytes and a number. "All else is zero."
abbrev pub packed_from : ℕ → List (ℕ × ℕ) → ℕ → ℕ
packed_from a [] i = 0
packed_from a (field ∷ fields) i =
    cond (ltb i (a + field.0)) (byte_of (i - a) field.1) (packed_from (a + field.0) fields i)

abbrev pub packed : List (ℕ × ℕ) → ℕ → ℕ
packed fields i = packed_from 0 fields i
