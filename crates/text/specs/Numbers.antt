-- Decimal numbers: the value of a word, and the digits of a number. Bytes are numbers: 48 is `0`, 57 is `9`.
use Rattle.std.specs.Prelude.{ℕ, zero, suc, ◌+◌, ◌-◌, ◌*◌, ◌/◌, ◌%◌, Bool, cond, ◌&&◌, List, [], ◌∷◌, ◌++◌, ltb, leb, Result, Ok, Err}
use Rattle.text.specs.declared.number.NumberError.{NumberError}
use Rattle.text.specs.declared.number.NumberError.TheVariants.{NotANumber, TooLarge}

abbrev pub is_digit : ℕ → Bool
is_digit b = leb 48 b && leb b 57

-- the digits that are left of a word, where those before them are worth n
unfoldable pub value_from : ℕ → List ℕ → Result ℕ NumberError
value_from n [] = cond (ltb n 4294967296) (Ok n) (Err TooLarge)
value_from n (b ∷ bs) = cond (is_digit b) (value_from (10 * n + (b - 48)) bs) (Err NotANumber)

-- the value of a word
unfoldable pub number_of : List ℕ → Result ℕ NumberError
number_of [] = Err NotANumber
number_of (b ∷ bs) = value_from 0 (b ∷ bs)

-- the digits of n, the most significant first, where k are enough
unfoldable pub digits_within : ℕ → ℕ → List ℕ
digits_within zero n = []
digits_within (suc k) n = cond (ltb n 10) ((48 + n) ∷ []) (digits_within k (n / 10) ++ ((48 + n % 10) ∷ []))

-- 20 digits are enough for 64 bits
abbrev pub decimal : ℕ → List ℕ
decimal n = digits_within 20 n
