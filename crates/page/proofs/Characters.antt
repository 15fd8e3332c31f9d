-- What is printed are characters: spaces, digits, and what stands in a column.
use mathlib.Core.Path.{◌≡◌}
use mathlib.Core.Logic.{⊎_elim}
use mathlib.Core.Bool.{Bool, true, ◌&&◌}
use mathlib.Core.List.{List, [], ◌∷◌}
use Prim.Native.Nat.{ℕ, zero, suc, ◌+◌, ◌-◌, ◌/◌, ◌%◌, ◌<◌}
use native.Mathlib.Omega.{arith}
use lib.Dec.{leb}
use lib.ListN.{length}
use borrow.Author.Tests.{leb-true, lt-ltb, le-ltb}
use Rattle.rules.specs.Basics.{Each}
use Rattle.rules.proofs.Lists.{each_append}
use Rattle.rules.proofs.Ranges.{and_left, and_right, below_or_not}
use Rattle.text.specs.Numbers.{digits_within, decimal}
use Rattle.page.specs.Lines.{spaces, at_right, at_left, column}
use Rattle.page.specs.Lined.{Character}

pub spaces_shown : (n : ℕ) → Each Character (spaces n)
spaces_shown zero = tt
spaces_shown (suc n) = ((omega arith, omega arith), spaces_shown n)

-- what holds of each digit holds of all those of a number
pub digits_each : (P : ℕ → Type 0) → ((digit : ℕ) → digit < 10 → P (48 + digit)) → (k n : ℕ) → Each P (digits_within k n)
unfolding digits_within
digits_each P h zero n = tt
digits_each P h (suc k) n =
    ⊎_elim
    (λ l. rw (lt-ltb n 10 l) (h n l, tt))
    (λ l. rw (le-ltb n 10 l) (each_append P (digits_within k (n / 10)) ((48 + n % 10) ∷ []) (digits_each P h k (n / 10)) (h (n % 10) (omega arith), tt)))
    (below_or_not n 10)

pub decimal_shown : (n : ℕ) → Each Character (decimal n)
decimal_shown n = digits_each Character (λ digit l. (omega arith, omega arith)) 20 n

pub column_shown : (width : ℕ) (text : List ℕ) → Each Character text → Each Character (column width text)
column_shown width text h =
    each_append Character (at_right width text) (32 ∷ [])
    (each_append Character (spaces (width - length text)) text (spaces_shown (width - length text)) h)
    ((omega arith, omega arith), tt)

pub left_shown : (width : ℕ) (text : List ℕ) → Each Character text → Each Character (at_left width text)
left_shown width text h =
    each_append Character text (spaces (width - length text)) h (spaces_shown (width - length text))

-- whether all bytes of a text are characters
abbrev are_characters : List ℕ → Bool
are_characters [] = true
are_characters (b ∷ bs) = leb 32 b && (leb b 122 && are_characters bs)

pub characters : (text : List ℕ) → are_characters text ≡ true → Each Character text
characters [] h = tt
characters (b ∷ bs) h =
    let rest : (leb b 122 && are_characters bs) ≡ true = and_right (leb 32 b) (leb b 122 && are_characters bs) h in (
      (leb-true 32 b (and_left (leb 32 b) (leb b 122 && are_characters bs) h), leb-true b 122 (and_left (leb b 122) (are_characters bs) rest)),
      characters bs (and_right (leb b 122) (are_characters bs) rest),
    )
