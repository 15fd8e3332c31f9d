-- The value of a word, digit by digit, over a part of a text; and that the digits of a number are read back as that number.
use mathlib.Core.Path.{◌≡◌, refl, sym, ap, ◌∙◌}
use mathlib.Core.Logic.{⊎_elim}
use mathlib.Core.Bool.{true, false, false≢true, cond}
use mathlib.Core.List.{List, [], ◌∷◌, ◌++◌, append_assoc, append-nil}
use Prim.Native.Nat.{ℕ, zero, suc, ◌+◌, ◌-◌, ◌*◌, ◌/◌, ◌%◌, ◌^◌, ◌≤◌, ◌<◌, min, zero-le}
use native.Mathlib.Nat.{pow-succ'}
use native.Mathlib.Numerals.{add-one}
use native.Mathlib.Omega.{arith}
use borrow.Author.Tests.{lt-ltb, le-ltb, le-leb, eqb-true}
use lib.Dec.{ltb, eqb}
use lib.ListN.{length, drop, get_or, length-append, drop_of_length-le}
use lib.Seq.{drop-cons}
use Rattle.rules.proofs.Ranges.{below_or_not}
use Rattle.std.specs.Fmt.{decimal as printed}
use Rattle.std.proofs.lemmas.Fmt.{decimal_by_steps}
use Rattle.text.specs.Numbers.{is_digit, value_from, number_of, digits_within, decimal}
use Rattle.text.specs.LawsOfNumbers.{PrintedIsReadBack, LibraryPrintsDigits, TwentyDigitsSuffice}
use Rattle.text.specs.declared.number.NumberError.{NumberError}
use Rattle.text.specs.declared.number.NumberError.TheVariants.{NotANumber, TooLarge}
use Rattle.std.specs.Prelude.{Result, Ok, Err}
use Rattle.std.specs.Result.{OkIff, MatchResult, IsErrAnd}

-- past 32 bits the digits so far no longer matter
too_large_stays :
    (n m : ℕ) (bs : List ℕ) → 4294967296 ≤ n → 4294967296 ≤ m → value_from n bs ≡ value_from m bs
unfolding value_from
too_large_stays n m [] p q = rw (le-ltb n 4294967296 p, le-ltb m 4294967296 q)
too_large_stays n m (b ∷ bs) p q =
    rw (too_large_stays (10 * n + (b - 48)) (10 * m + (b - 48)) bs (omega arith) (omega arith))

-- so that a sum that stays at the largest number of 64 bits says the same
pub digit_kept :
    (n d m : ℕ) (bs : List ℕ) → m ≡ min (min (n * 10) 18446744073709551615 + d) 18446744073709551615
    → value_from (10 * n + d) bs ≡ value_from m bs
digit_kept n d m bs e =
    ⊎_elim
    (λ h. let same : 10 * n + d ≡ m = omega arith in ap (λ k. value_from k bs) same)
    (λ h. too_large_stays (10 * n + d) m bs (omega arith) (omega arith))
    (below_or_not (10 * n + d) 18446744073709551616)

pub no_word : (text : List ℕ) → eqb (length text) 0 ≡ true → number_of text ≡ Err NotANumber
unfolding number_of
no_word [] e = refl
no_word (b ∷ bs) e = absurd (omega (arith, eqb-true (length (b ∷ bs)) 0 e))

pub some_word : (text : List ℕ) → eqb (length text) 0 ≡ false → number_of text ≡ value_from 0 text
unfolding number_of
some_word [] e = absurd (false≢true (sym e))
some_word (b ∷ bs) e = refl

module _ (n i : ℕ) (text : List ℕ) (h : i < length text) where
  pub a_digit :
      is_digit (get_or text i 0) ≡ true
      → value_from n (drop i text) ≡ value_from (10 * n + (get_or text i 0 - 48)) (drop (i + 1) text)
  unfolding value_from
  a_digit e = rw (drop-cons text i 0 h, e, add-one i)

  pub no_digit : is_digit (get_or text i 0) ≡ false → value_from n (drop i text) ≡ Err NotANumber
  unfolding value_from
  no_digit e = rw (drop-cons text i 0 h, e)

-- no digit is left
pub value_left :
    (n i : ℕ) (text : List ℕ) → length text ≤ i → value_from n (drop i text) ≡ cond (ltb n 4294967296) (Ok n) (Err TooLarge)
unfolding value_from
value_left n i text h = rw (drop_of_length-le text h)

-- the number of 32 bits, where there is one
pub settled :
    {E : Type 0} (n : ℕ) (r : Result ℕ E) (read : Result ℕ NumberError) → OkIff r (n < 4294967296) n
    → MatchResult r (λ m. read ≡ Ok m) (λ _. IsErrAnd read (λ e. e ≡ TooLarge)) → read ≡ cond (ltb n 4294967296) (Ok n) (Err TooLarge)
settled n (Ok m) read h k = k ∙ rw (lt-ltb n 4294967296 h.0, h.1)
settled n (Err x) (Ok m) h k = absurd k
settled n (Err x) (Err e) h k = rw (le-ltb n 4294967296 (omega arith), k)

-- The digits of a number

tenth_below : (k n : ℕ) → n < 10 ^ suc k → n / 10 < 10 ^ k
tenth_below k n h =
    let e : n < 10 * 10 ^ k = rw (pow-succ' 10 k) at h in
    omega arith

one_digit : (k n : ℕ) → n < 10 → digits_within (suc k) n ≡ (48 + n) ∷ []
unfolding digits_within
one_digit k n h = rw (lt-ltb n 10 h)

more_digits :
    (k n : ℕ) → 10 ≤ n → digits_within (suc k) n ≡ digits_within k (n / 10) ++ ((48 + n % 10) ∷ [])
unfolding digits_within
more_digits k n h = rw (le-ltb n 10 h)

-- where k digits are enough, so is one more
enough : (k n : ℕ) → n < 10 ^ suc k → digits_within (suc k) n ≡ digits_within (suc (suc k)) n
enough zero n h = let small : n < 10 = omega arith in rw (one_digit 0 n small, one_digit 1 n small)
enough (suc k) n h =
    ⊎_elim
    (λ small. rw (one_digit (suc k) n small, one_digit (suc (suc k)) n small))
    (λ large. rw (more_digits (suc k) n large, more_digits (suc (suc k)) n large, enough k (n / 10) (tenth_below (suc k) n h)))
    (below_or_not n 10)

decimal_small : (n : ℕ) → n < 10 → decimal n ≡ (48 + n) ∷ []
decimal_small n h = one_digit 19 n h

decimal_more : (n : ℕ) → 10 ≤ n → n < 2 ^ 64 → decimal n ≡ decimal (n / 10) ++ ((48 + n % 10) ∷ [])
decimal_more n h k =
    more_digits 19 n h ∙ rw (enough 18 (n / 10) (omega arith))

-- they are what the library prints
pub same_digits : LibraryPrintsDigits
same_digits n h =
    decimal_by_steps
    (λ m ds. m < 2 ^ 64 → ds ≡ decimal m)
    (λ m small k. sym (decimal_small m small))
    (λ m ds large e k. rw (e (omega arith)) (sym (decimal_more m large k)))
    n h h

-- so what the library prints of m has the digits of n, where m is n
pub digits_printed : {bytes : List ℕ} {m : ℕ} (n : ℕ) → bytes ≡ printed m → m < 2 ^ 64 → m ≡ n → bytes ≡ decimal n
digits_printed {m = m} n same h is = same ∙ same_digits m h ∙ ap decimal is

length_digits : (k n : ℕ) → length (digits_within k n) ≤ k
unfolding digits_within
length_digits zero n = zero-le
length_digits (suc k) n =
    ⊎_elim
    (λ h. rw (lt-ltb n 10 h) (omega arith))
    (λ h. rw (le-ltb n 10 h, length-append) (omega (arith, length_digits k (n / 10))))
    (below_or_not n 10)

pub length_decimal : TwentyDigitsSuffice
length_decimal n = length_digits 20 n

-- the digits of n are worth n
digits_worth : (k n : ℕ) (bs : List ℕ) → n < 10 ^ k → value_from 0 (digits_within k n ++ bs) ≡ value_from n bs
unfolding value_from digits_within
digits_worth zero n bs h = let e : n ≡ 0 = omega arith in rw e
digits_worth (suc k) n bs h =
    ⊎_elim
    (λ small. rw (one_digit k n small, le-leb 48 (48 + n) (omega arith), le-leb (48 + n) 57 (omega arith), first_digit n))
    (λ large. rw (more_digits k n large, append_assoc (digits_within k (n / 10)) ((48 + n % 10) ∷ []) bs, digits_worth k (n / 10) ((48 + n % 10) ∷ bs) (tenth_below k n h), le-leb 48 (48 + n % 10) (omega arith), le-leb (48 + n % 10) 57 (omega arith), last_digit n))
    (below_or_not n 10)
  where
    first_digit : (n : ℕ) → 10 * 0 + (48 + n - 48) ≡ n
    first_digit n = omega arith

    last_digit : (n : ℕ) → 10 * (n / 10) + (48 + n % 10 - 48) ≡ n
    last_digit n = omega arith

digits_some : (k n : ℕ) (bs : List ℕ) → number_of (digits_within (suc k) n ++ bs) ≡ value_from 0 (digits_within (suc k) n ++ bs)
unfolding number_of digits_within
digits_some zero n bs =
    ⊎_elim (λ h. rw (lt-ltb n 10 h)) (λ h. rw (le-ltb n 10 h)) (below_or_not n 10)
digits_some (suc k) n bs =
    ⊎_elim
    (λ h. rw (lt-ltb n 10 h))
    (λ h. rw (more_digits (suc k) n h, append_assoc (digits_within (suc k) (n / 10)) ((48 + n % 10) ∷ []) bs) (digits_some k (n / 10) ((48 + n % 10) ∷ bs)))
    (below_or_not n 10)

pub read_back : PrintedIsReadBack
unfolding value_from
read_back n h =
    rw (← append-nil (decimal n), digits_some 19 n [], digits_worth 20 n [] (omega arith), lt-ltb n 4294967296 h)
