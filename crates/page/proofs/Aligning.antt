-- Texts at the right of a column, and how long they are.
use mathlib.Core.Path.{◌≡◌, refl, sym, ap, ◌∙◌}
use mathlib.Core.List.{List, [], ◌∷◌, ◌++◌, append_assoc}
use Prim.Native.Nat.{ℕ, zero, suc, ◌+◌, ◌-◌, ◌^◌, ◌≤◌, ◌<◌}
use native.Mathlib.Omega.{arith}
use lib.ListN.{length, take, drop, replicate, length-append}
use lib.Seq.{take-append_seam}
use Rattle.std.proofs.lemmas.Fmt.{length-decimal-le}
use Rattle.std.proofs.lemmas.List.{take-append-drop, take-replicate}
use Rattle.text.specs.Numbers.{decimal}
use Rattle.text.proofs.Values.{same_digits}
use Rattle.rules.specs.Charge.{Charge}
use Rattle.page.specs.Lines.{spaces, at_right, at_left, column}
use Rattle.page.specs.Lined.{ChargeFits}

-- spaces are what the library fills places with
pub spaces_filled : (n : ℕ) → spaces n ≡ replicate n 32
spaces_filled zero = refl
spaces_filled (suc n) = ap (λ (l : List ℕ). 32 ∷ l) (spaces_filled n)

pub length_spaces : (n : ℕ) → length (spaces n) ≡ n
length_spaces zero = refl
length_spaces (suc n) = ap suc (length_spaces n)

-- a text that fits fills its column
pub length_right : (width : ℕ) (text : List ℕ) → length text ≤ width → length (at_right width text) ≡ width
length_right width text h =
    length-append (spaces (width - length text)) text ∙ omega (arith, length_spaces (width - length text))

pub length_left : (width : ℕ) (text : List ℕ) → length text ≤ width → length (at_left width text) ≡ width
length_left width text h =
    length-append text (spaces (width - length text)) ∙ omega (arith, length_spaces (width - length text))

pub length_column : (width : ℕ) (text : List ℕ) → length text ≤ width → length (column width text) ≡ width + 1
length_column width text h =
    length-append (at_right width text) (32 ∷ []) ∙ omega (arith, length_right width text h)

-- a text that is put into spaces so that it ends where the column does
pub right_put :
    (text : List ℕ) (width room start : ℕ) (place : List ℕ) → width ≤ room → start + length text ≡ width
    → drop start place ≡ text ++ drop width (replicate room 32) → take start place ≡ take start (replicate room 32)
    → take width place ≡ at_right width text
right_put text width room start place h size written before =
    let left : start ≡ width - length text = omega arith in
    let spaced : take start place ≡ spaces (width - length text) = before ∙ take-replicate start room 32 (omega arith) ∙ rw (left, spaces_filled (width - length text)) in
    let whole : place ≡ at_right width text ++ drop width (replicate room 32) =
    sym (take-append-drop start place) ∙ rw (spaced, written, append_assoc (spaces (width - length text)) text (drop width (replicate room 32))) in
    let fills : length (at_right width text) ≡ width = length_right width text (omega arith) in
    rw whole (ap (λ k. take k (at_right width text ++ drop width (replicate room 32))) (sym fills) ∙ take-append_seam (at_right width text) (drop width (replicate room 32)))

-- a number below 10 ^ k has at most k digits
few_digits : (k n : ℕ) → n < 10 ^ suc k → n < 2 ^ 64 → length (decimal n) ≤ suc k
few_digits k n h l = rw (← same_digits n l) (length-decimal-le (suc k) n (omega arith) h l)

-- the numbers of a charge have no more digits than their columns have places
module _ {c : Charge} (f : ChargeFits c) where
  pub ticket_digits : length (decimal c.ticket) ≤ 6
  ticket_digits = few_digits 5 c.ticket f.ticket_small (omega (arith, f.ticket_small))

  pub line_digits : length (decimal c.line) ≤ 1
  line_digits = few_digits 0 c.line f.line_small (omega (arith, f.line_small))

  pub start_digits : length (decimal c.start) ≤ 9
  start_digits = few_digits 8 c.start (omega (arith, f.start_small)) (omega (arith, f.start_small))

  -- whichever of the two times of the charge it counts
  pub end_digits : (time : ℕ) → time ≤ 1445 → length (decimal (c.start + time)) ≤ 9
  end_digits time h = few_digits 8 (c.start + time) (omega (arith, f.start_small, h)) (omega (arith, f.start_small, h))
