-- The ticket that a line shows: that of its charge in a row, and none in the heading and an unused row.
use mathlib.Core.Path.{◌≡◌, refl, sym, ap, ◌∙◌}
use mathlib.Core.List.{List, [], ◌∷◌, ◌++◌, append_assoc}
use Prim.Native.Nat.{ℕ, zero, suc, ◌-◌, ◌≤◌}
use native.Mathlib.Omega.{arith}
use lib.ListN.{length, take}
use lib.Seq.{take-append_seam}
use borrow.Author.Tests.{ne_eqb}
use Rattle.rules.specs.Basics.{Each}
use Rattle.rules.specs.Charge.{Charge, end_of, is_begun}
use Rattle.text.specs.Numbers.{value_from, number_of, decimal}
use Rattle.text.specs.declared.number.NumberError.{NumberError}
use Rattle.text.specs.declared.number.NumberError.TheVariants.{NotANumber}
use Rattle.std.specs.Prelude.{Result, Ok, Err}
use Rattle.text.proofs.Values.{read_back}
use Rattle.page.specs.Lines.{spaces, at_right, at_left, column, columns, heading, state_of, row, blank}
use Rattle.page.specs.Lined.{ChargeFits}
use Rattle.page.specs.LawsOfPages.{after_spaces, ticket_in}
use Rattle.page.proofs.Aligning.{length_right, ticket_digits}
use Rattle.page.proofs.Characters.{digits_each}

no_spaces : (xs : List ℕ) → Each (λ b. 48 ≤ b) xs → after_spaces xs ≡ xs
no_spaces [] e = refl
no_spaces (b ∷ bs) e = rw (ne_eqb b 32 (λ f. omega (arith, e.0)))

spaces_passed : (n : ℕ) (xs : List ℕ) → after_spaces (spaces n ++ xs) ≡ after_spaces xs
spaces_passed zero xs = refl
spaces_passed (suc n) xs = spaces_passed n xs

digits_high : (n : ℕ) → Each (λ b. 48 ≤ b) (decimal n)
digits_high n = digits_each (λ b. 48 ≤ b) (λ digit l. omega arith) 20 n

front_column : (xs more : List ℕ) → length xs ≡ 6 → take 6 ((xs ++ (32 ∷ [])) ++ more) ≡ xs
front_column xs more e =
    rw (append_assoc xs (32 ∷ []) more) (ap (λ (k : ℕ). take k (xs ++ (32 ∷ more))) (sym e) ∙ take-append_seam xs (32 ∷ more))

first_column : (t l s e w : List ℕ) → length t ≤ 6 → take 6 (columns t l s e w) ≡ at_right 6 t
first_column t l s e w h =
    front_column (at_right 6 t) (column 1 l ++ (column 9 s ++ (column 9 e ++ (at_left 8 w ++ (10 ∷ []))))) (length_right 6 t h)

pub row_ticket : (clock : ℕ) (c : Charge) → ChargeFits c → ticket_in (row clock c) ≡ Ok c.ticket
unfolding row
row_ticket clock c f =
    let d : List ℕ = decimal c.ticket in
    ap (λ (l : List ℕ). number_of (after_spaces l))
    (first_column d (decimal c.line) (decimal c.start) (decimal (end_of c)) (state_of (is_begun clock c)) (ticket_digits f))
    ∙ ap number_of (spaces_passed (6 - length d) d ∙ no_spaces d (digits_high c.ticket))
    ∙ read_back c.ticket (omega (arith, f.ticket_small))

pub heading_none : ticket_in heading ≡ Err NotANumber
unfolding number_of value_from
heading_none = refl

pub blank_none : ticket_in blank ≡ Err NotANumber
unfolding number_of
blank_none = refl

pub not_a_ticket : (n : ℕ) → ◌≡◌ {A = Result ℕ NumberError} (Ok n) (Err NotANumber) → ⊥
not_a_ticket n e = cc
