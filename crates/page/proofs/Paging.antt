-- Texts one behind another: the rows of a page, and all pages.
use mathlib.Core.Path.{◌≡◌, refl, sym, ap, ◌∙◌}
use mathlib.Core.List.{List, [], ◌++◌, append_assoc, append-nil}
use Prim.Native.Nat.{ℕ, ◌+◌, ◌*◌, ◌≤◌, ◌<◌}
use native.Mathlib.Numerals.{add-one}
use native.Mathlib.Omega.{arith}
use lib.ListN.{length, get_or}
use borrow.Author.Tests.{lt-ltb, le-ltb}
use Rattle.rules.specs.Charge.{Charge}
use Rattle.rules.specs.Basics.{Each}
use Rattle.rules.proofs.Lists.{length_tabulate, get_d_tabulate, tabulate_each}
use Rattle.charges.specs.declared.Charges.{Charges}
use Rattle.charges.specs.Arrays.{charge_at, charges_of}
use Rattle.layout.specs.Image.{no_charge}
use Rattle.page.specs.Lines.{row, blank}
use Rattle.page.specs.Pages.{texts, row_at, rows, page, page_count, pages}
use Rattle.page.specs.Lined.{ChargeFits}

pub texts_none : (f : ℕ → List ℕ) → texts f 0 ≡ []
unfolding texts
texts_none f = refl

pub texts_more : (f : ℕ → List ℕ) (n : ℕ) → texts f (n + 1) ≡ texts f n ++ f n
unfolding texts
texts_more f n = rw (add-one n)

-- the first n of them stand behind what was there, and then one more
pub none_behind : (f : ℕ → List ℕ) (old : List ℕ) → old ≡ old ++ texts f 0
none_behind f old = rw (texts_none f) (sym (append-nil old))

pub one_behind :
    (f : ℕ → List ℕ) (n : ℕ) (old text : List ℕ) {mid new : List ℕ} → mid ≡ old ++ texts f n → new ≡ mid ++ text → text ≡ f n
    → new ≡ old ++ texts f (n + 1)
one_behind f n old text p q e = q ∙ rw (p, e, texts_more f n) (append_assoc old (texts f n) (f n))

module _ (clock : ℕ) (cs : List Charge) (q : ℕ) where
  pub row_held : q < length cs → row_at clock cs q ≡ row clock (get_or cs q no_charge)
  unfolding row_at
  row_held h = rw (lt-ltb q (length cs) h)

  pub row_unused : length cs ≤ q → row_at clock cs q ≡ blank
  unfolding row_at
  row_unused h = rw (le-ltb q (length cs) h)

-- the rows of charges in arrays
module _ (clock : ℕ) (charges : Charges) (q : ℕ) where
  pub row_placed : q < charges.held → row clock (charge_at charges q) ≡ row_at clock (charges_of charges) q
  row_placed h =
      let n : length (charges_of charges) ≡ charges.held = length_tabulate (charge_at charges) charges.held 0 in
      let at_place : get_or (charges_of charges) q no_charge ≡ charge_at charges q =
      get_d_tabulate (charge_at charges) charges.held 0 q no_charge h ∙ ap (charge_at charges) (from_zero q) in
      sym (row_held clock (charges_of charges) q (rw n h) ∙ ap (row clock) at_place)
    where
      from_zero : (q : ℕ) → 0 + q ≡ q
      from_zero q = omega arith

  pub row_behind : charges.held ≤ q → blank ≡ row_at clock (charges_of charges) q
  row_behind h = sym (row_unused clock (charges_of charges) q (rw (length_tabulate (charge_at charges) charges.held 0) h))

pub fits_at_lem : (charges : Charges) (q : ℕ) → Each ChargeFits (charges_of charges) → q < charges.held → ChargeFits (charge_at charges q)
fits_at_lem charges q e h = tabulate_each ChargeFits (charge_at charges) charges.held 0 e q (omega arith) (omega arith)

-- Pages

module _ (clock : ℕ) (cs : List Charge) (k : ℕ) where
  abbrev pub rows_to : ℕ → List ℕ
  rows_to i = texts (λ j. row_at clock cs (24 * k + j)) i

  pub all_rows : (i : ℕ) → i ≡ 24 → rows_to i ≡ rows clock cs k
  unfolding rows
  all_rows i e = rw e

-- all pages

pub whole_pages : (clock : ℕ) (cs : List Charge) (count : ℕ) → count ≡ page_count (length cs) → texts (page clock cs) count ≡ pages clock cs
unfolding pages
whole_pages clock cs count e = rw e
