-- A page has 25 lines of 37 characters and a line feed, and so has each page of a station.
use mathlib.Core.Path.{◌≡◌}
use mathlib.Core.Logic.{⊎_elim}
use mathlib.Core.List.{List, ◌∷◌, ◌++◌, append_assoc}
use Prim.Native.Nat.{ℕ, zero, suc, ◌+◌, ◌*◌}
use native.Mathlib.Nat.{suc-add, suc-mul}
use native.Mathlib.Omega.{arith}
use lib.ListN.{length, get_or}
use Rattle.rules.specs.Basics.{Each}
use Rattle.rules.specs.Charge.{Charge}
use Rattle.rules.proofs.Ranges.{below_or_not}
use Rattle.layout.specs.Image.{no_charge, only}
use Rattle.layout.proofs.Rising.{each_place}
use Rattle.page.specs.Pages.{texts, row_at, rows, page, page_count, pages}
use Rattle.page.specs.Lined.{ChargeFits, Lined, no_line, one_more}
use Rattle.page.specs.LawsOfPages.{PagesAreLines}
use Rattle.page.proofs.Lining.{heading_lined, blank_lined, row_lined}
use Rattle.page.proofs.Paging.{row_held, row_unused}
use Rattle.page.proofs.Walling.{valid_fits}

pub lined_join : (m : ℕ) (ys : List ℕ) {n : ℕ} {xs : List ℕ} → Lined n xs → Lined m ys → Lined (n + m) (xs ++ ys)
lined_join m ys no_line q = let e : 0 + m ≡ m = omega arith in rw e q
lined_join m ys (one_more n line rest l c p) q =
    rw (suc-add n m, append_assoc line (10 ∷ rest) ys) (one_more (n + m) line (rest ++ ys) l c (lined_join m ys p q))

pub texts_lined : (f : ℕ → List ℕ) (m n : ℕ) → ((i : ℕ) → Lined m (f i)) → Lined (n * m) (texts f n)
unfolding texts
texts_lined f m zero h = let e : 0 * m ≡ 0 = omega arith in rw e no_line
texts_lined f m (suc n) h = rw (suc-mul n m) (lined_join m (f n) (texts_lined f m n h) (h n))

module _ (clock : ℕ) (cs : List Charge) (f : Each ChargeFits cs) where
  pub row_at_lined : (q : ℕ) → Lined 1 (row_at clock cs q)
  row_at_lined q =
      ⊎_elim
      (λ h. rw (row_held clock cs q h) (row_lined clock (get_or cs q no_charge) (each_place ChargeFits cs f q h)))
      (λ h. rw (row_unused clock cs q h) blank_lined)
      (below_or_not q (length cs))

  -- a page has 25 lines
  pub page_lined : (k : ℕ) → Lined 25 (page clock cs k)
  unfolding page rows
  page_lined k = lined_join 24 (texts (λ i. row_at clock cs (24 * k + i)) 24) heading_lined (texts_lined (λ i. row_at clock cs (24 * k + i)) 1 24 (λ i. row_at_lined (24 * k + i)))

  pub pages_lined : Lined (page_count (length cs) * 25) (pages clock cs)
  unfolding pages
  pages_lined = texts_lined (page clock cs) 25 (page_count (length cs)) page_lined

pub station_lined : PagesAreLines
station_lined s one v = pages_lined s.clock (only s).charges (valid_fits s one v)
