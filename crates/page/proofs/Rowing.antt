-- "Rows go by ticket": where each row stands.
use mathlib.Core.Path.{◌≡◌, sym, ap, ◌∙◌}
use mathlib.Core.Logic.{◌⊎◌, inl, inr}
use mathlib.Core.List.{List, [], ◌++◌, append_assoc, append-nil}
use Prim.Native.Nat.{ℕ, zero, suc, ◌+◌, ◌*◌, ◌/◌, ◌%◌, ◌≤◌, ◌<◌}
use native.Mathlib.Omega.{arith}
use lib.ListN.{length}
use Rattle.rules.specs.Basics.{Each}
use Rattle.rules.specs.Charge.{Charge}
use Rattle.rules.proofs.Ranges.{below_or_not}
use Rattle.page.specs.Lines.{heading}
use Rattle.page.specs.Pages.{texts, row_at, rows, page, page_count, pages}
use Rattle.page.specs.Lined.{ChargeFits, Lined, StandsAt, line_of_row}
use Rattle.page.specs.LawsOfPages.{RowsRise}
use Rattle.page.proofs.Lining.{heading_lined}
use Rattle.page.proofs.LinedPages.{lined_join, texts_lined, row_at_lined, page_lined}

-- one of some texts, between those before it and what follows
record Between (f : ℕ → List ℕ) (n i : ℕ) : Type 0 where
  rest : List ℕ
  is : texts f n ≡ texts f i ++ (f i ++ rest)

between : (f : ℕ → List ℕ) (n i : ℕ) → i < n → Between f n i
unfolding texts
between f zero i h = absurd (omega arith)
between f (suc n) i h = go (below_or_not i n) (λ l. between f n i l)
  where
    go : (i < n) ⊎ (n ≤ i) → (i < n → Between f n i) → Between f (suc n) i
    go (inl l) r =
        record {
          rest = (r l).rest ++ f n;
          is = rw ((r l).is, append_assoc (texts f i) (f i ++ (r l).rest) (f n), append_assoc (f i) (r l).rest (f n));
        }
    go (inr l) r = let e : i ≡ n = omega arith in record { rest = []; is = rw (e, append-nil (f n)) }

module _ (clock : ℕ) (cs : List Charge) (fits : Each ChargeFits cs) where
  pages_before : (k : ℕ) → Lined (k * 25) (texts (page clock cs) k)
  pages_before k = texts_lined (page clock cs) 25 k (page_lined clock cs fits)

  -- a page begins with its heading
  pub heading_stands : (k : ℕ) → k < page_count (length cs) → StandsAt (25 * k) heading (pages clock cs)
  unfolding pages page
  heading_stands k h =
      let b : Between (page clock cs) (page_count (length cs)) k = between (page clock cs) (page_count (length cs)) k h in
      let e : 25 * k ≡ k * 25 = omega arith in
      record {
        front = texts (page clock cs) k;
        rest = rows clock cs k ++ b.rest;
        is = b.is ∙ ap (λ (l : List ℕ). texts (page clock cs) k ++ l) (append_assoc heading (rows clock cs k) b.rest);
        behind = rw e (pages_before k);
      }

  -- row q stands behind the headings up to its own and the rows before it
  pub row_stands : (q : ℕ) → q < 24 * page_count (length cs) → StandsAt (line_of_row q) (row_at clock cs q) (pages clock cs)
  unfolding pages page rows
  row_stands q h =
      let k : ℕ = q / 24 in
      let i : ℕ = q % 24 in
      let f : ℕ → List ℕ = λ j. row_at clock cs (24 * k + j) in
      let b : Between (page clock cs) (page_count (length cs)) k = between (page clock cs) (page_count (length cs)) k (omega arith) in
      let r : Between f 24 i = between f 24 i (omega arith) in
      let same : 24 * k + i ≡ q = omega arith in
      let before : List ℕ = texts (page clock cs) k ++ (heading ++ texts f i) in
      let lines : k * 25 + (1 + i * 1) ≡ line_of_row q = omega arith in
      record {
        front = before;
        rest = r.rest ++ b.rest;
        is = b.is ∙ regrouped (texts (page clock cs) k) (heading) (texts f 24) (texts f i) (f i) r.rest b.rest r.is ∙ ap (λ (q : ℕ). before ++ (row_at clock cs q ++ (r.rest ++ b.rest))) same;
        behind = rw (sym lines) (lined_join (1 + i * 1) (heading ++ texts f i) (pages_before k) (lined_join (i * 1) (texts f i) heading_lined (texts_lined f 1 i (λ j. row_at_lined clock cs fits (24 * k + j)))));
      }
    where
      regrouped :
          (a h all before line rest after : List ℕ) → all ≡ before ++ (line ++ rest)
          → a ++ ((h ++ all) ++ after) ≡ (a ++ (h ++ before)) ++ (line ++ (rest ++ after))
      regrouped a h all before line rest after e =
          rw (e, append_assoc a (h ++ before) (line ++ (rest ++ after)), append_assoc h before (line ++ (rest ++ after)), append_assoc h (before ++ (line ++ rest)) after, append_assoc before (line ++ rest) after, append_assoc line rest after)

pub rows_rise : RowsRise
rows_rise q r h = omega arith
