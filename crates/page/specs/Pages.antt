-- "pages of a heading and 24 rows".
use Rattle.std.specs.Prelude.{ℕ, zero, suc, ◌+◌, ◌*◌, ◌/◌, cond, List, [], ◌++◌, ltb, eqb, length, get_or}
use Rattle.rules.specs.Charge.{Charge}
use Rattle.rules.specs.Site.{State}
use Rattle.layout.specs.Image.{no_charge, only}
use Rattle.layout.specs.Reading.{restore_refusal, restoring}
use Rattle.page.specs.Lines.{heading, row, blank, no_station}

-- the first n of some texts, one behind another
unfoldable pub texts : (ℕ → List ℕ) → ℕ → List ℕ
texts f zero = []
texts f (suc n) = texts f n ++ f n

-- row q, of all pages: "Rows go by ticket", which is the order of the charges held, "and unused rows are spaces"
unfoldable pub row_at : ℕ → List Charge → ℕ → List ℕ
row_at clock cs q = cond (ltb q (length cs)) (row clock (get_or cs q no_charge)) blank

-- the rows of page k, from 0
unfoldable pub rows : ℕ → List Charge → ℕ → List ℕ
rows clock cs k = texts (λ i. row_at clock cs (24 * k + i)) 24

unfoldable pub page : ℕ → List Charge → ℕ → List ℕ
page clock cs k = heading ++ rows clock cs k

-- as many pages as the rows take, 24 to a page, and "No charges means one page"
unfoldable pub page_count : ℕ → ℕ
page_count held = cond (eqb held 0) 1 ((held + 23) / 24)

unfoldable pub pages : ℕ → List Charge → List ℕ
pages clock cs = texts (page clock cs) (page_count (length cs))

-- the pages of a station of one feeder
abbrev pub pages_of : State → List ℕ
pages_of s = pages s.clock (only s).charges

-- All that the program prints, from all that it reads: "A refused image prints only the row .., without a heading."
unfoldable pub wall : List ℕ → List ℕ
wall image = cond (eqb (restore_refusal image) 0) (pages_of (restoring image).state) no_station
