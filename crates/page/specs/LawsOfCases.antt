-- What the checker computes of the rows and pages that were written down.
use Rattle.std.specs.Prelude.{◌≡◌, ℕ, Bool, true, ◌&&◌, List, [], ◌∷◌, ◌++◌, eqb}
use Rattle.std.specs.Str.{bytes_eq}
use Rattle.rules.specs.Site.{State}
use Rattle.rules.specs.Calls.{opening, run}
use Rattle.rules.specs.Entry.{one_feeder, state_after}
use Rattle.rules.specs.CasesAToL.{orders_e}
use Rattle.page.specs.Lines.{blank}
use Rattle.page.specs.Pages.{texts, page_count, pages_of}
use Rattle.page.specs.Cases.{station_e, cases_of_rows, case_e_lines}

abbrev pub each_same : List (List ℕ × List ℕ) → Bool
each_same [] = true
each_same (x ∷ xs) = bytes_eq x.0 x.1 && each_same xs

abbrev pub RowsAreThese : Type 0
RowsAreThese = each_same cases_of_rows ≡ true

abbrev pub opened_e : State
opened_e = (opening (one_feeder 2 50 0)).state

-- The calls of case e lead to the station written down.
abbrev pub CaseEIsReached : Type 0
CaseEIsReached = state_after opened_e (run opened_e orders_e) ≡ station_e

-- Its page before the move: the heading, six rows, and 18 unused ones.
abbrev pub PageIsThis : Type 0
PageIsThis = bytes_eq (pages_of station_e) (case_e_lines ++ texts (λ i. blank) 18) ≡ true

-- held, and how many pages
abbrev pub cases_of_counts : List (ℕ × ℕ)
cases_of_counts = (0, 1) ∷ (1, 1) ∷ (24, 1) ∷ (25, 2) ∷ (48, 2) ∷ (49, 3) ∷ (180, 8) ∷ []

abbrev pub each_counted : List (ℕ × ℕ) → Bool
each_counted [] = true
each_counted (x ∷ xs) = eqb (page_count x.0) x.1 && each_counted xs

abbrev pub CountsAreThese : Type 0
CountsAreThese = each_counted cases_of_counts ≡ true
