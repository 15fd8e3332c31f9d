-- The cases hold, by computing; so does the whole page of case e.
use mathlib.Core.Path.{refl}
use Rattle.rules.specs.Load.{limited, within_site, balanced, sound}
use Rattle.rules.specs.Search.{earliest}
use Rattle.rules.specs.Calls.{opening, committing}
use Rattle.text.specs.Numbers.{digits_within}
use Rattle.page.specs.Lines.{row}
use Rattle.page.specs.Pages.{texts, row_at, rows, page, page_count, pages}
use Rattle.page.specs.LawsOfCases.{RowsAreThese, CaseEIsReached, PageIsThis, CountsAreThese}

pub rows_hold : RowsAreThese
unfolding row digits_within
rows_hold = refl

pub e_reached : CaseEIsReached
unfolding limited within_site balanced sound earliest opening committing
e_reached = refl

pub page_holds : PageIsThis
unfolding row digits_within texts row_at rows page page_count pages
page_holds = refl

pub counts_hold : CountsAreThese
unfolding page_count
counts_hold = refl
