-- What is said of the pages of a station: their lines, their rows, and how many there are.
use Rattle.std.specs.Prelude.{◌≡◌, ℕ, ◌-◌, ◌*◌, ◌≤◌, ◌<◌, cond, List, [], ◌∷◌, eqb, length, take, Result, Ok}
use Rattle.rules.specs.Basics.{Each}
use Rattle.rules.specs.Site.{State}
use Rattle.rules.specs.Valid.{ValidState}
use Rattle.layout.specs.Image.{only, held_at}
use Rattle.text.specs.Numbers.{number_of}
use Rattle.text.specs.declared.number.NumberError.{NumberError}
use Rattle.page.specs.Lines.{row, no_station}
use Rattle.page.specs.Pages.{page_count, pages_of}
use Rattle.page.specs.Lined.{ChargeFits, Lined, StandsAt, line_of_row}

-- Lines

-- The pages of a valid station of one feeder have 25 lines each, of 37 characters and a line feed.
abbrev pub PagesAreLines : Type 0
PagesAreLines =
    (s : State) → length s.feeders ≡ 1 → ValidState s → Lined (page_count (length (only s).charges) * 25) (pages_of s)

-- What is printed of a refused image is one line.
abbrev pub NoStationIsALine : Type 0
NoStationIsALine = Lined 1 no_station

-- No number of a valid station of one feeder exceeds its column: no held time reaches 100,000,000.
abbrev pub NumbersFitColumns : Type 0
NumbersFitColumns = (s : State) → length s.feeders ≡ 1 → ValidState s → Each ChargeFits (only s).charges

-- Rows

-- The row of each charge held stands at its place, in the order of the tickets.
abbrev pub EachChargeHasItsRow : Type 0
EachChargeHasItsRow =
    (s : State)
    → length s.feeders ≡ 1
    → ValidState s
    → (q : ℕ)
    → q < length (only s).charges
    → StandsAt (line_of_row q) (row s.clock (held_at s q)) (pages_of s)

-- Rows that follow each other stand so.
abbrev pub RowsRise : Type 0
RowsRise = (q r : ℕ) → q < r → line_of_row q < line_of_row r

-- the ticket that can be read off a line: the number in its first column
abbrev pub after_spaces : List ℕ → List ℕ
after_spaces [] = []
after_spaces (b ∷ bs) = cond (eqb b 32) (after_spaces bs) (b ∷ bs)

abbrev pub ticket_in : List ℕ → Result ℕ NumberError
ticket_in line = number_of (after_spaces (take 6 line))

-- The ticket of a charge held can be read off its own line, and off no other.
abbrev pub TicketStandsOnce : Type 0
TicketStandsOnce =
    (s : State)
    → length s.feeders ≡ 1
    → ValidState s
    → (q : ℕ)
    → q < length (only s).charges
    → (j : ℕ)
    → j < 25 * page_count (length (only s).charges)
    → (line : List ℕ)
    → Lined 1 line
    → StandsAt j line (pages_of s)
    → ticket_in line ≡ Ok (held_at s q).ticket
    → j ≡ line_of_row q

-- How many pages: enough for the charges held, at least one, and no more than that.

abbrev pub PagesHaveRoom : Type 0
PagesHaveRoom = (held : ℕ) → held ≤ 24 * page_count held

abbrev pub ThereIsAPage : Type 0
ThereIsAPage = (held : ℕ) → 1 ≤ page_count held

abbrev pub NoPageIsSpare : Type 0
NoPageIsSpare = (held : ℕ) → 2 ≤ page_count held → 24 * (page_count held - 1) < held
