-- What is printed of all that is read.
use Rattle.std.specs.Prelude.{◌≡◌, ℕ, ◌<◌, List, [], length, take}
use Rattle.rules.specs.Site.{State}
use Rattle.rules.specs.Valid.{ValidState}
use Rattle.layout.specs.Image.{image_of}
use Rattle.layout.specs.Reading.{restore_refusal, restoring}
use Rattle.layout.specs.LawsOfCases.{zeros}
use Rattle.page.specs.Lines.{no_station}
use Rattle.page.specs.Pages.{pages_of, wall}
use Rattle.page.specs.Cases.{station_e}

-- The image of a valid station of one feeder prints the pages of that station.
abbrev pub SavedIsPrinted : Type 0
SavedIsPrinted = (s : State) → length s.feeders ≡ 1 → ValidState s → wall (image_of s) ≡ pages_of s

-- An image that is not refused prints the pages of the station that it restores.
abbrev pub AcceptedIsPrinted : Type 0
AcceptedIsPrinted = (image : List ℕ) → restore_refusal image ≡ 0 → wall image ≡ pages_of (restoring image).state

-- A refused image prints only the row "no station".
abbrev pub RefusedPrintsNoStation : Type 0
RefusedPrintsNoStation = (image : List ℕ) → (restore_refusal image ≡ 0 → ⊥) → wall image ≡ no_station

-- So does input of another length than 4,608 bytes.
abbrev pub OtherLengthPrintsNoStation : Type 0
OtherLengthPrintsNoStation = (image : List ℕ) → (length image ≡ 4608 → ⊥) → wall image ≡ no_station

-- The first bytes, one more than an image has or any number above that, tell all.
abbrev pub FirstBytesTell : Type 0
FirstBytesTell = (n : ℕ) (input : List ℕ) → 4608 < n → wall (take n input) ≡ wall input

-- No input, and 4,608 zero bytes, whose checks are right.
abbrev pub NothingPrintsNoStation : Type 0
NothingPrintsNoStation = wall [] ≡ no_station

abbrev pub ZerosPrintNoStation : Type 0
ZerosPrintNoStation = wall zeros ≡ no_station

-- The image of case e prints its pages, which `PageIsThis` has.
abbrev pub CaseEIsPrinted : Type 0
CaseEIsPrinted = wall (image_of station_e) ≡ pages_of station_e
