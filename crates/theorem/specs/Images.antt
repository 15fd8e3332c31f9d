-- An opening, a save and a restore of the code, each known by its contract alone.
--
-- A station is saved by `save`, `save_back` or `save_only` (crates/image/src/saving.rt) and restored by `restore` (restoring.rt there),
-- which gives the only feeder, of which `Station::of_only` makes the station. src/keeping.rt calls them, and the checker has proved there
-- that what they give meets what is said here.
use Rattle.std.specs.Prelude.{◌≡◌, ℕ, List, Result}
use Rattle.rules.specs.Calls.{Asked}
use Rattle.refusals.specs.declared.Refusal.{Refusal}
use Rattle.refusals.specs.Refusals.{refusal_in}
use Rattle.layout.specs.Reading.{RestoreResult, restoring}
use Rattle.station.specs.declared.Station.{Station}
use Rattle.station.specs.declared.bounds.Opened.{Opened}
use Rattle.station.specs.View.{view, Valid}
use Rattle.image.specs.Answers.{Saves}

-- One opening: what it asked for, what it answered, and the station that it gave.
pub record Opening : Type 0 where
  pub asked : Asked
  pub answer : Result Opened Refusal
  pub station : Station

-- One save: the previous image and the list to be written as they were lent, this list afterwards, and the answer.
pub record Save : Type 0 where
  pub previous : List ℕ
  pub before : List ℕ
  pub after : List ℕ
  pub answer : Result ℕ Refusal

abbrev pub save_made : List ℕ → List ℕ → List ℕ → Result ℕ Refusal → Save
save_made previous before after answer = record { previous = previous; before = before; after = after; answer = answer }

-- One restore: the list of bytes, the answer, and the station that it gave.
pub record Restore : Type 0 where
  pub image : List ℕ
  pub answer : Result Unit Refusal
  pub station : Station

abbrev pub restore_made : List ℕ → Result Unit Refusal → Station → Restore
restore_made image answer station = record { image = image; answer = answer; station = station }

-- The contract of a save: it asks a valid station.
abbrev pub MeetsSave : Station → Save → Type 0
MeetsSave s v = Valid s → Saves (view s) v.previous v.before v.after v.answer

-- what a restore answered, and its station in the words of the rules
abbrev pub given_back : Restore → RestoreResult
given_back r = record { refusal = refusal_in r.answer; state = view r.station }

-- The contract of a restore: it asks nothing.
pub record MeetsRestore (r : Restore) : Type 0 where
  pub result : given_back r ≡ restoring r.image
  pub valid : Valid r.station
