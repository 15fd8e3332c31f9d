-- What saving and restoring answer, write and give back.
use Rattle.std.specs.Prelude.{ℕ, ◌≡◌, Bool, ◌&&◌, List, Result, Ok, Err}
use Rattle.rules.specs.Site.{State}
use Rattle.refusals.specs.declared.Refusal.{Refusal}
use Rattle.refusals.specs.Refusals.{refusal_in}
use Rattle.station.specs.declared.only.One.{One}
use Rattle.station.specs.View.{view, station_of, Alone}
use Rattle.layout.specs.Validity.{is_valid}
use Rattle.layout.specs.Reading.{RestoreResult, restoring}
use Rattle.layout.specs.Saving.{SaveResult, saving}
use Rattle.blocks.specs.Contents.{same_part}
use Rattle.records.specs.Contents.{contents_of}

-- how many blocks differ; a refusal has none
abbrev pub blocks_in : Result ℕ Refusal → ℕ
blocks_in (Ok blocks) = blocks
blocks_in (Err refusal) = 0

-- the answer and the whole of the lent list afterwards
abbrev pub saved : Result ℕ Refusal → List ℕ → SaveResult
saved r image = record { refusal = refusal_in r; blocks = blocks_in r; image = image }

pub record Saves (s : State) (previous before after : List ℕ) (r : Result ℕ Refusal) : Type 0 where
  pub result : saved r after ≡ saving s previous before

-- contents that are those of this station, and it is valid
unfoldable pub is_from : List ℕ → State → Bool
is_from contents s = is_valid s && same_part contents (contents_of s) 0 4572

abbrev pub restored : Result Unit Refusal → One → RestoreResult
restored r o = record { refusal = refusal_in r; state = view (station_of o) }

-- the answer and the only feeder of the station beside it, which is valid, so that calls may follow
pub record Restores (image : List ℕ) (r : Result Unit Refusal) (o : One) : Type 0 where
  pub result : restored r o ≡ restoring image
  pub alone : Alone o
