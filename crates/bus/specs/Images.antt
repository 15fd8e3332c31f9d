-- What an opening leaves behind, and an image that is saved to another list.
use Rattle.std.specs.Prelude.{ℕ, ◌≡◌, cond, List, [], ◌∷◌, eqb, Result, Ok, Err}
use Rattle.rules.specs.Calls.{Asked, answering, opening, written}
use Rattle.refusals.specs.declared.Refusal.{Refusal}
use Rattle.refusals.specs.Refusals.{number_of, refusal_in}
use Rattle.layout.specs.Reading.{restoring}
use Rattle.layout.specs.Saving.{SaveResult, saving}
use Rattle.service.specs.Left.{Left, Told, telling, refusing, counted, leaving, left}
use Rattle.bus.specs.declared.open.Told.{Told as Opening}

-- an opening: "opening reads no image", so that 20 comes first, and "22 covers .. saving several feeders" last: beside a refused opening
-- stands a station of one feeder
unfoldable pub opened_over : List ℕ → List ℕ → Asked → Left
opened_over numbers image x =
    left numbers image (answering (saving (opening x).state image image).refusal (opening x).state [] (opening x))

abbrev pub copying : ℕ → ℕ → List ℕ → SaveResult
copying refusal blocks image = record { refusal = refusal; blocks = blocks; image = image }

-- what was saved, or the first refusal, the restore's before that of saving; it leaves the list and the number of blocks
abbrev pub copied_or : ℕ → List ℕ → ℕ → SaveResult → SaveResult
copied_or blocks list refusal r =
    let first : ℕ = cond (eqb refusal 0) r.refusal refusal in
    cond (eqb first 0) r (copying first blocks list)

-- an image restored and saved to another list, with which it is compared
unfoldable pub copied : ℕ → List ℕ → List ℕ → SaveResult
copied blocks image list = copied_or blocks list (restoring image).refusal (saving (restoring image).state list list)

-- What the contracts say

-- an opening over an image, as numbers: the refusal's alone, or how many blocks differ and the bound D
abbrev pub opened_told : Result Opening Refusal → Told
opened_told (Ok t) = telling (t.bound ∷ [])
opened_told (Err refusal) = refusing (number_of refusal)

abbrev pub opened_blocks : Result Opening Refusal → ℕ
opened_blocks (Ok t) = t.blocks
opened_blocks (Err refusal) = 0

-- whatever stands behind the references
pub record OpenedOver (image : List ℕ) (x : Asked) (r : Result Opening Refusal) (after : List ℕ) : Type 0 where
  pub result : (numbers : List ℕ) → leaving (refusal_in r) (written (counted (opened_blocks r) (opened_told r)) numbers) after [] ≡ opened_over numbers image x

-- the number of blocks of a copy, whatever it was before
abbrev pub blocks_or : ℕ → Result ℕ Refusal → ℕ
blocks_or before (Ok blocks) = blocks
blocks_or before (Err refusal) = before

pub record CopiedTo (image list : List ℕ) (r : Result ℕ Refusal) (after : List ℕ) : Type 0 where
  pub result : (blocks : ℕ) → copying (refusal_in r) (blocks_or blocks r) after ≡ copied blocks image list

pub record Opens (numbers image : List ℕ) (x : Asked) (number : ℕ) (behind after : List ℕ) : Type 0 where
  pub result : leaving number behind after [] ≡ opened_over numbers image x

pub record Copies (blocks : ℕ) (image list : List ℕ) (refusal blocks_after : ℕ) (after : List ℕ) : Type 0 where
  pub result : copying refusal blocks_after after ≡ copied blocks image list
