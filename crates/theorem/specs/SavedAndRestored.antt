-- What restore and save of the code refuse, with which number, and what they give then and otherwise.
use Rattle.std.specs.Prelude.{◌↔◌, ◌≡◌, ℕ, ◌≤◌, Ok, Err}
use Rattle.rules.specs.Calls.{fresh, least}
use Rattle.guarantee.specs.DemandOne.{FirstIs, NoneApplies}
use Rattle.refusals.specs.declared.Refusal.{Refusal}
use Rattle.refusals.specs.Refusals.{refusal_in}
use Rattle.layout.specs.Image.{image_of}
use Rattle.layout.specs.Reading.{state_in, restore_refusals}
use Rattle.layout.specs.Blocks.{differing}
use Rattle.station.specs.declared.Station.{Station}
use Rattle.station.specs.View.{view, Valid}
use Rattle.restarts.specs.RestoreAndSave.{save_refusals}
use Rattle.theorem.specs.Images.{Save, Restore, MeetsSave, MeetsRestore}

-- It holds of every restore, whatever the list of bytes.
abbrev pub OfEveryRestore : (Restore → Type 0) → Type 0
OfEveryRestore Holds = (r : Restore) → MeetsRestore r → Holds r

-- A restore is refused with a number exactly when this is the number of the first condition that applies: 20 for the length, 21 for a
-- block's check, 22 for the contents.
abbrev pub RestoreIsRefusedForTheFirst : Type 0
RestoreIsRefusedForTheFirst =
    OfEveryRestore (λ r. (k : ℕ) → 1 ≤ k → (refusal_in r.answer ≡ k) ↔ FirstIs (restore_refusals r.image) k)

-- Beside a refusal stands the fresh station of 1, 100 and r 0: one feeder and W 720.
abbrev pub RefusedRestoreGivesTheFresh : Type 0
RefusedRestoreGivesTheFresh =
    OfEveryRestore (λ r. (refusal : Refusal) → r.answer ≡ Err refusal → view r.station ≡ fresh least)

-- Where no condition applies it is accepted, and the station is the one whose image the list is.
abbrev pub OtherImagesAreAccepted : Type 0
OtherImagesAreAccepted =
    OfEveryRestore
    (λ r.
    NoneApplies (restore_refusals r.image)
    → (r.answer ≡ Ok tt) × (view r.station ≡ state_in r.image) × (image_of (view r.station) ≡ r.image))

-- It holds of every save of a valid station, whatever the lists that are lent.
abbrev pub OfEverySave : (Station → Save → Type 0) → Type 0
OfEverySave Holds = (s : Station) (v : Save) → Valid s → MeetsSave s v → Holds s v

-- A save is refused with a number exactly when this is the number of the first condition that applies: 20 for the length of the previous
-- image, 20 for the length of the list to be written, 22 for several feeders.
abbrev pub SaveIsRefusedForTheFirst : Type 0
SaveIsRefusedForTheFirst =
    OfEverySave
    (λ s v. (k : ℕ) → 1 ≤ k → (refusal_in v.answer ≡ k) ↔ FirstIs (save_refusals (view s) v.previous v.before) k)

-- A refused save leaves the list as it was lent.
abbrev pub RefusedSaveLeavesTheList : Type 0
RefusedSaveLeavesTheList = OfEverySave (λ s v. (refusal : Refusal) → v.answer ≡ Err refusal → v.after ≡ v.before)

-- Where no condition applies the image is written, and the answer is how many blocks differ from the previous one.
abbrev pub OtherSavesWriteTheImage : Type 0
OtherSavesWriteTheImage =
    OfEverySave
    (λ s v.
    NoneApplies (save_refusals (view s) v.previous v.before)
    → (v.answer ≡ Ok (differing v.previous (image_of (view s)))) × (v.after ≡ image_of (view s)))
