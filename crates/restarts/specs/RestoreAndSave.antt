-- Refusals 20, 21 and 22: what restore and save refuse, with which number, and that they refuse nothing else.
use Rattle.std.specs.Prelude.{◌↔◌, ◌≡◌, ℕ, ◌≤◌, Bool, not, List, [], ◌∷◌}
use Rattle.rules.specs.Site.{State}
use Rattle.rules.specs.Calls.{fresh, least}
use Rattle.guarantee.specs.DemandOne.{FirstIs, NoneApplies}
use Rattle.layout.specs.Image.{image_of}
use Rattle.layout.specs.Reading.{sized, state_in, restore_refusals, restoring}
use Rattle.layout.specs.Saving.{has_one, saving}
use Rattle.layout.specs.Blocks.{differing}

-- Restore, of any list of bytes: `restore_refusals` lists the conditions, 20 for the length, 21 for a block's check, 22 for the contents.

-- It is refused with a number exactly when this is the number of the first condition that applies.
abbrev pub RestoreRefusesByTheFirst : Type 0
RestoreRefusesByTheFirst =
    (image : List ℕ) (k : ℕ) → 1 ≤ k → ((restoring image).refusal ≡ k) ↔ FirstIs (restore_refusals image) k

-- Beside a refused restore stands the fresh station of 1, 100 and r 0: one feeder and W 720.
abbrev pub FreshStandsBesideARefusal : Type 0
FreshStandsBesideARefusal = (image : List ℕ) → ((restoring image).refusal ≡ 0 → ⊥) → (restoring image).state ≡ fresh least

-- Where no condition applies it is accepted, with the station that the image is of.
abbrev pub RestoreAcceptsTheRest : Type 0
RestoreAcceptsTheRest =
    (image : List ℕ) → NoneApplies (restore_refusals image) → restoring image ≡ record { refusal = 0; state = state_in image }

-- Save, of any station, with the previous image and a list to be written that are lent

-- 20 for either list, 22 for several feeders
abbrev pub save_refusals : State → List ℕ → List ℕ → List (Bool × ℕ)
save_refusals s previous list = (not (sized previous), 20) ∷ (not (sized list), 20) ∷ (not (has_one s), 22) ∷ []

abbrev pub SaveRefusesByTheFirst : Type 0
SaveRefusesByTheFirst =
    (s : State) (previous list : List ℕ) (k : ℕ)
    → 1 ≤ k
    → ((saving s previous list).refusal ≡ k) ↔ FirstIs (save_refusals s previous list) k

-- A refused save writes nothing, and tells of no block.
abbrev pub RefusedSaveKeepsTheList : Type 0
RefusedSaveKeepsTheList =
    (s : State) (previous list : List ℕ)
    → ((saving s previous list).refusal ≡ 0 → ⊥)
    → ((saving s previous list).image ≡ list) × ((saving s previous list).blocks ≡ 0)

-- Where no condition applies it writes the image, and tells how many blocks differ from the previous one.
abbrev pub SaveWritesTheImage : Type 0
SaveWritesTheImage =
    (s : State) (previous list : List ℕ)
    → NoneApplies (save_refusals s previous list)
    → saving s previous list ≡ record { refusal = 0; blocks = differing previous (image_of s); image = image_of s }
