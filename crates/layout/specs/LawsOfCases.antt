-- What the checker computes of the stations, images and places that were worked out by hand.
use Rattle.std.specs.Prelude.{◌≡◌, ℕ, Bool, List, [], ◌∷◌, map, length}
use Rattle.rules.specs.Basics.{first_of}
use Rattle.rules.specs.Site.{State}
use Rattle.layout.specs.Lists.{listed, every}
use Rattle.layout.specs.Arrangement.{number_of, place_of}
use Rattle.layout.specs.Image.{only, check_of, byte_at, image_of}
use Rattle.layout.specs.Validity.{record_right, is_valid}
use Rattle.layout.specs.Reading.{restore_rows, restore_refusal, restoring}
use Rattle.layout.specs.Blocks.{differing}
use Rattle.layout.specs.Saving.{save_rows, saving}
use Rattle.layout.specs.CasesOfImages.{small, two_feeders, cases_of_images, cases_of_checks, cases_of_places, cases_of_rows, cases_of_save_rows, summed, before, swapped}
use Rattle.layout.specs.CasesOfValidity.{cases_of_settings, cases_of_records, cases_of_plans, cases_of_sites}

-- Places and bytes

abbrev pub place_computed : ℕ × ℕ × ℕ → ℕ × ℕ × ℕ
place_computed x = (x.0, x.1, place_of (number_of x.0 x.1))

abbrev pub PlacesAreThese : Type 0
PlacesAreThese = map place_computed cases_of_places ≡ cases_of_places

abbrev pub bytes_computed : State × List (ℕ × ℕ) → State × List (ℕ × ℕ)
bytes_computed x = (x.0, map (λ (b : ℕ × ℕ). (b.0, byte_at x.0 b.0)) x.1)

abbrev pub BytesAreThese : Type 0
BytesAreThese = map bytes_computed cases_of_images ≡ cases_of_images

abbrev pub ChecksAreThese : Type 0
ChecksAreThese = map bytes_computed cases_of_checks ≡ cases_of_checks

-- the check of 508 bytes of 255, the largest there is
abbrev pub LargestCheck : Type 0
LargestCheck = check_of (λ i. 255) ≡ 32967930

-- Two bytes swapped: their sum stays, the check does not.
abbrev pub SwapChangesCheck : Type 0
SwapChangesCheck =
    summed before 508 ∷ summed swapped 508 ∷ check_of before ∷ check_of swapped ∷ [] ≡ 16 ∷ 16 ∷ 25 ∷ 23 ∷ []

-- Lists that differ in their first byte alone: of the nine blocks one differs.
abbrev pub OneBlockDiffers : Type 0
OneBlockDiffers = differing (7 ∷ []) (8 ∷ []) ≡ 1

-- Refusals

abbrev pub rows_computed : Bool × Bool × Bool × ℕ → Bool × Bool × Bool × ℕ
rows_computed x = (x.0, x.1, x.2, first_of (restore_rows x.0 x.1 x.2))

abbrev pub RestoreRefusalsAreThese : Type 0
RestoreRefusalsAreThese = map rows_computed cases_of_rows ≡ cases_of_rows

abbrev pub save_rows_computed : Bool × Bool × ℕ → Bool × Bool × ℕ
save_rows_computed x = (x.0, x.1, first_of (save_rows x.0 x.1))

abbrev pub SaveRefusalsAreThese : Type 0
SaveRefusalsAreThese = map save_rows_computed cases_of_save_rows ≡ cases_of_save_rows

-- Lists of one and two bytes, written over: 20, of several feeders too, and the list stays.
abbrev pub ShortIsNotWritten : Type 0
ShortIsNotWritten =
    map (λ s. saving s (7 ∷ []) (8 ∷ 9 ∷ [])) (small ∷ two_feeders ∷ [])
    ≡ record { refusal = 20; blocks = 0; image = 8 ∷ 9 ∷ [] } ∷ record { refusal = 20; blocks = 0; image = 8 ∷ 9 ∷ [] } ∷ []

-- A list of two bytes, read: 20, and the fresh station of 1, 100 and r = 0 with W 720 beside it.
abbrev pub ShortIsNotRead : Type 0
ShortIsNotRead =
    restoring (8 ∷ 9 ∷ [])
    ≡ record {
      refusal = 20;
      state =
          record {
            feeders = record { limit = 1; percent = 100; bound = 1; tail = 0; charges = [] } ∷ [];
            site = 720;
            clock = 0;
            next = 1;
          };
    }

-- an image of zero bytes: all its checks are right, but N is 0
abbrev pub zeros : List ℕ
zeros = listed (λ k. 0) 4608

abbrev pub ZerosAreRefused : Type 0
ZerosAreRefused = restore_refusal zeros ≡ 22

-- Two feeders, and lists of the right size.
abbrev pub TwoFeedersAreNotSaved : Type 0
TwoFeedersAreNotSaved = saving two_feeders zeros zeros ≡ record { refusal = 22; blocks = 0; image = zeros }

-- A station with a charge that has begun and one that waits comes back.
abbrev pub SmallIsRestored : Type 0
SmallIsRestored = restoring (image_of small) ≡ record { refusal = 0; state = small }

-- Stations on both sides of each edge: a test of stations gives these verdicts.

abbrev pub verdicts : (State → Bool) → List (State × Bool) → List (State × Bool)
verdicts test cases = map (λ (x : State × Bool). (x.0, test x.0)) cases

abbrev pub RecordsAreJudged : Type 0
RecordsAreJudged =
    verdicts (λ s. every (record_right s) (length (only s).charges)) cases_of_records ≡ cases_of_records

abbrev pub StationsAreJudged : Type 0
StationsAreJudged =
    (verdicts is_valid cases_of_settings ≡ cases_of_settings)
    × (verdicts is_valid cases_of_plans ≡ cases_of_plans)
    × (verdicts is_valid cases_of_sites ≡ cases_of_sites)
