-- Which images are accepted, what restoring gives, and which changes of an image are found.
use Rattle.std.specs.Prelude.{◌≡◌, ℕ, ◌+◌, ◌*◌, ◌<◌, true, List, length, get_or, set}
use Rattle.rules.specs.Site.{State}
use Rattle.rules.specs.Calls.{fresh, least}
use Rattle.rules.specs.Valid.{ValidState}
use Rattle.layout.specs.Lists.{every}
use Rattle.layout.specs.Image.{image_of}
use Rattle.layout.specs.Validity.{is_valid}
use Rattle.layout.specs.Reading.{in_block, checked, restore_refusal, restoring}

-- the image of a valid station of one feeder
pub record ImageOfValid (xs : List ℕ) : Type 0 where
  pub station : State
  pub one : length station.feeders ≡ 1
  pub valid : ValidState station
  pub is_image : xs ≡ image_of station

-- Restore accepts exactly the images of valid stations of one feeder, with no condition on the list.
abbrev pub ExactlyTheseAreAccepted : Type 0
ExactlyTheseAreAccepted =
    (xs : List ℕ) → ((restoring xs).refusal ≡ 0 → ImageOfValid xs) × (ImageOfValid xs → (restoring xs).refusal ≡ 0)

-- Any other list of the right size with right checks is refused with 22, for one spare byte that is not zero too.
abbrev pub OthersAreRefused : Type 0
OthersAreRefused =
    (xs : List ℕ)
    → length xs ≡ 4608
    → every (checked xs) 9 ≡ true
    → (ImageOfValid xs → ⊥)
    → (restoring xs).refusal ≡ 22

-- Two valid stations of one feeder with the same image are one.
abbrev pub ImageDeterminesStation : Type 0
ImageDeterminesStation =
    (s t : State)
    → length s.feeders ≡ 1
    → length t.feeders ≡ 1
    → ValidState s
    → ValidState t
    → image_of s ≡ image_of t
    → s ≡ t

-- The test of a station of one feeder holds exactly for those that every call may be made on.
abbrev pub TestIsValidity : Type 0
TestIsValidity =
    (s : State) → length s.feeders ≡ 1 → (is_valid s ≡ true → ValidState s) × (ValidState s → is_valid s ≡ true)

-- Whatever the list, a valid station of one feeder is restored: calls may follow.
abbrev pub RestoredIsValid : Type 0
RestoredIsValid = (xs : List ℕ) → ValidState (restoring xs).state

abbrev pub RestoredHasOneFeeder : Type 0
RestoredHasOneFeeder = (xs : List ℕ) → length (restoring xs).state.feeders ≡ 1

-- Beside a refused restore stands the fresh station of 1, 100 and r 0, one feeder and W 720.
abbrev pub RefusedIsFresh : Type 0
RefusedIsFresh = (xs : List ℕ) → (restore_refusal xs ≡ 0 → ⊥) → (restoring xs).state ≡ fresh least

-- An image with W 0, as those from before W was kept, is refused with 22.
abbrev pub WithoutSiteLimitIsRefused : Type 0
WithoutSiteLimitIsRefused = (s : State) → s.site ≡ 0 → restore_refusal (image_of s) ≡ 22

-- Any one changed byte of a block whose check is right is found, its check included: refusal 21.
abbrev pub ChangeInBlockIsFound : Type 0
ChangeInBlockIsFound =
    (xs : List ℕ) (b i v : ℕ)
    → length xs ≡ 4608
    → b < 9
    → i < 512
    → checked xs b ≡ true
    → (v ≡ in_block xs b i → ⊥)
    → restore_refusal (set xs (512 * b + i) v) ≡ 21

-- So is any one changed byte of an accepted image, and with it of every saved one.
abbrev pub ChangeOfAcceptedIsFound : Type 0
ChangeOfAcceptedIsFound =
    (xs : List ℕ) (k v : ℕ)
    → restore_refusal xs ≡ 0
    → k < 4608
    → (v ≡ get_or xs k 0 → ⊥)
    → restore_refusal (set xs k v) ≡ 21
