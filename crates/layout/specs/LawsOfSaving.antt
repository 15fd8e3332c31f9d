-- What saving writes and answers, and that it is undone by restoring.
use Rattle.std.specs.Prelude.{◌≡◌, ℕ, ◌≤◌, List, length}
use Rattle.rules.specs.Site.{State}
use Rattle.rules.specs.Valid.{ValidState}
use Rattle.layout.specs.Image.{image_of}
use Rattle.layout.specs.Reading.{restoring}
use Rattle.layout.specs.Blocks.{differing}
use Rattle.layout.specs.Saving.{saving}

-- Saving a station of one feeder and restoring it gives the same station.
abbrev pub SavedIsRestored : Type 0
SavedIsRestored =
    (s : State) → length s.feeders ≡ 1 → ValidState s → restoring (image_of s) ≡ record { refusal = 0; state = s }

-- So does restoring the list that save wrote, whatever stood there and whatever the previous image was.
abbrev pub WrittenIsRestored : Type 0
WrittenIsRestored =
    (s : State)
    → length s.feeders ≡ 1
    → ValidState s
    → (previous list : List ℕ)
    → length previous ≡ 4608
    → length list ≡ 4608
    → restoring (saving s previous list).image ≡ record { refusal = 0; state = s }

-- An accepted image saves to itself.
abbrev pub AcceptedSavesToItself : Type 0
AcceptedSavesToItself = (xs : List ℕ) → (restoring xs).refusal ≡ 0 → image_of (restoring xs).state ≡ xs

-- What save writes of a site of one feeder, and how many blocks it answers.
abbrev pub ImageIsWritten : Type 0
ImageIsWritten =
    (s : State) (previous list : List ℕ)
    → length s.feeders ≡ 1
    → length previous ≡ 4608
    → length list ≡ 4608
    → saving s previous list ≡ record { refusal = 0; blocks = differing previous (image_of s); image = image_of s }

-- A site of several feeders is refused with 22, and nothing is written.
abbrev pub SeveralAreRefused : Type 0
SeveralAreRefused =
    (s : State) (previous list : List ℕ)
    → (length s.feeders ≡ 1 → ⊥)
    → length previous ≡ 4608
    → length list ≡ 4608
    → saving s previous list ≡ record { refusal = 22; blocks = 0; image = list }

-- Lists of another size are refused with 20, however many feeders there are, and nothing is written.
abbrev pub OtherSizeIsRefused : Type 0
OtherSizeIsRefused =
    (s : State) (previous list : List ℕ)
    → (length previous ≡ 4608 → length list ≡ 4608 → ⊥)
    → saving s previous list ≡ record { refusal = 20; blocks = 0; image = list }

-- At most all nine blocks differ.
abbrev pub AtMostNineDiffer : Type 0
AtMostNineDiffer = (xs ys : List ℕ) → differing xs ys ≤ 9

-- Images of which no block differs are equal.
abbrev pub NoneDiffersOfEqual : Type 0
NoneDiffersOfEqual =
    (xs ys : List ℕ) → length xs ≡ 4608 → length ys ≡ 4608 → differing xs ys ≡ 0 → xs ≡ ys

-- A call that leaves the station as it is answers 0 blocks, and the same image is written.
abbrev pub UnchangedRewritesNone : Type 0
UnchangedRewritesNone =
    (xs list : List ℕ)
    → (restoring xs).refusal ≡ 0
    → length list ≡ 4608
    → saving (restoring xs).state xs list ≡ record { refusal = 0; blocks = 0; image = xs }

-- Where 0 blocks are answered, what is written is the previous image.
abbrev pub NoBlockLeavesPrevious : Type 0
NoBlockLeavesPrevious =
    (s : State) (previous list : List ℕ)
    → length s.feeders ≡ 1
    → length previous ≡ 4608
    → length list ≡ 4608
    → (saving s previous list).blocks ≡ 0
    → (saving s previous list).image ≡ previous
