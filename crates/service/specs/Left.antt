-- What a C call leaves behind: "it holds an image, and each of its calls restores, acts and saves".
use Rattle.std.specs.Prelude.{ℕ, ◌≡◌, Bool, true, false, cond, List, [], ◌∷◌, length}
use Rattle.rules.specs.Site.{State}
use Rattle.rules.specs.Calls.{Answer, refused, opened, previewed, committed, moved, planned, waiting, charging, looked, withdrawn, Result, answering, Call, lent, step, written}
use Rattle.layout.specs.Image.{image_of}
use Rattle.layout.specs.Reading.{restoring}
use Rattle.layout.specs.Blocks.{differing}

-- an answer in numbers: the one returned, and those that go behind references
pub record Told : Type 0 where
  pub is_refused : Bool
  pub number : ℕ
  pub numbers : List ℕ

-- "A refusal returns its number alone"
abbrev pub refusing : ℕ → Told
refusing number = record { is_refused = true; number = number; numbers = [] }

abbrev pub telling : List ℕ → Told
telling numbers = record { is_refused = false; number = 0; numbers = numbers }

-- the numbers of an answer in the order of a function's references; an enquiry's first says whether the charge is charging
abbrev pub told : Answer → Told
told (refused number) = refusing number
told (opened bounds) = telling bounds
told (previewed start) = telling (start ∷ [])
told (committed ticket start) = telling (ticket ∷ start ∷ [])
told (moved reported dropped) = telling (reported ∷ dropped ∷ [])
told (planned cause before after rounds) = telling (cause ∷ before ∷ after ∷ rounds ∷ [])
told (waiting start rate) = telling (0 ∷ start ∷ rate ∷ [])
told (charging start end rate) = telling (1 ∷ start ∷ rate ∷ end ∷ [])
told (looked count) = telling (count ∷ [])
told withdrawn = telling []

-- the number returned, and afterwards the numbers behind the references in their order, the image and the lent list
pub record Left : Type 0 where
  pub number : ℕ
  pub numbers : List ℕ
  pub image : List ℕ
  pub list : List ℕ

abbrev pub leaving : ℕ → List ℕ → List ℕ → List ℕ → Left
leaving number numbers image list = record { number = number; numbers = numbers; image = image; list = list }

-- "and adds this number to its answer": how many blocks differ stands first, a refusal has none
abbrev pub counted : ℕ → Told → List ℕ
counted blocks t = cond t.is_refused [] (blocks ∷ t.numbers)

-- "A bus call compares with the image as it was lent"
abbrev pub told_over : List ℕ → Answer → State → List ℕ
told_over image a s = counted (differing image (image_of s)) (told a)

-- "and saves", where "a refusal leaves the image as it is"; a number behind a reference that the answer does not have stays
unfoldable pub left : List ℕ → List ℕ → Result → Left
left numbers image r =
    leaving (told r.answer).number
    (written (told_over image r.answer r.state) numbers)
    (cond (told r.answer).is_refused image (image_of r.state))
    r.list

-- a call: "there 20 to 22 .. come before the call's own refusals"
unfoldable pub called : List ℕ → List ℕ → Call → Left
called numbers image c =
    left numbers image
    (answering (restoring image).refusal (restoring image).state (lent c) (step (restoring image).state c))

-- What the contracts say

-- A call leaves exactly this of the numbers behind its references, the image and the list that were lent.
pub record Leaves (numbers image : List ℕ) (c : Call) (number : ℕ) (behind after list : List ℕ) : Type 0 where
  pub result : leaving number behind after list ≡ called numbers image c

-- the size of an image
abbrev pub Whole : List ℕ → Type 0
Whole image = length image ≡ 4608
