-- What saving answers and writes.
use Rattle.std.specs.Prelude.{ℕ, Bool, cond, ◌&&◌, not, List, [], ◌∷◌, eqb, length}
use Rattle.rules.specs.Basics.{first_of}
use Rattle.rules.specs.Site.{State}
use Rattle.layout.specs.Image.{image_of}
use Rattle.layout.specs.Reading.{sized}
use Rattle.layout.specs.Blocks.{differing}

pub record SaveResult : Type 0 where
  pub refusal : ℕ
  -- how many blocks differ from the previous image, 0 beside a refusal
  pub blocks : ℕ
  -- the whole of the lent list afterwards
  pub image : List ℕ

-- "Save, restore and the bus serve a site of one feeder"
abbrev pub has_one : State → Bool
has_one s = eqb (length s.feeders) 1

-- "20, image to write or read not 4,608 bytes", and "22 covers .. saving several feeders"
abbrev pub save_rows : Bool → Bool → List (Bool × ℕ)
save_rows size one = (not size, 20) ∷ (not one, 22) ∷ []

-- 0 for a station that is saved. "Save is lent the previous image, refusal 20 covering its size".
unfoldable pub save_refusal : State → List ℕ → List ℕ → ℕ
save_refusal s previous list = first_of (save_rows (sized previous && sized list) (has_one s))

-- ".. and answers how many blocks differ." Where a refusal is met the list stays.
unfoldable pub saving : State → List ℕ → List ℕ → SaveResult
saving s previous list =
    cond (eqb (save_refusal s previous list) 0)
    (record { refusal = 0; blocks = differing previous (image_of s); image = image_of s })
    (record { refusal = save_refusal s previous list; blocks = 0; image = list })
