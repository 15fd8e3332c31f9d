-- "Restore accepts exactly the images of stations ..": what an image would be of, and the refusals 20, 21 and 22.
use Rattle.std.specs.Prelude.{ℕ, ◌+◌, ◌*◌, Bool, cond, ◌&&◌, not, List, [], ◌∷◌, eqb, length, get_or}
use Rattle.rules.specs.Basics.{tabulate, first_of}
use Rattle.rules.specs.Charge.{Charge}
use Rattle.rules.specs.Site.{Feeder, State}
use Rattle.rules.specs.Calls.{bound_of, fresh, least}
use Rattle.layout.specs.Lists.{every}
use Rattle.layout.specs.Bytes.{number_at}
use Rattle.layout.specs.Arrangement.{number_of, place_of}
use Rattle.layout.specs.Image.{check_of, image_of}
use Rattle.layout.specs.Validity.{is_valid}

-- byte i of block b
abbrev pub in_block : List ℕ → ℕ → ℕ → ℕ
in_block image b i = get_or image (512 * b + i) 0

-- byte j of record q
abbrev pub in_record : List ℕ → ℕ → ℕ → ℕ
in_record image q j = get_or image (place_of (number_of q j)) 0

-- the number of block 0 that begins at place a
unfoldable pub header_at : List ℕ → ℕ → ℕ
header_at image a = number_at (λ i. get_or image i 0) a 4

-- the number of record q that begins at its byte `from`
unfoldable pub field_at : List ℕ → ℕ → ℕ → ℕ → ℕ
field_at image from width q = number_at (in_record image q) from width

-- the charge of record q
abbrev pub charge_in : List ℕ → ℕ → Charge
charge_in image q =
    record {
      ticket = field_at image 0 4 q;
      line = field_at image 18 1 q;
      order_minute = field_at image 12 4 q;
      time = field_at image 16 2 q;
      active_time = field_at image 16 2 q + header_at image 8;
      due = field_at image 8 4 q;
      start = field_at image 4 4 q;
      rate = field_at image 19 1 q;
    }

-- the feeder that an image would be of
abbrev pub feeder_in : List ℕ → Feeder
feeder_in image =
    record {
      limit = header_at image 0;
      percent = header_at image 4;
      bound = bound_of (header_at image 0) (header_at image 4);
      tail = header_at image 8;
      charges = tabulate (charge_in image) (header_at image 20) 0;
    }

-- the station that an image would be of: "a site of one feeder"
unfoldable pub state_in : List ℕ → State
state_in image =
    record {
      feeders = feeder_in image ∷ [];
      site = header_at image 24;
      clock = header_at image 12;
      next = header_at image 16;
    }

abbrev pub sized : List ℕ → Bool
sized image = eqb (length image) 4608

-- the check of block b is right
unfoldable pub checked : List ℕ → ℕ → Bool
checked image b = eqb (check_of (in_block image b)) (number_at (in_block image b) 508 4)

-- two images have the same bytes
abbrev pub same_place : List ℕ → List ℕ → ℕ → Bool
same_place xs ys k = eqb (get_or xs k 0) (get_or ys k 0)

unfoldable pub same : List ℕ → List ℕ → Bool
same xs ys = every (same_place xs ys) 4608

-- an image whose contents are those of this station, and it is valid
unfoldable pub is_of : List ℕ → State → Bool
is_of image s = is_valid s && same image (image_of s)

-- "20, image to write or read not 4,608 bytes; 21, a block's check; 22, contents"
abbrev pub restore_rows : Bool → Bool → Bool → List (Bool × ℕ)
restore_rows size checks contents = (not size, 20) ∷ (not checks, 21) ∷ (not contents, 22) ∷ []

abbrev pub restore_refusals : List ℕ → List (Bool × ℕ)
restore_refusals image = restore_rows (sized image) (every (checked image) 9) (is_of image (state_in image))

-- 0 for an image that is accepted
unfoldable pub restore_refusal : List ℕ → ℕ
restore_refusal image = first_of (restore_refusals image)

pub record RestoreResult : Type 0 where
  pub refusal : ℕ
  pub state : State

-- "Beside a refused restore stands the fresh station of 1, 100 and r = 0": "one feeder and W 720".
abbrev pub restoring : List ℕ → RestoreResult
restoring image =
    record {
      refusal = restore_refusal image;
      state = cond (eqb (restore_refusal image) 0) (state_in image) (fresh least);
    }
