-- What is said of the bytes of an image: what stands at each place, how large a check may be, and where the records lie.
use Rattle.std.specs.Prelude.{◌≡◌, ℕ, ◌+◌, ◌-◌, ◌*◌, ◌/◌, ◌%◌, ◌≤◌, ◌<◌, get_or}
use Rattle.rules.specs.Site.{State}
use Rattle.layout.specs.Arrangement.{per_block, number_of, record_of, byte_in, place_of}
use Rattle.layout.specs.Image.{check_of, byte_at, image_of}

-- Each of the 4,608 places of the image of a station has the byte that the rules give.
abbrev pub EachPlaceHasItsByte : Type 0
EachPlaceHasItsByte = (s : State) (k : ℕ) → k < 4608 → get_or (image_of s) k 0 ≡ byte_at s k

-- No check of 508 bytes is above that of bytes of 255, so that 32 bits hold it.
abbrev pub ChecksFit : Type 0
ChecksFit = (f : ℕ → ℕ) → ((i : ℕ) → i < 508 → f i < 256) → check_of f ≤ 32967930

-- the number that lies at a place behind block 0
abbrev pub number_at_place : ℕ → ℕ
number_at_place p = per_block * (p / 512 - 1) + p % 512

-- Byte j of record q has a place behind block 0 and before a check, and the place tells the record and the byte.
pub record Arranged (q j : ℕ) : Type 0 where
  pub behind_header : 512 ≤ place_of (number_of q j)
  pub inside : place_of (number_of q j) < 4608
  pub before_check : place_of (number_of q j) % 512 < 508
  pub number_back : number_at_place (place_of (number_of q j)) ≡ number_of q j
  pub record_undone : record_of (number_at_place (place_of (number_of q j))) ≡ q
  pub byte_undone : byte_in (number_at_place (place_of (number_of q j))) ≡ j

abbrev pub EachByteHasAPlace : Type 0
EachByteHasAPlace = (q j : ℕ) → q < 200 → j < 20 → Arranged q j

-- And the other way: each number below 4,000 is that of a record and a byte.
abbrev pub EachNumberHasAByte : Type 0
EachNumberHasAByte =
    (z : ℕ) → z < 4000 → (record_of z < 200) × (byte_in z < 20) × (number_of (record_of z) (byte_in z) ≡ z)

-- No two bytes of records have one place.
abbrev pub PlacesAreApart : Type 0
PlacesAreApart =
    (q j p i : ℕ)
    → q < 200
    → j < 20
    → p < 200
    → i < 20
    → place_of (number_of q j) ≡ place_of (number_of p i)
    → (q ≡ p) × (j ≡ i)
