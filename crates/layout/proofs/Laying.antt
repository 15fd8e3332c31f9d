-- Where the bytes of the records lie: each number has one place, and each place behind block 0 one number.
use mathlib.Core.Path.{◌≡◌, ap, sym, ◌∙◌}
use Prim.Native.Nat.{ℕ, ◌+◌, ◌*◌, ◌/◌, ◌%◌, ◌≤◌, ◌<◌}
use native.Mathlib.Omega.{arith}
use Rattle.layout.specs.Arrangement.{per_block, number_of, record_of, byte_in, place_of}
use Rattle.layout.specs.LawsOfPlaces.{number_at_place, EachByteHasAPlace, EachNumberHasAByte, PlacesAreApart}

module _ (q j : ℕ) (record-fits : q < 200) (byte_fits : j < 20) where
  pub number_fits : number_of q j < 4000
  number_fits = omega arith

  pub record_back : record_of (number_of q j) ≡ q
  record_back = omega arith

  pub byte_back : byte_in (number_of q j) ≡ j
  byte_back = omega arith

pub record_inside : (z : ℕ) → z < 4000 → record_of z < 200
record_inside z h = omega arith

pub byte_inside : (z : ℕ) → z < 4000 → byte_in z < 20
byte_inside z h = omega arith

pub number_of_parts : (z : ℕ) → number_of (record_of z) (byte_in z) ≡ z
number_of_parts z = omega arith

module _ (z : ℕ) (inside : z < 4000) where
  pub place_fits : place_of z < 4608
  place_fits = omega arith

  pub place_block : place_of z / 512 ≡ 1 + z / per_block
  place_block = omega arith

  pub place_in_block : place_of z % 512 ≡ z % per_block
  place_in_block = omega arith

pub block_inside : (z : ℕ) → z % per_block < per_block
block_inside z = omega arith

pub block_counted : (z : ℕ) → z % per_block < 508
block_counted z = omega arith

pub parts_of_number : (z : ℕ) → per_block * (z / per_block) + z % per_block ≡ z
parts_of_number z = omega arith

-- The bytes of the records and the places are matched one to one: every byte has a place, which gives back its record and its number
-- in it, and every number below 4,000 is that of one byte.

pub place-back : (z : ℕ) → z < 4000 → number_at_place (place_of z) ≡ z
place-back z h = omega (arith, place_block z h, place_in_block z h, parts_of_number z)

place_behind : (z : ℕ) → 512 ≤ place_of z
place_behind z = omega arith

pub arranged : EachByteHasAPlace
arranged q j h l =
    let f : number_of q j < 4000 = number_fits q j h l in
    let e : number_at_place (place_of (number_of q j)) ≡ number_of q j = place-back (number_of q j) f in
    record {
      behind_header = place_behind (number_of q j);
      inside = place_fits (number_of q j) f;
      before_check = omega (arith, place_in_block (number_of q j) f, block_counted (number_of q j));
      number_back = e;
      record_undone = ap record_of e ∙ record_back q j h l;
      byte_undone = ap byte_in e ∙ byte_back q j h l;
    }

-- and the other way: a number below 4,000 is that of a record and a byte
pub each_number : EachNumberHasAByte
each_number z h = (record_inside z h, byte_inside z h, number_of_parts z)

-- no two bytes have one place
pub places_apart : PlacesAreApart
places_apart q j p i a b c d e =
    let x = arranged q j a b in
    let y = arranged p i c d in (
      sym x.record_undone ∙ ap (λ k. record_of (number_at_place k)) e ∙ y.record_undone,
      sym x.byte_undone ∙ ap (λ k. byte_in (number_at_place k)) e ∙ y.byte_undone,
    )
