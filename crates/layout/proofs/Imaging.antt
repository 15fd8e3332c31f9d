-- What stands at each place of the image of a station, and that its checks are right.
use mathlib.Core.Path.{◌≡◌, refl, ap, sym, ◌∙◌}
use Prim.Native.Nat.{ℕ, ◌+◌, ◌-◌, ◌*◌, ◌/◌, ◌%◌, ◌≤◌, ◌<◌}
use mathlib.Core.Bool.{true}
use mathlib.Core.List.{List}
use native.Mathlib.Omega.{arith}
use lib.ListN.{length, get_or}
use borrow.Author.Tests.{eq-eqb}
use Rattle.rules.specs.Site.{State}
use Rattle.layout.specs.Lists.{every}
use Rattle.layout.specs.Bytes.{byte_of, number_at, packed}
use Rattle.layout.specs.Arrangement.{per_block, number_of, place_of}
use Rattle.layout.specs.Image.{only, held_at, header_of, fields_of, record_byte, numbered, content, check_of, byte_at, image_of}
use Rattle.layout.specs.Reading.{in_block, in_record, header_at, field_at, checked, same, same_place}
use Rattle.layout.specs.LawsOfPlaces.{EachPlaceHasItsByte}
use Rattle.layout.proofs.Listing.{length-listed, get_d_listed, every_all}
use Rattle.layout.proofs.Numbers.{four, number_same}
use Rattle.layout.proofs.Checks.{check_same, check_small}
use Rattle.layout.proofs.Laying.{number_fits, record_back, byte_back, place_fits, place_block, place_in_block, block_inside, block_counted, parts_of_number}
use Rattle.layout.proofs.Contents.{record_held, numbered_in, content_header, content_records, byte_counted, byte_content, byte_of_check, content_small}

pub image_at : EachPlaceHasItsByte
unfolding image_of
image_at s k h = get_d_listed (byte_at s) 4608 k h

module _ (s : State) where
  pub image_length : length (image_of s) ≡ 4608
  unfolding image_of
  image_length = length-listed (byte_at s) 4608

  pub in_header : (i : ℕ) → i < 508 → get_or (image_of s) i 0 ≡ packed (header_of s) i
  in_header i h =
      let e : 512 * 0 + i ≡ i = omega arith in
      image_at s i (omega arith) ∙ (rw e at (byte_content s 0 i h)) ∙ content_header s i

  pub in_record_lem : (q j : ℕ) → q < 200 → j < 20 → in_record (image_of s) q j ≡ record_byte s q j
  in_record_lem q j h l =
      let z = number_of q j in
      let f : z < 4000 = number_fits q j h l in
      let m : place_of z % 512 ≡ z % per_block = place_in_block z f in
      let w : per_block * (1 + z / per_block - 1) + z % per_block ≡ z = omega (arith, parts_of_number z) in
      image_at s (place_of z) (place_fits z f)
      ∙ byte_counted s (place_of z) (omega (arith, block_counted z))
      ∙ rw (place_block z f, m) (content_records s (1 + z / per_block) (z % per_block) (λ e. omega arith) (block_inside z))
      ∙ ap (numbered s) w
      ∙ numbered_in s z f
      ∙ rw (record_back q j h l, byte_back q j h l)

  -- Numbers read from it

  pub header_number : (a : ℕ) → a + 4 ≤ 28 → header_at (image_of s) a ≡ number_at (packed (header_of s)) a 4
  unfolding header_at
  header_number a h = number_same (λ i. get_or (image_of s) i 0) (packed (header_of s)) a 4 (λ i p q. in_header i (omega arith))

  pub record_number :
      (q from width : ℕ)
      → q < length (only s).charges
      → length (only s).charges ≤ 180
      → from + width ≤ 20
      → field_at (image_of s) from width q ≡ number_at (packed (fields_of (held_at s q))) from width
  unfolding field_at
  record_number q from width h l w =
      number_same (in_record (image_of s) q) (packed (fields_of (held_at s q))) from width
      (λ j p r. in_record_lem q j (omega arith) (omega arith) ∙ record_held s q j h)

  -- Its checks are right

  in_block_lem : (b i : ℕ) → b < 9 → i < 508 → in_block (image_of s) b i ≡ content s b i
  in_block_lem b i h l = image_at s (512 * b + i) (omega arith) ∙ byte_content s b i l

  check_bytes : (b i : ℕ) → b < 9 → 508 ≤ i → i < 512 → in_block (image_of s) b i ≡ byte_of (i - 508) (check_of (content s b))
  check_bytes b i h p q =
      let e : i ≡ 508 + (i - 508) = omega arith in
      image_at s (512 * b + i) (omega arith)
      ∙ ap (λ j. byte_at s (512 * b + j)) e
      ∙ byte_of_check s b (i - 508) (omega arith)

  pub image_checked : (b : ℕ) → b < 9 → checked (image_of s) b ≡ true
  unfolding checked
  image_checked b h =
      eq-eqb (check_of (in_block (image_of s) b)) (number_at (in_block (image_of s) b) 508 4)
      (check_same (in_block (image_of s) b) (content s b) (λ i l. in_block_lem b i h l)
      ∙ sym (four (check_of (content s b)) (check_small (content s b) (λ i l. content_small s b i)))
      ∙ sym (number_same (in_block (image_of s) b) (λ i. byte_of (i - 508) (check_of (content s b))) 508 4 (λ i p q. check_bytes b i h p (omega arith))))

  pub all_checked : every (checked (image_of s)) 9 ≡ true
  all_checked = every_all (checked (image_of s)) 9 (λ b h. image_checked b h)

pub same_self : (xs : List ℕ) → same xs xs ≡ true
unfolding same
same_self xs = every_all (same_place xs xs) _ (λ k h. eq-eqb (get_or xs k 0) (get_or xs k 0) refl)
