-- An image and its contents say the same once its checks are right.
use mathlib.Core.Logic.{◌⊎◌, inl, inr}
use mathlib.Core.Path.{◌≡◌, ap, sym, ◌∙◌}
use Prim.Native.Nat.{ℕ, zero, suc, ◌+◌, ◌-◌, ◌*◌, ◌/◌, ◌%◌, ◌≤◌, ◌<◌}
use mathlib.Core.Bool.{true}
use mathlib.Core.List.{List}
use native.Mathlib.Omega.{arith}
use lib.ListN.{length, get_or, get_or-eq_default}
use borrow.Author.Tests.{lt-ltb, le-ltb, eq-eqb, eqb-true}
use Rattle.rules.specs.Site.{State}
use Rattle.rules.proofs.Ranges.{below_or_not, same_test}
use Rattle.rules.proofs.Lists.{tabulate_same}
use Rattle.layout.specs.Lists.{every}
use Rattle.layout.specs.Bytes.{byte_of, number_at}
use Rattle.layout.specs.Arrangement.{number_of, place_of}
use Rattle.layout.specs.Image.{content, check_of, block_byte, byte_at, image_of}
use Rattle.layout.specs.Reading.{in_block, in_record, header_at, field_at, charge_in, state_in, checked, same_place, same, is_of}
use Rattle.layout.proofs.Listing.{length-listed, get_d_listed, is_listed, every_at, every_all}
use Rattle.layout.proofs.Numbers.{number_same}
use Rattle.layout.proofs.Checks.{check_same}
use Rattle.layout.proofs.Contents.{byte_content, byte_of_check}
use Rattle.layout.proofs.Imaging.{image_length, image_at}
use Rattle.layout.proofs.Refusing.{same_equal}
use Rattle.blocks.specs.Contents.{taken_at, contents_in, in_contents, laid_at, laid_out, same_part}
use Rattle.records.specs.Contents.{content_byte, contents_of, record_place, record_in, field_in, charge_from, state_from}
use Rattle.image.specs.Answers.{is_from}

pub contents_long : (s : State) → length (contents_of s) ≡ 4572
unfolding contents_of
contents_long s = length-listed (content_byte s) 4572

pub taken_long : (xs : List ℕ) → length (contents_in xs) ≡ 4572
unfolding contents_in
taken_long xs = length-listed (taken_at xs) 4572

-- byte i of block b, in the contents of a station and in those of an image
module _ (b i : ℕ) (block : b < 9) (place : i < 508) where
  content_at : (s : State) → get_or (contents_of s) (508 * b + i) 0 ≡ content s b i
  unfolding contents_of
  content_at s =
      let p : (508 * b + i) / 508 ≡ b = omega arith in
      let q : (508 * b + i) % 508 ≡ i = omega arith in
      get_d_listed (content_byte s) 4572 (508 * b + i) (omega arith) ∙ rw (p, q)

  taken_at_lem : (xs : List ℕ) → get_or (contents_in xs) (508 * b + i) 0 ≡ in_block xs b i
  unfolding contents_in
  taken_at_lem xs =
      let p : (508 * b + i) / 508 ≡ b = omega arith in
      let q : (508 * b + i) % 508 ≡ i = omega arith in
      get_d_listed (taken_at xs) 4572 (508 * b + i) (omega arith) ∙ rw (p, q)

-- The image of a station has its contents

block_same : (f g : ℕ → ℕ) (i : ℕ) → ((j : ℕ) → j < 508 → f j ≡ g j) → block_byte f i ≡ block_byte g i
block_same f g i e = go (below_or_not i 508)
  where
    go : (i < 508) ⊎ (508 ≤ i) → block_byte f i ≡ block_byte g i
    go (inl h) = rw (lt-ltb i 508 h) (e i h)
    go (inr h) = rw (le-ltb i 508 h, check_same f g e)

pub laid_image : (s : State) → laid_out (contents_of s) ≡ image_of s
unfolding laid_out image_of
laid_image s =
    is_listed (byte_at s) 4608 (laid_out (contents_of s)) (length-listed (laid_at (contents_of s)) 4608)
    (λ k h.
    get_d_listed (laid_at (contents_of s)) 4608 k h
    ∙ block_same (in_contents (contents_of s) (k / 512)) (content s (k / 512)) (k % 512) (λ i l. content_at (k / 512) i (omega arith) l s))

-- An image whose checks are right

-- the bytes of a number that is read from four
byte_read :
    (f : ℕ → ℕ) (a j : ℕ) → ((i : ℕ) → f i < 256) → j < 4 → byte_of j (number_at f a 4) ≡ f (a + j)
byte_read f a zero h l = let z : a + 0 ≡ a = omega arith in rw z (omega (arith, h a))
byte_read f a (suc zero) h l =
    let z : a + 1 ≡ suc a = omega arith in rw z (omega (arith, h a, h (suc a)))
byte_read f a (suc (suc zero)) h l =
    let z : a + 2 ≡ suc (suc a) = omega arith in rw z (omega (arith, h a, h (suc a), h (suc (suc a))))
byte_read f a (suc (suc (suc zero))) h l =
    let z : a + 3 ≡ suc (suc (suc a)) = omega arith in
    rw z (omega (arith, h a, h (suc a), h (suc (suc a)), h (suc (suc (suc a)))))
byte_read f a (suc (suc (suc (suc j)))) h l = absurd (omega arith)

module _ (xs : List ℕ) (long : length xs ≡ 4608) where
  module _ (small : (k : ℕ) → get_or xs k 0 < 256) (checks : every (checked xs) 9 ≡ true) (s : State) where
    -- where a block has the contents of the station, its check is that of the station's image
    check_in :
        (b j : ℕ) → b < 9 → j < 4 → ((i : ℕ) → i < 508 → in_block xs b i ≡ content s b i)
        → in_block xs b (508 + j) ≡ byte_of j (check_of (content s b))
    unfolding checked
    check_in b j h l e =
        sym (byte_read (in_block xs b) 508 j (λ i. small (512 * b + i)) l)
        ∙ ap (byte_of j)
        (sym (eqb-true (check_of (in_block xs b)) (number_at (in_block xs b) 508 4) (every_at (checked xs) 9 checks b h))
        ∙ check_same (in_block xs b) (content s b) e)

    byte_in_lem :
        (b i : ℕ) → b < 9 → i < 512 → ((i : ℕ) → i < 508 → in_block xs b i ≡ content s b i) → in_block xs b i ≡ byte_at s (512 * b + i)
    byte_in_lem b i h l e = go (below_or_not i 508)
      where
        go : (i < 508) ⊎ (508 ≤ i) → in_block xs b i ≡ byte_at s (512 * b + i)
        go (inl m) = e i m ∙ sym (byte_content s b i m)
        go (inr m) =
            let z : 508 + (i - 508) ≡ i = omega arith in
            rw z at (check_in b (i - 508) h (omega arith) e ∙ sym (byte_of_check s b (i - 508) (omega arith)))

    alike : same_part (contents_in xs) (contents_of s) 0 4572 ≡ true → same xs (image_of s) ≡ true
    unfolding same_part same
    alike e = every_all (same_place xs (image_of s)) 4608 (λ k h. eq-eqb (get_or xs k 0) (get_or (image_of s) k 0) (whole k h))
      where
        contents : (b i : ℕ) → b < 9 → i < 508 → in_block xs b i ≡ content s b i
        contents b i h l =
            let z : 0 + (508 * b + i) ≡ 508 * b + i = omega arith in
            sym (taken_at_lem b i h l xs)
            ∙ rw z at
            (eqb-true (get_or (contents_in xs) (0 + (508 * b + i)) 0) (get_or (contents_of s) (0 + (508 * b + i)) 0)
            (every_at (λ m. same_place (contents_in xs) (contents_of s) (0 + m)) 4572 e (508 * b + i) (omega arith)))
            ∙ content_at b i h l s

        whole : (k : ℕ) → k < 4608 → get_or xs k 0 ≡ get_or (image_of s) k 0
        whole k h =
            let z : 512 * (k / 512) + k % 512 ≡ k = omega arith in
            rw z at (byte_in_lem (k / 512) (k % 512) (omega arith) (omega arith) (λ i l. contents (k / 512) i (omega arith) l))
            ∙ sym (image_at s k h)

    apart : same xs (image_of s) ≡ true → same_part (contents_in xs) (contents_of s) 0 4572 ≡ true
    unfolding same_part
    apart e =
        every_all (λ m. same_place (contents_in xs) (contents_of s) (0 + m)) 4572
        (λ m h.
        let z : 0 + m ≡ m = omega arith in
        rw z (eq-eqb (get_or (contents_in xs) m 0) (get_or (contents_of s) m 0) (each m h)))
      where
        each : (m : ℕ) → m < 4572 → get_or (contents_in xs) m 0 ≡ get_or (contents_of s) m 0
        each m h =
            let z : 508 * (m / 508) + m % 508 ≡ m = omega arith in
            let b : m / 508 < 9 = omega arith in
            let i : m % 508 < 508 = omega arith in
            rw z at
            (taken_at_lem (m / 508) (m % 508) b i xs
            ∙ ap (λ ys. in_block ys (m / 508) (m % 508)) (same_equal xs (image_of s) long (image_length s) e)
            ∙ image_at s (512 * (m / 508) + m % 508) (omega arith)
            ∙ byte_content s (m / 508) (m % 508) i
            ∙ sym (content_at (m / 508) (m % 508) b i s))

    of_contents : is_of xs s ≡ is_from (contents_in xs) s
    unfolding is_of is_from
    of_contents = rw (same_test (same xs (image_of s)) (same_part (contents_in xs) (contents_of s) 0 4572) apart alike)

  -- What is read from either

  header_taken : (a : ℕ) → a + 4 ≤ 28 → header_at (contents_in xs) a ≡ header_at xs a
  unfolding header_at
  header_taken a h =
      number_same (λ i. get_or (contents_in xs) i 0) (λ i. get_or xs i 0) a 4
      (λ i p q. let z : 0 + i ≡ i = omega arith in rw z at (taken_at_lem 0 i (omega arith) (omega arith) xs))

  -- behind the last record both have nothing
  record_taken : (q j : ℕ) → record_in (contents_in xs) q j ≡ in_record xs q j
  record_taken q j = go (below_or_not (record_place q j) 4572)
    where
      go : (record_place q j < 4572) ⊎ (4572 ≤ record_place q j) → record_in (contents_in xs) q j ≡ in_record xs q j
      go (inl h) =
          let b : record_place q j / 508 ≡ 1 + number_of q j / 508 = omega arith in
          let i : record_place q j % 508 ≡ number_of q j % 508 = omega arith in
          let z : 508 * (1 + number_of q j / 508) + number_of q j % 508 ≡ record_place q j = omega arith in
          rw z at (taken_at_lem (1 + number_of q j / 508) (number_of q j % 508) (omega arith) (omega arith) xs)
      go (inr h) =
          get_or-eq_default (contents_in xs) 0 {n = record_place q j} (omega (arith, taken_long xs))
          ∙ sym (get_or-eq_default xs 0 {n = place_of (number_of q j)} (omega arith))

  field_taken : (from width q : ℕ) → field_in (contents_in xs) from width q ≡ field_at xs from width q
  unfolding field_in field_at
  field_taken from width q = number_same (record_in (contents_in xs) q) (in_record xs q) from width (λ j p l. record_taken q j)

  charge_taken : (q : ℕ) → charge_from (contents_in xs) (header_at xs 8) q ≡ charge_in xs q
  charge_taken q =
      rw (field_taken 0 4 q, field_taken 18 1 q, field_taken 12 4 q, field_taken 16 2 q, field_taken 8 4 q, field_taken 4 4 q, field_taken 19 1 q)

  pub state_taken : state_from (contents_in xs) ≡ state_in xs
  unfolding state_from state_in
  state_taken =
      rw (
        header_taken 0 (omega arith),
        header_taken 4 (omega arith),
        header_taken 8 (omega arith),
        header_taken 12 (omega arith),
        header_taken 16 (omega arith),
        header_taken 20 (omega arith),
        header_taken 24 (omega arith),
        tabulate_same (charge_from (contents_in xs) (header_at xs 8)) (charge_in xs) (header_at xs 20) 0 (λ q p l. charge_taken q),
      )

  -- the contents of an image are right exactly where those that were taken are
  pub right_taken :
      ((k : ℕ) → get_or xs k 0 < 256)
      → every (checked xs) 9 ≡ true
      → is_of xs (state_in xs) ≡ is_from (contents_in xs) (state_from (contents_in xs))
  right_taken small checks = of_contents small checks (state_in xs) ∙ ap (is_from (contents_in xs)) (sym state_taken)
