-- Contents taken from an image, block by block.
use mathlib.Core.Path.{◌≡◌, ap, ◌∙◌}
use Prim.Native.Nat.{ℕ, ◌+◌, ◌-◌, ◌*◌, ◌/◌, ◌%◌, ◌≤◌, ◌<◌}
use mathlib.Core.List.{List}
use native.Mathlib.Omega.{arith}
use lib.ListN.{length, get_or}
use borrow.Rule.Slice.PartMut.{put_mid}
use Rattle.std.specs.List.{between}
use Rattle.std.proofs.lemmas.List.Edits.{length-between, get_or-between}
use Rattle.layout.specs.Reading.{in_block}
use Rattle.blocks.specs.Places.{Filling}
use Rattle.blocks.specs.Contents.{taken_at, contents_in}
use Rattle.blocks.proofs.Filling.{filling_part, filling_all}

pub taken_in : (image : List ℕ) (b i : ℕ) → i < 508 → in_block image b i ≡ taken_at image (508 * b + i)
taken_in image b i h =
    let p : (508 * b + i) / 508 ≡ b = omega arith in
    let q : (508 * b + i) % 508 ≡ i = omega arith in
    rw (p, q)

module _ (image : List ℕ) (b : ℕ) (long : length image ≡ 4608) (inside : b < 9) where
  abbrev bytes : List ℕ
  bytes = between (512 * b) (512 * b + 508) image

  bytes_long : length bytes ≡ 508
  bytes_long = omega (arith, length-between image (512 * b) (512 * b + 508) (omega arith))

  byte_taken : (i : ℕ) → i < 508 → get_or bytes i 0 ≡ in_block image b i
  byte_taken i h = get_or-between image (512 * b) (512 * b + 508) i 0 (omega arith)

  pub taking_more :
      {xs : List ℕ} (ys : List ℕ)
      → Filling (taken_at image) 4572 (508 * b) xs
      → ys ≡ bytes
      → Filling (taken_at image) 4572 (508 * (b + 1)) (put_mid (508 * b) (508 * (b + 1) - 508 * b) xs ys)
  taking_more {xs} ys r e =
      let n : 508 * (b + 1) ≡ 508 * b + 508 = omega arith in
      let m : 508 * b + 508 - 508 * b ≡ 508 = omega arith in
      rw (n, m)
      (filling_part ys r (ap length e ∙ bytes_long) (omega arith) (λ i h. ap (λ zs. get_or zs i 0) e ∙ byte_taken i h ∙ taken_in image b i h))

pub taken_all : (image : List ℕ) {xs : List ℕ} {k : ℕ} → Filling (taken_at image) 4572 k xs → 4572 ≤ k → xs ≡ contents_in image
unfolding contents_in
taken_all image r h = filling_all r h
