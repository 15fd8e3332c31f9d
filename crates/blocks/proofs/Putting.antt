-- Contents put into an image, block by block, each with its check.
use mathlib.Core.Path.{◌≡◌, ap, ◌∙◌}
use Prim.Native.Nat.{ℕ, ◌+◌, ◌-◌, ◌*◌, ◌/◌, ◌%◌, ◌≤◌, ◌<◌}
use mathlib.Core.List.{List}
use native.Mathlib.Omega.{arith}
use lib.ListN.{length, get_or}
use borrow.Author.Tests.{lt-ltb, le-ltb}
use borrow.Rule.Slice.PartMut.{put_mid}
use Rattle.std.specs.List.{between}
use Rattle.std.proofs.lemmas.List.Edits.{length-between, get_or-between}
use Rattle.layout.specs.Bytes.{byte_of}
use Rattle.layout.specs.Image.{check_of}
use Rattle.blocks.specs.Places.{Filling, Put}
use Rattle.blocks.specs.Contents.{in_contents, laid_at, laid_out}
use Rattle.blocks.proofs.Filling.{filling_part, filling_all, filling_put}

module _ (contents : List ℕ) (b : ℕ) where
  laid_content : (i : ℕ) → i < 508 → in_contents contents b i ≡ laid_at contents (512 * b + i)
  laid_content i h =
      let p : (512 * b + i) / 512 ≡ b = omega arith in
      let q : (512 * b + i) % 512 ≡ i = omega arith in
      rw (p, q, lt-ltb i 508 h)

  laid_check : (j : ℕ) → j < 4 → byte_of j (check_of (in_contents contents b)) ≡ laid_at contents (512 * b + 508 + j)
  laid_check j h =
      let p : (512 * b + 508 + j) / 512 ≡ b = omega arith in
      let q : (512 * b + 508 + j) % 512 ≡ 508 + j = omega arith in
      let r : 508 + j - 508 ≡ j = omega arith in
      rw (p, q, le-ltb (508 + j) 508 (omega arith), r)

module _ (contents : List ℕ) (b : ℕ) (long : length contents ≡ 4572) (inside : b < 9) where
  abbrev bytes : List ℕ
  bytes = between (508 * b) (508 * (b + 1)) contents

  pub bytes_long : length bytes ≡ 508
  bytes_long = omega (arith, length-between contents (508 * b) (508 * (b + 1)) (omega arith))

  pub byte_put : (i : ℕ) → i < 508 → get_or bytes i 0 ≡ in_contents contents b i
  byte_put i h = get_or-between contents (508 * b) (508 * (b + 1)) i 0 (omega arith)

  -- the bytes of a block, and the check behind them
  pub putting_more :
      {xs after : List ℕ} {sum : ℕ} (ys : List ℕ)
      → Filling (laid_at contents) 4608 (512 * b) xs
      → ys ≡ bytes
      → sum ≡ check_of (in_contents contents b)
      → Put (put_mid (512 * b) (512 * b + 508 - 512 * b) xs ys) after (512 * b + 508) sum
      → Filling (laid_at contents) 4608 (512 * (b + 1)) after
  putting_more {xs} {after} {sum} ys r e s p =
      let m : 512 * b + 508 - 512 * b ≡ 508 = omega arith in
      filling_put sum (512 * (b + 1))
      (filling_part ys r (ap length e ∙ bytes_long) (omega arith) (λ i h. ap (λ zs. get_or zs i 0) e ∙ byte_put i h ∙ laid_content contents b i h))
      (rw m at p) (omega arith) (λ j h. ap (byte_of j) s ∙ laid_check contents b j h) (omega arith)

pub put_all : (contents : List ℕ) {xs : List ℕ} {k : ℕ} → Filling (laid_at contents) 4608 k xs → 4608 ≤ k → xs ≡ laid_out contents
unfolding laid_out
put_all contents r h = filling_all r h
