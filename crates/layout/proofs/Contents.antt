-- The content of a block and the bytes of an image, by place.
use mathlib.Core.Path.{◌≡◌, refl}
use Prim.Native.Nat.{ℕ, ◌+◌, ◌-◌, ◌*◌, ◌/◌, ◌%◌, ◌≤◌, ◌<◌}
use native.Mathlib.Omega.{arith}
use lib.Dec.{ltb, eqb}
use mathlib.Core.Bool.{cond}
use lib.ListN.{length}
use borrow.Author.Tests.{lt-ltb, le-ltb, ne_eqb}
use Rattle.rules.specs.Site.{State}
use Rattle.layout.specs.Bytes.{byte_of, packed}
use Rattle.layout.specs.Arrangement.{per_block, record_of, byte_in}
use Rattle.layout.specs.Image.{only, held_at, header_of, fields_of, record_byte, numbered, content, check_of, byte_at}
use Rattle.layout.proofs.Numbers.{cond_small, packed_small}

module _ (s : State) where
  -- Records

  pub record_held : (q j : ℕ) → q < length (only s).charges → record_byte s q j ≡ packed (fields_of (held_at s q)) j
  unfolding record_byte
  record_held q j h = rw (lt-ltb q (length (only s).charges) h)

  pub record_none : (q j : ℕ) → length (only s).charges ≤ q → ◌≡◌ {A = ℕ} (record_byte s q j) 0
  unfolding record_byte
  record_none q j h = rw (le-ltb q (length (only s).charges) h)

  pub numbered_in : (z : ℕ) → z < 4000 → numbered s z ≡ record_byte s (record_of z) (byte_in z)
  unfolding numbered
  numbered_in z h = rw (lt-ltb z 4000 h)

  pub numbered_out : (z : ℕ) → 4000 ≤ z → ◌≡◌ {A = ℕ} (numbered s z) 0
  unfolding numbered
  numbered_out z h = rw (le-ltb z 4000 h)

  -- Blocks

  pub content_header : (i : ℕ) → content s 0 i ≡ packed (header_of s) i
  unfolding content
  content_header i = refl

  pub content_records : (b i : ℕ) → (b ≡ 0 → ⊥) → i < per_block → content s b i ≡ numbered s (per_block * (b - 1) + i)
  unfolding content
  content_records b i n h = rw (ne_eqb b 0 n, lt-ltb i per_block h)

  pub content_rest : (b i : ℕ) → (b ≡ 0 → ⊥) → per_block ≤ i → ◌≡◌ {A = ℕ} (content s b i) 0
  unfolding content
  content_rest b i n h = rw (ne_eqb b 0 n, le-ltb i per_block h)

  -- The image

  pub byte_counted : (k : ℕ) → k % 512 < 508 → byte_at s k ≡ content s (k / 512) (k % 512)
  byte_counted k h = rw (lt-ltb (k % 512) 508 h)

  pub byte_content : (b i : ℕ) → i < 508 → byte_at s (512 * b + i) ≡ content s b i
  byte_content b i h =
      let p : (512 * b + i) / 512 ≡ b = omega arith in
      let q : (512 * b + i) % 512 ≡ i = omega arith in
      rw (p, q, lt-ltb i 508 h)

  pub byte_of_check : (b j : ℕ) → j < 4 → byte_at s (512 * b + (508 + j)) ≡ byte_of j (check_of (content s b))
  byte_of_check b j h =
      let p : (512 * b + (508 + j)) / 512 ≡ b = omega arith in
      let q : (512 * b + (508 + j)) % 512 ≡ 508 + j = omega arith in
      let r : 508 + j - 508 ≡ j = omega arith in
      rw (p, q, le-ltb (508 + j) 508 (omega arith), r)

  -- Bytes are below 256

  pub record_small : (q j : ℕ) → record_byte s q j < 256
  unfolding record_byte
  record_small q j =
      cond_small (ltb q (length (only s).charges)) (packed (fields_of (held_at s q)) j) 0 (packed_small (fields_of (held_at s q)) j)
      (omega arith)

  pub numbered_small : (z : ℕ) → numbered s z < 256
  unfolding numbered
  numbered_small z =
      cond_small (ltb z 4000) (record_byte s (record_of z) (byte_in z)) 0 (record_small (record_of z) (byte_in z)) (omega arith)

  pub content_small : (b i : ℕ) → content s b i < 256
  unfolding content
  content_small b i =
      cond_small (eqb b 0) (packed (header_of s) i) (cond (ltb i per_block) (numbered s (per_block * (b - 1) + i)) 0)
      (packed_small (header_of s) i)
      (cond_small (ltb i per_block) (numbered s (per_block * (b - 1) + i)) 0 (numbered_small (per_block * (b - 1) + i)) (omega arith))
