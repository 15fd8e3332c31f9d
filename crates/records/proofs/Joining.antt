-- Bytes joined to a number.
use mathlib.Core.Path.{◌≡◌, ◌∙◌}
use Prim.Native.Nat.{ℕ, zero, suc, ◌+◌, ◌-◌, ◌*◌, ◌≤◌, ◌<◌}
use mathlib.Core.List.{List}
use native.Mathlib.Omega.{arith}
use Rattle.layout.specs.Bytes.{number_at}
use Rattle.records.specs.Contents.{record_in, field_in}
use Rattle.records.specs.Columns.{capacity}

-- bytes joined from the highest down: those of a number of w bytes at a, down to byte j
pub record Joined (f : ℕ → ℕ) (a w j v : ℕ) : Type 0 where
  pub low : j ≤ w
  pub small : v < capacity (w - j)
  pub joined : v ≡ number_at f (a + j) (w - j)

pub joined-none : (f : ℕ → ℕ) (a w : ℕ) → Joined f a w w 0
joined-none f a w = let e : w - w ≡ 0 = omega arith in record { low = omega arith; small = rw e (omega arith); joined = rw e }

pub joined-more :
    {f : ℕ → ℕ} {a w j v : ℕ} → Joined f a w j v → (b : ℕ) → 0 < j → b < 256 → b ≡ f (a + (j - 1)) → Joined f a w (j - 1) (256 * v + b)
joined-more {f} {a} {w} {j} {v} r b p l e =
    let m : w - (j - 1) ≡ suc (w - j) = omega (arith, r.low) in
    let s : a + j ≡ suc (a + (j - 1)) = omega arith in
    record {
      low = omega (arith, r.low);
      small = rw m (omega (arith, r.small));
      joined = rw (m, ← s) (omega (arith, r.joined));
    }

pub joined_all : {f : ℕ → ℕ} {a w j v : ℕ} → Joined f a w j v → j ≤ 0 → (v ≡ number_at f a w) × (v < capacity w)
joined_all {f} {a} {w} {j} {v} r h =
    let m : w - j ≡ w = omega arith in
    let s : a + j ≡ a = omega arith in
    (r.joined ∙ rw (m, s), rw m at r.small)

pub field_joined :
    (xs : List ℕ) (a w q : ℕ) {j v : ℕ}
    → Joined (record_in xs q) a w j v
    → j ≤ 0
    → (v ≡ field_in xs a w q) × (v < capacity w)
unfolding field_in
field_joined xs a w q r h = joined_all r h

pub joined_fits : {f : ℕ → ℕ} {a w j v : ℕ} → Joined f a w j v → w ≤ 4 → 0 < j → v < 16777216
joined_fits {f} {a} {w} {j} {v} r h p = fits (w - j) (omega (arith, r.low)) r.small
  where
    fits : (n : ℕ) → n ≤ 3 → v < capacity n → v < 16777216
    fits zero h l = omega arith
    fits (suc zero) h l = omega arith
    fits (suc (suc zero)) h l = omega arith
    fits (suc (suc (suc zero))) h l = omega arith
    fits (suc (suc (suc (suc n)))) h l = absurd (omega arith)
