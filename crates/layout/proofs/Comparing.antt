-- How many blocks differ: none exactly where two images are equal.
use mathlib.Core.Path.{◌≡◌, refl, ap, sym, ◌∙◌}
use Prim.Native.Nat.{ℕ, zero, suc, ◌+◌, ◌*◌, ◌/◌, ◌%◌, ◌≤◌, ◌<◌}
use mathlib.Core.Bool.{Bool, true, false, cond, ◌&&◌}
use mathlib.Core.List.{List}
use native.Mathlib.Omega.{arith}
use native.Mathlib.Numerals.{add-one}
use lib.ListN.{get_or}
use lib.Seq.{ext_get_or}
use borrow.Author.Tests.{eq-eqb, eqb-true}
use Rattle.rules.proofs.Ranges.{and_left, and_right, and_both}
use Rattle.layout.specs.Lists.{every}
use Rattle.layout.specs.Image.{image_of}
use Rattle.layout.specs.Reading.{in_block, restoring}
use Rattle.layout.specs.Blocks.{failing, same_at, same_block, differing}
use Rattle.layout.specs.LawsOfSaving.{AtMostNineDiffer, NoneDiffersOfEqual, UnchangedRewritesNone, NoBlockLeavesPrevious}
use Rattle.layout.proofs.Listing.{every_all, every_at}
use Rattle.layout.proofs.Imaging.{image_length}
use Rattle.layout.proofs.Refusing.{saving_written, accepted}
use Rattle.layout.proofs.RoundTrip.{accepted_saves, restoring_one}

-- How often a test fails

pub failing_none : (f : ℕ → Bool) → failing f 0 ≡ 0
unfolding failing
failing_none f = refl

-- one number more, as code counts
pub failing_more : (f : ℕ → Bool) (n : ℕ) → failing f (n + 1) ≡ failing f n + cond (f n) 0 1
unfolding failing
failing_more f n = rw (add-one n)

pub failing_most : (f : ℕ → Bool) (n most : ℕ) → n ≤ most → failing f n ≤ most
unfolding failing
failing_most f zero most h = omega arith
failing_most f (suc n) most h = go (f n) (failing_most f n n (omega arith))
  where
    go : (b : Bool) → failing f n ≤ n → failing f n + cond b 0 1 ≤ most
    go true l = omega arith
    go false l = omega arith

every_failing : (f : ℕ → Bool) (n : ℕ) → every f n ≡ true → failing f n ≡ 0
unfolding failing every
every_failing f zero h = refl
every_failing f (suc n) h = rw (every_failing f n (and_left (every f n) (f n) h), and_right (every f n) (f n) h)

failing_every : (f : ℕ → Bool) (n : ℕ) → failing f n ≡ 0 → every f n ≡ true
unfolding failing every
failing_every f zero h = refl
failing_every f (suc n) h = go (f n) refl h (failing_every f n)
  where
    go :
        (b : Bool) → f n ≡ b → failing f n + cond b 0 1 ≡ 0 → (failing f n ≡ 0 → every f n ≡ true) → every f n && f n ≡ true
    go true e z ih = and_both (every f n) (f n) (ih (omega arith)) e
    go false e z ih = absurd (omega arith)

-- Blocks

pub differing_most : AtMostNineDiffer
unfolding differing
differing_most xs ys = failing_most (same_block xs ys) _ 9 (omega arith)

block_self : (xs : List ℕ) (b : ℕ) → same_block xs xs b ≡ true
unfolding same_block
block_self xs b = every_all (same_at xs xs b) _ (λ i h. eq-eqb (in_block xs b i) (in_block xs b i) refl)

pub none_differs : (xs : List ℕ) → differing xs xs ≡ 0
unfolding differing
none_differs xs = every_failing (same_block xs xs) _ (every_all (same_block xs xs) _ (λ b h. block_self xs b))

block_place : (xs ys : List ℕ) (b i : ℕ) → same_block xs ys b ≡ true → i < 512 → in_block xs b i ≡ in_block ys b i
unfolding same_block
block_place xs ys b i e h = eqb-true (in_block xs b i) (in_block ys b i) (every_at (same_at xs ys b) _ e i (omega arith))

each_block : (xs ys : List ℕ) → differing xs ys ≡ 0 → (b : ℕ) → b < 9 → same_block xs ys b ≡ true
unfolding differing
each_block xs ys e b h = every_at (same_block xs ys) _ (failing_every (same_block xs ys) _ e) b (omega arith)

pub equal_images : NoneDiffersOfEqual
equal_images xs ys p q e =
    ext_get_or 0 xs ys (p ∙ sym q)
    (λ k h. place k (omega arith) (block_place xs ys (k / 512) (k % 512) (each_block xs ys e (k / 512) (omega arith)) (omega arith)))
  where
    place : (k : ℕ) → k < 4608 → in_block xs (k / 512) (k % 512) ≡ in_block ys (k / 512) (k % 512) → get_or xs k 0 ≡ get_or ys k 0
    place k h f = let w : 512 * (k / 512) + k % 512 ≡ k = omega arith in rw w at f

-- Saving

pub accepted_same : UnchangedRewritesNone
accepted_same xs list e h =
    saving_written (restoring xs).state xs list (restoring_one xs) (accepted xs e).size h ∙ rw (accepted_saves xs e, none_differs xs)

pub none_written : NoBlockLeavesPrevious
none_written s previous list one h l e =
    let w = saving_written s previous list one h l in
    let d : differing previous (image_of s) ≡ 0 = sym (ap (λ r. r.blocks) w) ∙ e in
    ap (λ r. r.image) w ∙ sym (equal_images previous (image_of s) h (image_length s) d)
