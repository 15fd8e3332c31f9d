-- Lists of bytes that code compares as wholes, the chunks of two images, and the blocks of one.
use mathlib.Core.Logic.{inl, inr}
use mathlib.Core.Path.{◌≡◌, refl, ap, sym, subst, ◌∙◌}
use Prim.Native.Nat.{ℕ, zero, suc, ◌+◌, ◌*◌, ◌/◌, ◌≤◌, ◌<◌}
use mathlib.Core.Bool.{Bool, true, false, cond, not}
use mathlib.Core.List.{List, [], ◌∷◌}
use native.Mathlib.Omega.{arith}
use native.Mathlib.Numerals.{add-one}
use denote.Ref.{Bor}
use lib.Dec.{eqb}
use lib.ListN.{length, get_or, take, drop}
use lib.Seq.{ext_get_or}
use borrow.Author.Tests.{eq-eqb, eqb-true}
use Rattle.std.proofs.Common.{Option, Some, None}
use Rattle.std.specs.List.{fold, list_all, IsSubsliceAt}
use Rattle.std.specs.Option.{option_map, IfSome}
use Rattle.std.specs.Cmp.Lexicographic.{pointwise}
use Rattle.std.specs.Slice.Iter.{chunks_steps, chunks_size, chunks_rest}
use Rattle.std.specs.Simd.{first_chunks}
use Rattle.std.specs.Iterator.Runs.{Run, IsChunksRun, IsZipRun}
use Rattle.std.proofs.lemmas.List.{take_more, take_all, get_or-take, get_or-drop, drop-drop}
use Rattle.std.proofs.lemmas.List.Folds.{list_all_more}
use Rattle.std.proofs.lemmas.List.Sums.{fold-append}
use Rattle.std.proofs.lemmas.Slice.Eq.{slice_eq-Decides}
use Rattle.std.proofs.lemmas.Bool.Decides.{Decides-eqb}
use Rattle.rules.proofs.Ranges.{same_test}
use Rattle.layout.specs.Lists.{every}
use Rattle.layout.specs.Reading.{checked, same_place}
use Rattle.layout.specs.Blocks.{failing, same_at, same_block, differing}
use Rattle.layout.proofs.Listing.{every_at, every_all}
use Rattle.blocks.specs.Contents.{same_part}
use Rattle.blocks.proofs.Checking.{checked_same}

every_same : (f g : ℕ → Bool) (n : ℕ) → ((i : ℕ) → i < n → f i ≡ g i) → every f n ≡ every g n
unfolding every
every_same f g zero h = refl
every_same f g (suc n) h = rw (every_same f g n (λ i l. h i (omega arith)), h n (omega arith))

-- `==` of lists of the same length
pointwise_every :
    (xs ys : List ℕ) (n : ℕ) → length xs ≡ n → length ys ≡ n → pointwise eqb xs ys ≡ every (same_place xs ys) n
pointwise_every xs ys n l m = same_test (pointwise eqb xs ys) (every (same_place xs ys) n) there back
  where
    decides : (pointwise eqb xs ys ≡ true → xs ≡ ys) × (xs ≡ ys → pointwise eqb xs ys ≡ true)
    decides = slice_eq-Decides Decides-eqb xs ys (pointwise eqb xs ys) refl

    there : pointwise eqb xs ys ≡ true → every (same_place xs ys) n ≡ true
    there e = every_all (same_place xs ys) n (λ i h. eq-eqb (get_or xs i 0) (get_or ys i 0) (ap (λ zs. get_or zs i 0) (decides.0 e)))

    back : every (same_place xs ys) n ≡ true → pointwise eqb xs ys ≡ true
    back e =
        decides.1
        (ext_get_or 0 xs ys (l ∙ sym m)
        (λ i h. eqb-true (get_or xs i 0) (get_or ys i 0) (every_at (same_place xs ys) n e i (omega arith))))

pub same_part_told : (xs ys : List ℕ) (n : ℕ) → length xs ≡ n → length ys ≡ n → pointwise eqb xs ys ≡ same_part xs ys 0 n
unfolding same_part
same_part_told xs ys n l m =
    pointwise_every xs ys n l m
    ∙ every_same (same_place xs ys) (λ i. same_place xs ys (0 + i)) n (λ i h. let z : 0 + i ≡ i = omega arith in rw z refl)

-- Blocks

block_told :
    (xs ys x y : List ℕ) (k : ℕ)
    → length xs ≡ 4608
    → length ys ≡ 4608
    → k < 9
    → IsSubsliceAt 512 xs (k * 512) x
    → IsSubsliceAt 512 ys (k * 512) y
    → pointwise eqb x y ≡ same_block xs ys k
unfolding same_block
block_told xs ys x y k l m h p q =
    pointwise_every x y 512 (omega (arith, p.1)) (omega (arith, q.1))
    ∙ every_same (same_place x y) (same_at xs ys k) 512
    (λ i s.
    let z : k * 512 + i ≡ 512 * k + i = omega arith in
    rw (p.2 i 0 s, q.2 i 0 s, z))

fold_failing :
    {A : Type 0} (f : ℕ → Bool) (t : A → Bool) (d : A) (items : List A)
    → ((k : ℕ) → k < length items → t (get_or items k d) ≡ not (f k))
    → (n : ℕ)
    → n ≤ length items
    → fold (λ a x. a + cond (t x) 1 0) 0 (take n items) ≡ failing f n
unfolding failing
fold_failing f t d items h zero l = refl
fold_failing f t d items h (suc n) l =
    rw (← add-one n, take_more items n d l, fold-append (λ a x. a + cond (t x) 1 0) 0 (take n items) (get_or items n d ∷ []), fold_failing f t d items h n (omega arith), h n l)
    (ap (λ m. failing f n + m) (negated (f n)))
  where
    negated : (b : Bool) → ◌≡◌ {A = ℕ} (cond (not b) 1 0) (cond b 0 1)
    negated true = refl
    negated false = refl

-- an item of a run
at_item :
    {S A : Type 0} {steps : S → Option A → S → Type 0} (q : Run steps) (k : ℕ) (d : A) → k < q.len → q.at k ≡ Some (get_or q.items k d)
at_item {A = A} q k d h = go (q.at k) (q.reads k d h)
  where
    go : (o : Option A) → option_map (λ y. y) o ≡ Some (get_or q.items k d) → o ≡ Some (get_or q.items k d)
    go None e = cc
    go (Some y) e = e

part :
    (xs : List ℕ) (k : ℕ) (o : Option (Bor (List ℕ)))
    → IfSome o (λ y. (0 < length y.now) × (k * 512 < length xs) × IsSubsliceAt 512 xs (k * 512) y.now)
    → IfSome o (λ y. IsSubsliceAt 512 xs (k * 512) y.now)
part xs k None e = tt
part xs k (Some y) e = e.2

-- the run of the chunks of 512 bytes
pub chunks_run :
    (xs : List ℕ) (a : Run (chunks_steps {A = ℕ}))
    → (0 < chunks_size a.from → IsChunksRun a (chunks_size a.from) (chunks_rest a.from))
    → chunks_size a.from ≡ 512
    → chunks_rest a.from ≡ xs
    → IsChunksRun a 512 xs
chunks_run xs a h e l = rw (e, l) at h (omega arith)

-- the pairs of the chunks of two images, and of how many the test says that they differ
pub differing_told :
    {S : Type 0} {zips : S → Option (Bor (List ℕ) × Bor (List ℕ)) → S → Type 0} (xs ys : List ℕ) (q : Run zips)
    (a b : Run (chunks_steps {A = ℕ}))
    → length xs ≡ 4608
    → length ys ≡ 4608
    → q.whole ≡ true
    → IsZipRun q a b
    → IsChunksRun a 512 xs
    → IsChunksRun b 512 ys
    → fold (λ n p. n + cond (not (pointwise eqb p.0.now p.1.now)) 1 0) 0 q.items ≡ differing xs ys
unfolding differing
differing_told {zips = zips} xs ys q a b l m w z p r =
    ap (fold (λ n x. n + cond (unlike x) 1 0) 0) (sym (take_all 9 q.items (omega (arith, nine, q.long))))
    ∙ fold_failing (same_block xs ys) unlike none q.items (λ k h. ap not (alike k (omega (arith, nine, q.long)))) 9 (omega (arith, nine, q.long))
  where
    Pair : Type 0
    Pair = Bor (List ℕ) × Bor (List ℕ)

    unlike : Pair → Bool
    unlike x = not (pointwise eqb x.0.now x.1.now)

    none : Pair
    none = (record { ref_ptr = (0, 0); now = [] }, record { ref_ptr = (0, 0); now = [] })

    nine : q.len ≡ 9
    nine = elim (z.2 w) [
      | inl e ↦ sym z.0.0 ∙ rw l at (p.1 e)
      | inr e ↦ sym z.1.0 ∙ rw m at (r.1 e)
    ]

    alike : (k : ℕ) → k < 9 → pointwise eqb (get_or q.items k none).0.now (get_or q.items k none).1.now ≡ same_block xs ys k
    alike k h =
        let x : Pair = get_or q.items k none in
        let at : q.at k ≡ Some x = at_item q k none (omega (arith, nine)) in
        let P : Option (Bor (List ℕ)) → Type 0 = λ o. IfSome o (λ y. IsSubsliceAt 512 xs (k * 512) y.now) in
        let Q : Option (Bor (List ℕ)) → Type 0 = λ o. IfSome o (λ y. IsSubsliceAt 512 ys (k * 512) y.now) in
        block_told xs ys x.0.now x.1.now k l m h
        (subst P (z.0.2 k ∙ ap (option_map (λ (y : Pair). y.0)) at) (part xs k (a.at k) (p.2 k)))
        (subst Q (z.1.2 k ∙ ap (option_map (λ (y : Pair). y.1)) at) (part ys k (b.at k) (r.2 k)))

-- Blocks as arrays

chunks_long : (k : ℕ) (xs : List ℕ) → length (first_chunks 512 k xs) ≡ k
chunks_long zero xs = refl
chunks_long (suc k) xs = ap suc (chunks_long k (drop 512 xs))

-- a block among those of an image
chunk_at : (k : ℕ) (xs : List ℕ) (b : ℕ) → b < k → get_or (first_chunks 512 k xs) b [] ≡ take 512 (drop (512 * b) xs)
chunk_at zero xs b h = absurd (omega arith)
chunk_at (suc k) xs zero h = refl
chunk_at (suc k) xs (suc b) h =
    let e : 512 + 512 * b ≡ 512 * suc b = omega arith in
    chunk_at k (drop 512 xs) b (omega arith) ∙ ap (take 512) (drop-drop (512 * b) 512 xs ∙ ap (λ m. drop m xs) e)

chunk_checked : (k : ℕ) (xs : List ℕ) (b : ℕ) → b < k → checked (get_or (first_chunks 512 k xs) b []) 0 ≡ checked xs b
chunk_checked k xs b h =
    checked_same (get_or (first_chunks 512 k xs) b []) xs 0 b
    (λ i l.
    let z : 512 * 0 + i ≡ i = omega arith in
    rw (chunk_at k xs b h, z, get_or-take 512 (drop (512 * b) xs) i 0 l, get_or-drop (512 * b) xs i 0) refl)

-- a test of each of the first blocks
chunks_below :
    (n : ℕ) (xs : List ℕ) (k : ℕ) → k ≤ n → list_all (λ block. checked block 0) (take k (first_chunks 512 n xs)) ≡ every (checked xs) k
unfolding every
chunks_below n xs zero h = refl
chunks_below n xs (suc k) h =
    rw (
      ← add-one k,
      list_all_more (λ block. checked block 0) (first_chunks 512 n xs) k [] (omega (arith, chunks_long n xs)),
      chunks_below n xs k (omega arith),
      chunk_checked n xs k h,
    )

pub chunks_checked : (xs : List ℕ) → length xs ≡ 4608 → list_all (λ block. checked block 0) (first_chunks 512 (length xs / 512) xs) ≡ every (checked xs) 9
chunks_checked xs l =
    let n : length xs / 512 ≡ 9 = omega arith in
    rw n (ap (list_all (λ block. checked block 0)) (sym (take_all 9 (first_chunks 512 9 xs) (omega (arith, chunks_long 9 xs)))) ∙ chunks_below 9 xs 9 (omega arith))
