-- Lists written place by place.
use mathlib.Core.Logic.{◌⊎◌, inl, inr}
use mathlib.Core.Path.{◌≡◌, refl, ap, sym, ◌∙◌}
use Prim.Native.Nat.{ℕ, suc, ◌+◌, ◌-◌, ◌/◌, ◌≤◌, ◌<◌}
use mathlib.Core.List.{List, [], ◌∷◌, ◌++◌}
use native.Mathlib.Omega.{arith}
use lib.ListN.{length, get_or, set, take, drop, length-set}
use lib.Seq.{get_or-set_same, get_or-set_other}
use borrow.Rule.Slice.PartMut.{put_mid}
use Rattle.std.specs.Int.{to_le_bytes, w32}
use Rattle.std.proofs.Common.{rules}
use Rattle.std.proofs.lemmas.List.{places, get_or_append_left, get_or-append_right, get_or-take, length-take-le, drop-drop, append_assoc}
use Rattle.std.proofs.lemmas.List.Edits.{sets-eq}
use Rattle.rules.proofs.Ranges.{below_or_not}
use Rattle.layout.specs.Lists.{listed}
use Rattle.layout.specs.Bytes.{byte_of}
use Rattle.layout.proofs.Listing.{is_listed}
use Rattle.blocks.specs.Places.{Filling, Put}

pub filling_none : (f : ℕ → ℕ) (n : ℕ) (xs : List ℕ) → length xs ≡ n → Filling f n 0 xs
filling_none f n xs e = record { long = e; done = λ j h. absurd (omega arith) }

filling_more :
    {f : ℕ → ℕ} {n k : ℕ} {xs : List ℕ} → Filling f n k xs → (v : ℕ) → k < n → v ≡ f k → Filling f n (k + 1) (set xs k v)
filling_more {f} {n} {k} {xs} r v h e =
    record {
      long = rw length-set r.long;
      done = λ j l. go j (below_or_not j k) l;
    }
  where
    go : (j : ℕ) → (j < k) ⊎ (k ≤ j) → j < k + 1 → get_or (set xs k v) j 0 ≡ f j
    go j (inl p) l = get_or-set_other xs k j v 0 (λ s. omega arith) ∙ r.done j p
    go j (inr p) l =
        let s : j ≡ k = omega arith in
        rw s (get_or-set_same xs k v 0 (omega (arith, r.long)) ∙ e)

-- the same, where the place and the next one are written otherwise
pub filling_at :
    {f : ℕ → ℕ} {n k : ℕ} {xs : List ℕ}
    → Filling f n k xs
    → (p v m : ℕ)
    → p ≡ k
    → m ≡ k + 1
    → k < n
    → v ≡ f k
    → Filling f n m (set xs p v)
filling_at r p v m e g h i = rw (e, g) (filling_more r v h i)

pub filling_all : {f : ℕ → ℕ} {n k : ℕ} {xs : List ℕ} → Filling f n k xs → n ≤ k → xs ≡ listed f n
filling_all {f} {n} {k} {xs} r h = is_listed f n xs r.long (λ j l. r.done j (omega arith))

-- filled from k on by a list whose bytes are those of f
pub filling_part :
    {f : ℕ → ℕ} {n k m : ℕ} {xs : List ℕ} (ys : List ℕ)
    → Filling f n k xs
    → length ys ≡ m
    → k + m ≤ n
    → ((i : ℕ) → i < m → get_or ys i 0 ≡ f (k + i))
    → Filling f n (k + m) (put_mid k m xs ys)
filling_part {f} {n} {k} {m} {xs} ys r e h g =
    record {
      long = search (rules, places);
      done = λ j l. go j (below_or_not j k) l;
    }
  where
    front : length (take k xs) ≡ k
    front = length-take-le k xs (omega (arith, r.long))

    go : (j : ℕ) → (j < k) ⊎ (k ≤ j) → j < k + m → get_or (put_mid k m xs ys) j 0 ≡ f j
    go j (inl p) l = get_or_append_left (take k xs) (ys ++ drop m (drop k xs)) 0 j (omega (arith, front)) ∙ get_or-take k xs j 0 p ∙ r.done j p
    go j (inr p) l =
        let s : k + (j - k) ≡ j = omega arith in
        get_or-append_right (take k xs) (ys ++ drop m (drop k xs)) k j 0 front p
        ∙ get_or_append_left ys (drop m (drop k xs)) 0 (j - k) (omega arith)
        ∙ g (j - k) (omega arith)
        ∙ ap f s

-- the four bytes of a number
pub filling_put :
    {f : ℕ → ℕ} {n k : ℕ} {xs ys : List ℕ} (x m : ℕ)
    → Filling f n k xs
    → Put xs ys k x
    → k + 4 ≤ n
    → ((j : ℕ) → j < 4 → byte_of j x ≡ f (k + j))
    → m ≡ k + 4
    → Filling f n m ys
filling_put {f} {n} {k} {xs} {ys} x m r e h g i =
    let z : k + 0 ≡ k = omega arith in
    let a = filling_at r k (byte_of 0 x) (k + 1) refl refl (omega arith) (g 0 (omega arith) ∙ ap f z) in
    let b = filling_at a (k + 1) (byte_of 1 x) (k + 2) refl (omega arith) (omega arith) (g 1 (omega arith)) in
    let c = filling_at b (k + 2) (byte_of 2 x) (k + 3) refl (omega arith) (omega arith) (g 2 (omega arith)) in
    let d = filling_at c (k + 3) (byte_of 3 x) (k + 4) refl (omega arith) (omega arith) (g 3 (omega arith)) in
    rw (e.result, i) d

-- the four bytes as the library writes them
pub put_four :
    (xs : List ℕ) (a x : ℕ) {ys : List ℕ} → ys ≡ to_le_bytes w32 x → a + 4 ≤ length xs → Put xs (put_mid a (a + 4 - a) xs ys) a x
put_four xs a x {ys} e h =
    let s : a + 1 ≡ suc a = omega arith in
    let t : a + 2 ≡ suc (suc a) = omega arith in
    let u : a + 3 ≡ suc (suc (suc a)) = omega arith in
    let m : a + 4 - a ≡ 4 = omega arith in
    let p : x / 65536 ≡ x / 256 / 256 = omega arith in
    let q : x / 16777216 ≡ x / 256 / 256 / 256 = omega arith in
    record {
      result =
          rw (s, t, u, m, e, p, q, drop-drop 4 a xs)
          (sym (simp append_assoc at (sets-eq (byte_of 0 x ∷ byte_of 1 x ∷ byte_of 2 x ∷ byte_of 3 x ∷ []) xs a h)));
    }
