-- Arrays whose places behind those used are 0.
use mathlib.Core.Logic.{◌⊎◌, inl, inr}
use mathlib.Core.Path.{◌≡◌, refl, sym, ◌∙◌}
use Prim.Native.Nat.{ℕ, zero, suc, ◌+◌, ◌-◌, ◌≤◌, ◌<◌}
use mathlib.Core.List.{List}
use native.Mathlib.Omega.{arith}
use lib.ListN.{length, get_or, set, take, drop, replicate, length-append, length-drop, length-replicate, length-set}
use lib.Seq.{ext_get_or, get_or-set_same, get_or-set_other, get_or-take, length-take-le}
use Rattle.std.specs.List.{CopiedTo, SameBelow, SameFrom, remove}
use Rattle.std.proofs.lemmas.List.Edits.{get_or-remove_below, get_or-remove_above}
use Rattle.rules.proofs.Ranges.{below_or_not}
use Rattle.charges.specs.Zeros.{Cleared}

zeros : (n i : ℕ) → ◌≡◌ {A = ℕ} (get_or (replicate n 0) i 0) 0
zeros zero i = refl
zeros (suc n) zero = refl
zeros (suc n) (suc i) = zeros n i

-- no place is used
pub cleared_none : (most : ℕ) → Cleared most 0 (replicate most 0)
cleared_none most = record { full = length-replicate {A = ℕ} most 0; clear = λ i h. zeros most i }

-- One place less

-- those behind the one taken out have moved up, and 0 stands in the last place
module _ (most n i : ℕ) (xs ys : List ℕ) (inside : i < n) (few : n ≤ most) (c : Cleared most n xs)
    (long : length ys ≡ length xs) (moved : CopiedTo xs ys (i + 1) i (n - (i + 1))) (below : SameBelow xs ys i)
    (behind : SameFrom xs ys (i + (n - (i + 1)))) where
  pub cleared_less : Cleared most (n - 1) (set ys (n - 1) 0)
  cleared_less =
      record {
        full = rw length-set (long ∙ c.full);
        clear = λ j h. go j h (below_or_not j n);
      }
    where
      go : (j : ℕ) → n - 1 ≤ j → (j < n) ⊎ (n ≤ j) → get_or (set ys (n - 1) 0) j 0 ≡ 0
      go j h (inl b) = let e : j ≡ n - 1 = omega arith in rw e (get_or-set_same ys (n - 1) 0 0 (omega (arith, long, c.full)))
      go j h (inr b) = get_or-set_other ys (n - 1) j 0 0 (λ e. omega arith) ∙ behind j 0 (omega arith) ∙ c.clear j b

  pub taken_out : take (n - 1) (set ys (n - 1) 0) ≡ remove (take n xs) i
  taken_out = ext_get_or 0 _ _ sizes (λ j h. go j (omega (arith, one, h)) (below_or_not j i))
    where
      all : length (take n xs) ≡ n
      all = length-take-le n xs (omega (arith, c.full))

      one : length (take (n - 1) (set ys (n - 1) 0)) ≡ n - 1
      one = length-take-le (n - 1) (set ys (n - 1) 0) (omega (arith, length-set ys (n - 1) 0, long, c.full))

      sizes : length (take (n - 1) (set ys (n - 1) 0)) ≡ length (remove (take n xs) i)
      sizes =
          omega (
            arith,
            one,
            all,
            length-append (take i (take n xs)) (drop (suc i) (take n xs)),
            length-take-le i (take n xs) (omega (arith, all)),
            length-drop (suc i) (take n xs),
          )

      now : (j : ℕ) → j < n - 1 → get_or (take (n - 1) (set ys (n - 1) 0)) j 0 ≡ get_or ys j 0
      now j h = get_or-take (n - 1) (set ys (n - 1) 0) j 0 h ∙ get_or-set_other ys (n - 1) j 0 0 (λ e. omega arith)

      go : (j : ℕ) → j < n - 1 → (j < i) ⊎ (i ≤ j) → get_or (take (n - 1) (set ys (n - 1) 0)) j 0 ≡ get_or (remove (take n xs) i) j 0
      go j h (inl b) =
          now j h ∙ below j 0 b ∙ sym (get_or-take n xs j 0 (omega arith))
          ∙ sym (get_or-remove_below (take n xs) i 0 j b (omega (arith, all)))
      go j h (inr b) =
          let e : i + 1 + (j - i) ≡ j + 1 = omega arith in
          now j h ∙ moved j 0 b (omega arith) ∙ (rw e (sym (get_or-take n xs (j + 1) 0 (omega arith))))
          ∙ sym (get_or-remove_above (take n xs) i 0 j b (omega (arith, all)))
