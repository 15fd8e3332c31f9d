-- What is before and behind the first separator of a text.
use mathlib.Core.Path.{◌≡◌, refl, sym, ap, ◌∙◌}
use mathlib.Core.Bool.{Bool, true, false, cond}
use mathlib.Core.List.{List, [], ◌∷◌, ◌++◌}
use mathlib.Core.Logic.{⊎_elim}
use Prim.Native.Nat.{ℕ, suc, ◌+◌, ◌-◌, ◌≤◌, ◌<◌}
use native.Mathlib.Omega.{arith}
use borrow.Author.Tests.{lt-ltb, le-ltb, eqb-true}
use lib.Dec.{eqb, ltb}
use lib.ListN.{length, take, drop}
use Rattle.std.specs.Prelude.{Option, Some, None, MatchOption}
use Rattle.std.specs.List.{slice_split, onto_first, position_or_len, before_first, after_first}
use Rattle.std.proofs.lemmas.List.{take_rest}
use Rattle.std.proofs.lemmas.List.Splits.{slice_split_first}
use Rattle.std.proofs.lemmas.List.Sums.{split_at_first, passes_at_first}
use Rattle.rules.proofs.Ranges.{below_or_not}
use Rattle.text.specs.Parts.{joined, split, FirstPart}

-- the parts between separators are those of the library
pub split_slices : (s : ℕ) (bs : List ℕ) → split s bs ≡ slice_split (λ b. eqb b s) bs
unfolding split
split_slices s [] = refl
split_slices s (b ∷ bs) = rw (split_slices s bs) (ends (slice_split (λ b. eqb b s) bs) (eqb b s))
  where
    ends : (parts : List (List ℕ)) (t : Bool) → cond t ([] ∷ parts) (joined (b ∷ []) parts) ≡ cond t ([] ∷ parts) (onto_first b parts)
    ends parts true = refl
    ends [] false = refl
    ends (part ∷ parts) false = refl

-- the place of the first separator, or the length where there is none
abbrev end_of : ℕ → List ℕ → ℕ
end_of s bs = position_or_len (λ b. eqb b s) bs

not_found : (s : ℕ) (bs : List ℕ) → length bs ≤ end_of s bs → split s bs ≡ bs ∷ []
unfolding split
not_found s [] h = refl
not_found s (b ∷ bs) h = go (eqb b s) refl (not_found s bs)
  where
    go : (t : Bool) → eqb b s ≡ t → (length bs ≤ end_of s bs → split s bs ≡ bs ∷ []) → split s (b ∷ bs) ≡ (b ∷ bs) ∷ []
    go true e ih = let k : suc (length bs) ≤ 0 = rw e at h in absurd (omega arith)
    go false e ih = let k : suc (length bs) ≤ 1 + end_of s bs = rw e at h in rw (e, ih (omega arith))

found :
    (s : ℕ) (bs : List ℕ) → end_of s bs < length bs
    → FirstPart s bs (take (end_of s bs) bs) (take (length bs - (end_of s bs + 1)) (drop (end_of s bs + 1) bs))
found s bs h =
    rw (take_rest bs (end_of s bs + 1))
    (record {
      whole =
          split_at_first (λ b. eqb b s) bs 0 h
          ∙ ap (λ b. before_first (λ b. eqb b s) bs ++ (b ∷ after_first (λ b. eqb b s) bs)) (eqb-true _ _ (passes_at_first (λ b. eqb b s) bs 0 h));
      parts =
          split_slices s bs
          ∙ slice_split_first (λ b. eqb b s) bs 0 h
          ∙ ap (λ parts. before_first (λ b. eqb b s) bs ∷ parts) (sym (split_slices s (after_first (λ b. eqb b s) bs)));
    })

-- what the place of the first separator says
pub by_place :
    (s : ℕ) (bs : List ℕ) {r : Option ℕ} → r ≡ cond (ltb (end_of s bs) (length bs)) (Some (end_of s bs)) None
    → MatchOption r (split s bs ≡ bs ∷ []) (λ end. FirstPart s bs (take end bs) (take (length bs - (end + 1)) (drop (end + 1) bs)))
by_place s bs e =
    ⊎_elim
    (λ h. rw (e, lt-ltb (end_of s bs) (length bs) h) (found s bs h))
    (λ h. rw (e, le-ltb (end_of s bs) (length bs) h) (not_found s bs h))
    (below_or_not (end_of s bs) (length bs))
