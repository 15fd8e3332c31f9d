-- What a save of the code tells: that the station has one feeder where it wrote an image, and that it has several where it is refused
-- for another reason than its lists.
use mathlib.Core.Path.{◌≡◌, refl, sym, ap, ◌∙◌}
use Prim.Native.Nat.{ℕ}
use mathlib.Core.Bool.{Bool, true, false, cond, ◌&&◌}
use mathlib.Core.List.{List}
use native.Mathlib.Omega.{arith}
use Rattle.std.specs.Prelude.{Result, Ok, Err}
use Rattle.rules.specs.Site.{State}
use Rattle.refusals.specs.declared.Refusal.{Refusal}
use Rattle.refusals.specs.Refusals.{number_of}
use Rattle.layout.specs.Image.{image_of}
use Rattle.layout.specs.Blocks.{differing}
use Rattle.layout.specs.Reading.{sized}
use Rattle.layout.specs.Saving.{SaveResult, has_one, save_refusal, saving}
use Rattle.station.proofs.Refusing.{number_some}
use Rattle.image.specs.Answers.{saved, Saves}

abbrev refused_save : ℕ → List ℕ → SaveResult
refused_save number list = record { refusal = number; blocks = 0; image = list }

module _ (s : State) (previous list : List ℕ) where
  -- a save by what it tests
  saving_is :
      (sizes one : Bool)
      → (sized previous && sized list) ≡ sizes
      → has_one s ≡ one
      → saving s previous list
      ≡ cond sizes
      (cond one (record { refusal = 0; blocks = differing previous (image_of s); image = image_of s }) (refused_save 22 list))
      (refused_save 20 list)
  unfolding saving save_refusal
  saving_is true true e f = rw (e, f) refl
  saving_is true false e f = rw (e, f) refl
  saving_is false true e f = rw e refl
  saving_is false false e f = rw e refl

  module _ {after : List ℕ} {answer : Result ℕ Refusal} (v : Saves s previous list after answer) where
    told_is :
        (sizes one : Bool)
        → (sized previous && sized list) ≡ sizes
        → has_one s ≡ one
        → saved answer after
        ≡ cond sizes
        (cond one (record { refusal = 0; blocks = differing previous (image_of s); image = image_of s }) (refused_save 22 list))
        (refused_save 20 list)
    told_is sizes one e f = v.result ∙ saving_is sizes one e f

    number : (r : SaveResult) → saved answer after ≡ r → (saved answer after).refusal ≡ r.refusal
    number r e = ap (λ (x : SaveResult). x.refusal) e

    -- an image was written
    pub written_one : (blocks : ℕ) → answer ≡ Ok blocks → has_one s ≡ true
    written_one blocks e = go (sized previous && sized list) (has_one s) refl refl
      where
        go : (sizes one : Bool) → (sized previous && sized list) ≡ sizes → has_one s ≡ one → has_one s ≡ true
        go sizes true p q = q
        go true false p q = let n : (saved answer after).refusal ≡ 22 = number _ (told_is true false p q) in absurd (omega (arith, n, ap (λ (a : Result ℕ Refusal). (saved a after).refusal) e))
        go false false p q = let n : (saved answer after).refusal ≡ 20 = number _ (told_is false false p q) in absurd (omega (arith, n, ap (λ (a : Result ℕ Refusal). (saved a after).refusal) e))

    pub written_image : (blocks : ℕ) → answer ≡ Ok blocks → after ≡ image_of s
    written_image blocks e = go (sized previous && sized list) (has_one s) refl refl
      where
        go : (sizes one : Bool) → (sized previous && sized list) ≡ sizes → has_one s ≡ one → after ≡ image_of s
        go true true p q = ap (λ (x : SaveResult). x.image) (told_is true true p q)
        go true false p q = let n : (saved answer after).refusal ≡ 22 = number _ (told_is true false p q) in absurd (omega (arith, n, ap (λ (a : Result ℕ Refusal). (saved a after).refusal) e))
        go false one p q = let n : (saved answer after).refusal ≡ 20 = number _ (told_is false one p q) in absurd (omega (arith, n, ap (λ (a : Result ℕ Refusal). (saved a after).refusal) e))

    -- it was refused, and not with 20
    pub several_kept : (refusal : Refusal) → answer ≡ Err refusal → (number_of refusal ≡ 20 → ⊥) → has_one s ≡ false
    several_kept refusal e other = go (sized previous && sized list) (has_one s) refl refl
      where
        told : (saved answer after).refusal ≡ number_of refusal
        told = ap (λ (a : Result ℕ Refusal). (saved a after).refusal) e

        go : (sizes one : Bool) → (sized previous && sized list) ≡ sizes → has_one s ≡ one → has_one s ≡ false
        go sizes false p q = q
        go true true p q =
            let n : (saved answer after).refusal ≡ 0 = number _ (told_is true true p q) in
            absurd (omega (arith, n, told, number_some refusal))
        go false true p q =
            let n : (saved answer after).refusal ≡ 20 = number _ (told_is false true p q) in absurd (other (sym told ∙ n))
