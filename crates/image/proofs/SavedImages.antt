-- What saving answers and writes, way by way.
use mathlib.Core.Path.{◌≡◌, ap, sym, ◌∙◌}
use Prim.Native.Nat.{ℕ}
use mathlib.Core.List.{List}
use lib.ListN.{length}
use Rattle.std.specs.Prelude.{Result, Ok, Err}
use Rattle.rules.specs.Site.{State}
use Rattle.refusals.specs.declared.Refusal.{Refusal}
use Rattle.refusals.specs.Refusals.{number_of}
use Rattle.layout.specs.Image.{image_of}
use Rattle.layout.specs.Blocks.{differing}
use Rattle.layout.proofs.Refusing.{saving_written, saving_several, saving_refused}
use Rattle.blocks.specs.Contents.{laid_out}
use Rattle.records.specs.Contents.{contents_of}
use Rattle.image.specs.Answers.{Saves}
use Rattle.image.proofs.Imaging.{laid_image}

module _ (s : State) (previous xs : List ℕ) where
  saves_unsized : (k : Refusal) → number_of k ≡ 20 → (length previous ≡ 4608 → length xs ≡ 4608 → ⊥) → Saves s previous xs xs (Err k)
  saves_unsized k e h = record { result = rw e (sym (saving_refused s previous xs h)) }

  pub previous_unsized : (k : Refusal) → number_of k ≡ 20 → (length previous ≡ 4608 → ⊥) → Saves s previous xs xs (Err k)
  previous_unsized k e h = saves_unsized k e (λ p q. h p)

  pub list_unsized : (k : Refusal) → number_of k ≡ 20 → (length xs ≡ 4608 → ⊥) → Saves s previous xs xs (Err k)
  list_unsized k e h = saves_unsized k e (λ p q. h q)

  pub several : (k : Refusal) → number_of k ≡ 22 → (length s.feeders ≡ 1 → ⊥) → length previous ≡ 4608 → length xs ≡ 4608 → Saves s previous xs xs (Err k)
  several k e n h l = record { result = rw e (sym (saving_several s previous xs n h l)) }

  pub written :
      (cs ys : List ℕ) (n : ℕ)
      → length s.feeders ≡ 1
      → length previous ≡ 4608
      → length xs ≡ 4608
      → cs ≡ contents_of s
      → ys ≡ laid_out cs
      → n ≡ differing previous ys
      → Saves s previous xs ys (Ok n)
  written cs ys n one h l c w e =
      let g : ys ≡ image_of s = w ∙ ap laid_out c ∙ laid_image s in
      record { result = rw (e, g) (sym (saving_written s previous xs one h l)) }

-- what is true of the only feeder and the arrays is true of its station and the lists they are
pub lent :
    {first s : State} {previous xs before list after : List ℕ} {r : Result ℕ Refusal}
    → Saves first previous xs after r
    → first ≡ s
    → previous ≡ before
    → xs ≡ list
    → Saves s before list after r
lent h f p q = rw (f, p, q) at h
