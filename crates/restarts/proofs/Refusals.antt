-- What restore and save refuse.
use mathlib.Core.Path.{◌≡◌, refl, sym, ◌∙◌}
use Prim.Native.Nat.{ℕ, zero, suc}
use mathlib.Core.Bool.{Bool, true, false, cond, not, ◌&&◌}
use mathlib.Core.List.{List, [], ◌∷◌}
use native.Mathlib.Omega.{arith}
use lib.Dec.{eqb}
use borrow.Author.Tests.{eqb-true, ne_eqb}
use Rattle.rules.specs.Basics.{first_of}
use Rattle.rules.specs.Site.{State}
use Rattle.rules.proofs.Tables.{none_first_of}
use Rattle.guarantee.proofs.Tables.{first_of_is, is_first_of}
use Rattle.layout.specs.Image.{image_of}
use Rattle.layout.specs.Reading.{sized, restore_refusals, restore_refusal}
use Rattle.layout.specs.Saving.{has_one, save_rows, save_refusal, saving, SaveResult}
use Rattle.layout.specs.Blocks.{differing}
use Rattle.layout.proofs.Refusing.{refused_state}
use Rattle.restarts.specs.RestoreAndSave.{RestoreRefusesByTheFirst, FreshStandsBesideARefusal, RestoreAcceptsTheRest, save_refusals, SaveRefusesByTheFirst, RefusedSaveKeepsTheList, SaveWritesTheImage}

-- Restore

pub restore_number : RestoreRefusesByTheFirst
unfolding restore_refusal
restore_number image zero low = absurd (omega arith)
restore_number image (suc j) low =
    ((λ e. first_of_is j (restore_refusals image) e), (λ f. is_first_of (suc j) (restore_refusals image) f))

pub restore_beside : FreshStandsBesideARefusal
restore_beside image n = refused_state image n

pub restore_accepts : RestoreAcceptsTheRest
unfolding restore_refusal
restore_accepts image q = rw (none_first_of (restore_refusals image) q)

-- Save

-- both lists' conditions are one row of the table, with the same number
one_row :
    (a b c : Bool) → first_of (save_rows (a && b) c) ≡ first_of ((not a, 20) ∷ (not b, 20) ∷ (not c, 22) ∷ [])
one_row true true c = refl
one_row true false c = refl
one_row false b c = refl

module _ (s : State) (previous list : List ℕ) where
  refusal_first : save_refusal s previous list ≡ first_of (save_refusals s previous list)
  unfolding save_refusal
  refusal_first = one_row (sized previous) (sized list) (has_one s)

  abbrev saved : Bool → SaveResult
  saved b =
      cond b
      (record { refusal = 0; blocks = differing previous (image_of s); image = image_of s })
      (record { refusal = save_refusal s previous list; blocks = 0; image = list })

  refusal_said : (saving s previous list).refusal ≡ save_refusal s previous list
  unfolding saving
  refusal_said = go (eqb (save_refusal s previous list) 0) refl
    where
      go :
          (b : Bool)
          → eqb (save_refusal s previous list) 0 ≡ b
          → (saved b).refusal ≡ save_refusal s previous list
      go true e = sym (eqb-true (save_refusal s previous list) 0 e)
      go false e = refl

pub save_number : SaveRefusesByTheFirst
save_number s previous list zero low = absurd (omega arith)
save_number s previous list (suc j) low = (
  (λ e. first_of_is j (save_refusals s previous list) (sym (refusal_first s previous list) ∙ sym (refusal_said s previous list) ∙ e)),
  (λ f.
      refusal_said s previous list ∙ refusal_first s previous list
      ∙ is_first_of (suc j) (save_refusals s previous list) f),
)

pub save_keeps : RefusedSaveKeepsTheList
unfolding saving
save_keeps s previous list n =
    let other : eqb (save_refusal s previous list) 0 ≡ false
    = ne_eqb (save_refusal s previous list) 0 (λ e. n (refusal_said s previous list ∙ e)) in
    rw other (refl, refl)

pub save_writes : SaveWritesTheImage
unfolding saving
save_writes s previous list q =
    rw (refusal_first s previous list, none_first_of (save_refusals s previous list) q)
