-- What restore and save of the code refuse: their contracts say that they give what the rules give.
use mathlib.Core.Logic.{◌↔◌}
use mathlib.Core.Path.{◌≡◌, refl, sym, ap, subst, ◌∙◌}
use Prim.Native.Nat.{ℕ}
use mathlib.Core.List.{List}
use native.Mathlib.Omega.{arith}
use Rattle.std.specs.Prelude.{Result, Ok, Err}
use Rattle.rules.specs.Site.{State}
use Rattle.guarantee.specs.DemandOne.{FirstIs}
use Rattle.refusals.specs.declared.Refusal.{Refusal}
use Rattle.refusals.specs.Refusals.{number_of, refusal_in}
use Rattle.layout.specs.Image.{image_of}
use Rattle.layout.specs.Blocks.{differing}
use Rattle.layout.specs.Reading.{RestoreResult, state_in, restore_refusals, restore_refusal, restoring}
use Rattle.layout.specs.Saving.{SaveResult, saving}
use Rattle.layout.proofs.Refusing as layout
use Rattle.station.specs.View.{view}
use Rattle.station.proofs.Refusing.{number_some}
use Rattle.image.specs.Answers.{blocks_in, saved, Saves}
use Rattle.restarts.specs.RestoreAndSave.{save_refusals}
use Rattle.restarts.proofs.Refusals.{restore_number, restore_beside, restore_accepts, save_number, save_keeps, save_writes}
use Rattle.theorem.specs.Images.{Restore, MeetsRestore, given_back}
use Rattle.theorem.specs.SavedAndRestored.{RestoreIsRefusedForTheFirst, RefusedRestoreGivesTheFresh, OtherImagesAreAccepted, SaveIsRefusedForTheFirst, RefusedSaveLeavesTheList, OtherSavesWriteTheImage}
use Rattle.theorem.proofs.AcrossRestarts.{accepted}

-- Restore

restore_told : (r : Restore) → MeetsRestore r → refusal_in r.answer ≡ (restoring r.image).refusal
restore_told r m = ap (λ (x : RestoreResult). x.refusal) m.result

pub restore_first : RestoreIsRefusedForTheFirst
restore_first r m k low =
    subst (λ (n : ℕ). (n ≡ k) ↔ FirstIs (restore_refusals r.image) k) (sym (restore_told r m)) (restore_number r.image k low)

pub restore_fresh : RefusedRestoreGivesTheFresh
restore_fresh r m refusal e =
    let told : number_of refusal ≡ (restoring r.image).refusal = sym (ap refusal_in e) ∙ restore_told r m in
    ap (λ (x : RestoreResult). x.state) m.result
    ∙ restore_beside r.image (λ z. omega (arith, told ∙ z, number_some refusal))

pub restore_others : OtherImagesAreAccepted
restore_others r m q =
    let given : given_back r ≡ record { refusal = 0; state = state_in r.image } = m.result ∙ restore_accepts r.image q in
    let none : restore_refusal r.image ≡ 0 = ap (λ (x : RestoreResult). x.refusal) (restore_accepts r.image q) in
    let stands : view r.station ≡ state_in r.image = ap (λ (x : RestoreResult). x.state) given in (
      accepted r.answer (ap (λ (x : RestoreResult). x.refusal) given),
      stands,
      ap image_of stands ∙ (layout.accepted r.image none).saved,
    )

-- Save

module _ {s : State} {previous before after : List ℕ} {answer : Result ℕ Refusal} (c : Saves s previous before after answer) where
  save_told : refusal_in answer ≡ (saving s previous before).refusal
  save_told = ap (λ (x : SaveResult). x.refusal) c.result

counted : (a : Result ℕ Refusal) → refusal_in a ≡ 0 → a ≡ Ok (blocks_in a)
counted (Ok blocks) e = refl
counted (Err refusal) e = absurd (omega (arith, e, number_some refusal))

pub save_first : SaveIsRefusedForTheFirst
save_first s v valid m k low =
    subst (λ (n : ℕ). (n ≡ k) ↔ FirstIs (save_refusals (view s) v.previous v.before) k) (sym (save_told (m valid)))
    (save_number (view s) v.previous v.before k low)

pub save_list : RefusedSaveLeavesTheList
save_list s v valid m refusal e =
    let told : number_of refusal ≡ (saving (view s) v.previous v.before).refusal = sym (ap refusal_in e) ∙ save_told (m valid) in
    ap (λ (x : SaveResult). x.image) (m valid).result
    ∙ (save_keeps (view s) v.previous v.before (λ z. omega (arith, told ∙ z, number_some refusal))).0

pub save_others : OtherSavesWriteTheImage
save_others s v valid m q =
    let image : List ℕ = image_of (view s) in
    let made : saved v.answer v.after ≡ record { refusal = 0; blocks = differing v.previous image; image = image }
    = (m valid).result ∙ save_writes (view s) v.previous v.before q in (
      counted v.answer (ap (λ (x : SaveResult). x.refusal) made) ∙ ap (λ (n : ℕ). Ok n) (ap (λ (x : SaveResult). x.blocks) made),
      ap (λ (x : SaveResult). x.image) made,
    )
