-- An image that is copied to another list: refused by the restore, or by the save, or saved.
use mathlib.Core.Path.{◌≡◌, refl, sym, ap, ◌∙◌}
use Prim.Native.Nat.{ℕ}
use native.Mathlib.Omega.{arith}
use mathlib.Core.Bool.{Bool, true, false}
use mathlib.Core.List.{List}
use lib.Dec.{eqb}
use borrow.Author.Tests.{ne_eqb}
use Rattle.std.specs.Prelude.{Result, Ok, Err}
use Rattle.rules.specs.Site.{State}
use Rattle.refusals.specs.declared.Refusal.{Refusal}
use Rattle.refusals.specs.Refusals.{number_of, refusal_in}
use Rattle.layout.specs.Reading.{restoring}
use Rattle.layout.specs.Saving.{SaveResult, save_refusal, saving}
use Rattle.station.specs.declared.only.One.{One}
use Rattle.station.specs.View.{view, station_of}
use Rattle.station.proofs.Refusing.{number_some}
use Rattle.image.specs.Answers.{saved, Restores, Saves}
use Rattle.service.proofs.Serving.{refusal_is, state_is}
use Rattle.bus.specs.Images.{copied_or, copied, CopiedTo}

number_other : (k : Refusal) → eqb (number_of k) 0 ≡ false
number_other k = let some = number_some k in ne_eqb (number_of k) 0 (λ z. omega (arith, some, z))

-- a save that is refused leaves the list
saving_kept : (s : State) (list : List ℕ) → ((saving s list list).refusal ≡ 0 → ⊥) → (saving s list list).image ≡ list
unfolding saving
saving_kept s list h = go (eqb (save_refusal s list list) 0) refl
  where
    go : (b : Bool) → eqb (save_refusal s list list) 0 ≡ b → (saving s list list).image ≡ list
    go true e = absurd (h (rw e))
    go false e = rw e

pub save_refused : {s : State} {list after : List ℕ} (k : Refusal) → Saves s list list after (Err k) → after ≡ list
save_refused {s} {list} k w =
    let some = number_some k in
    let number : number_of k ≡ (saving s list list).refusal = ap (λ (x : SaveResult). x.refusal) w.result in
    ap (λ (x : SaveResult). x.image) w.result ∙ saving_kept s list (λ z. omega (arith, some, number, z))

pub copy_refused :
    {image list after : List ℕ} {answer : Result Unit Refusal} {o : One} (k : Refusal)
    → Restores image answer o
    → answer ≡ Err k
    → after ≡ list
    → CopiedTo image list (Err k) after
unfolding copied
copy_refused k r e i =
    let number : number_of k ≡ (restoring _).refusal = sym (ap refusal_in e) ∙ refusal_is r in
    record { result = λ blocks. rw (i, ← number, number_other k, number_other k) refl }

module _ {image list after : List ℕ} {answer : Result Unit Refusal} {o : One} (r : Restores image answer o) (granted : answer ≡ Ok tt) where
  -- what is copied, whatever the save answered
  is_copied :
      (q : Result ℕ Refusal) → Saves (view (station_of o)) list list after q
      → (blocks : ℕ) → copied_or blocks list 0 (saved q after) ≡ copied blocks image list
  unfolding copied
  is_copied q w blocks =
      ap (copied_or blocks list 0) (w.result ∙ ap (λ (x : State). saving x list list) (state_is r))
      ∙ ap (λ (k : ℕ). copied_or blocks list k (saving (restoring image).state list list)) (sym (ap refusal_in granted) ∙ refusal_is r)

  pub copy_saved : (q : Result ℕ Refusal) → Saves (view (station_of o)) list list after q → CopiedTo image list q after
  copy_saved (Ok n) w = record { result = λ blocks. is_copied (Ok n) w blocks }
  copy_saved (Err k) w =
      record { result = λ blocks. rw (save_refused k w) (sym (rw (number_other k) refl) ∙ is_copied (Err k) w blocks) }
