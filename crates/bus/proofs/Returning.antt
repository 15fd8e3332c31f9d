-- A C call returns 0 exactly where nothing is refused: neither the image nor the call or the opening.
use mathlib.Core.Path.{◌≡◌, refl, sym, ap, ◌∙◌}
use Prim.Native.Nat.{ℕ, zero, suc}
use mathlib.Core.Bool.{Bool, true, false, true≢false}
use mathlib.Core.List.{List, []}
use native.Mathlib.Omega.{arith}
use lib.ListN.{length, get_or}
use borrow.Author.Tests.{eqb-true, eqb-false}
use Rattle.rules.specs.Basics.{first_of}
use Rattle.rules.specs.Site.{State}
use Rattle.rules.specs.Calls.{Asked, Answer, refused, opened, previewed, committed, moved, planned, waiting, charging, looked, withdrawn, Result, answering, settings, settings_read, fresh_feeder, opening, open_refusals, Call, lent, refusals, granted, step}
use Rattle.rules.specs.Valid.{ValidState}
use Rattle.rules.proofs.Granted.{refusals_none, open_refusals_numbered}
use Rattle.rules.proofs.Tables.{first_of_none}
use Rattle.layout.specs.Reading.{sized, restoring}
use Rattle.layout.specs.Saving.{SaveResult, saving}
use Rattle.rules.proofs.Sites.{map_length}
use Rattle.rules.proofs.Lists.{length_tabulate}
use Rattle.layout.proofs.Refusing.{saving_written, saving_refused}
use Rattle.layout.proofs.RoundTrip.{restoring_valid}
use Rattle.guarantee.specs.Past.{is_refused}
use Rattle.guarantee.specs.DemandOne.{NoneApplies}
use Rattle.guarantee.proofs.DemandOne.{answer_not_refused, valid_demand_one, demand_one_opening}
use Rattle.service.specs.Left.{told, left, called, Whole}
use Rattle.bus.specs.Images.{opened_over}
use Rattle.bus.specs.Returns.{ZeroOfACall, ZeroOfAnOpening}
use Rattle.bus.proofs.Openings.{saved_one}

granted_number : (a : Answer) → is_refused a ≡ false → (told a).number ≡ 0
granted_number (refused number) e = absurd (true≢false e)
granted_number (opened bounds) e = refl
granted_number (previewed start) e = refl
granted_number (committed ticket start) e = refl
granted_number (moved reported dropped) e = refl
granted_number (planned cause before after rounds) e = refl
granted_number (waiting start rate) e = refl
granted_number (charging start end rate) e = refl
granted_number (looked count) e = refl
granted_number withdrawn e = refl

-- a call of a valid station
module _ (s : State) (c : Call) (v : ValidState s) where
  none_zero : NoneApplies (refusals s c) → (told (step s c).answer).number ≡ 0
  none_zero q = granted_number (step s c).answer (answer_not_refused c (step s c).answer ((valid_demand_one s v c).answered q))

  zero_none : (told (step s c).answer).number ≡ 0 → NoneApplies (refusals s c)
  zero_none e = go (first_of (refusals s c)) refl
    where
      go : (k : ℕ) → first_of (refusals s c) ≡ k → NoneApplies (refusals s c)
      go zero f = refusals_none s c f
      go (suc k) f =
          let number : (told (step s c).answer).number ≡ suc k = ap (λ (i : ℕ). (told (answering i s (lent c) (granted s c)).answer).number) f in
          absurd (omega (arith, number, e))

-- the number of a result, where another refusal came before or not
before_zero : (k : ℕ) (s : State) (list : List ℕ) (r : Result) → (told (answering k s list r).answer).number ≡ 0 → k ≡ 0
before_zero zero s list r e = refl
before_zero (suc k) s list r e = absurd (omega (arith, e))

pub zero_returned : ZeroOfACall
unfolding called left
zero_returned numbers image c =
    let s : State = (restoring image).state in
    let v : ValidState s = restoring_valid image in (
      (λ e.
          let k : (restoring image).refusal ≡ 0 = before_zero (restoring image).refusal s (lent c) (step s c) e in
          (k, zero_none s c v (sym (ap (λ (i : ℕ). (told (answering i s (lent c) (step s c)).answer).number) k) ∙ e))),
      (λ h. ap (λ (i : ℕ). (told (answering i s (lent c) (step s c)).answer).number) h.0 ∙ none_zero s c v h.1),
    )

-- An opening

-- what a save that is not refused says of the image and the station
whole_saved : (s : State) (image : List ℕ) → (saving s image image).refusal ≡ 0 → Whole image
whole_saved s image e = go (sized image) refl
  where
    go : (b : Bool) → sized image ≡ b → Whole image
    go true f = eqb-true (length image) 4608 f
    go false f =
        let unsized : (saving s image image).refusal ≡ 20 = ap (λ (r : SaveResult). r.refusal) (saving_refused s image image (λ p q. eqb-false (length image) 4608 f p)) in
        absurd (omega (arith, unsized, e))

open_zero : (x : Asked) → (told (opening x).answer).number ≡ 0 → NoneApplies (open_refusals x)
unfolding opening
open_zero x e = first_of_none (open_refusals x) (open_refusals_numbered x) (before_zero (first_of (open_refusals x)) _ [] _ e)

-- as many feeders as were asked for
pub as_many : (x : Asked) → NoneApplies (open_refusals x) → length (opening x).state.feeders ≡ x.count
as_many x h =
    ap (λ (s : State). length s.feeders) ((demand_one_opening x).answered h).1
    ∙ map_length fresh_feeder (settings_read x)
    ∙ length_tabulate (λ (i : ℕ). get_or x.settings i (settings 0 0 0)) x.count 0

pub zero_opened : ZeroOfAnOpening
unfolding opened_over left
zero_opened numbers image x =
    let s : State = (opening x).state in (
      (λ e.
          let k : (saving s image image).refusal ≡ 0 = before_zero (saving s image image).refusal s [] (opening x) e in
          let w : Whole image = whole_saved s image k in
          let none : NoneApplies (open_refusals x) =
          open_zero x (sym (ap (λ (i : ℕ). (told (answering i s [] (opening x)).answer).number) k) ∙ e) in
          (w, none, sym (as_many x none) ∙ saved_one s image w k)),
      (λ h.
          ap (λ (i : ℕ). (told (answering i s [] (opening x)).answer).number)
          (ap (λ (r : SaveResult). r.refusal) (saving_written s image image (as_many x h.1 ∙ h.2) h.0 h.0))
          ∙ ap (λ (a : Answer). (told a).number) ((demand_one_opening x).answered h.1).0),
    )
