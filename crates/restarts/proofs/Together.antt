-- The controller and the list of calls in force go together.
use mathlib.Core.Path.{◌≡◌, refl, sym, ap, subst, ◌∙◌}
use Prim.Native.Nat.{ℕ, zero, suc, ◌≤◌, ◌<◌}
use mathlib.Core.Bool.{Bool, true, false, cond}
use mathlib.Core.List.{List, [], ◌∷◌, ◌++◌, map}
use native.Mathlib.Omega.{arith}
use lib.Dec.{ltb, eqb}
use lib.ListN.{length, get_or}
use borrow.Author.Tests.{eqb-true, ltb-true, ltb-false, lt-ltb, le-ltb}
use Rattle.rules.specs.Basics.{Each}
use Rattle.rules.specs.Site.{State}
use Rattle.rules.specs.Calls.{fresh, least, step}
use Rattle.rules.specs.Valid.{ValidState}
use Rattle.rules.proofs.Lists.{map-append, each_append}
use Rattle.rules.proofs.Validity.{opening_valid}
use Rattle.guarantee.specs.Past.{Past, beginning}
use Rattle.guarantee.proofs.Unmoved.{after-append}
use Rattle.guarantee.proofs.DemandOne.{after_valid}
use Rattle.layout.specs.Image.{image_of}
use Rattle.layout.specs.Saving.{has_one}
use Rattle.layout.specs.Reading.{restore_refusal, RestoreResult, restoring}
use Rattle.layout.proofs.Refusing.{fresh_valid}
use Rattle.layout.proofs.RoundTrip.{restored_saved, restoring_valid}
use Rattle.restarts.specs.Events.{Event, opens, made, saves, restores, brings, an_image, a_refused_restore, first, CallList, beginning_with, left, is_saved, Lists, up_to, brought, next}
use Rattle.restarts.specs.Restarts.{Controller, does, read, saved_as, shows, due}
use Rattle.restarts.proofs.Feeders.{left_saved}

abbrev Right : CallList → Type 0
Right l = ValidState (first l.beginning)

left_valid : (l : CallList) → Right l → ValidState (left l)
left_valid l v = after_valid l.calls (beginning (first l.beginning)) v

abbrev image_after : CallList → List ℕ
image_after l = image_of (left l)

-- a list up to a save: what it left has one feeder
abbrev Saved : CallList → Type 0
Saved l = Right l × (is_saved l ≡ true)

pub record Together (c : Controller) (l : Lists) : Type 0 where
  pub station : c.station ≡ left l.now
  pub images : c.images ≡ map image_after l.saved
  pub now : Right l.now
  pub saved : Each Saved l.saved

-- no bytes are no image
nothing_read : ((restoring []).refusal ≡ 20) × ((restoring []).state ≡ fresh least)
unfolding restore_refusal
nothing_read = (refl, refl)

both_more : (k n : ℕ) → ltb (suc k) (suc n) ≡ ltb k n
both_more k n = go (ltb k n) refl
  where
    go : (b : Bool) → ltb k n ≡ b → ltb (suc k) (suc n) ≡ b
    go true e = let h : k < n = ltb-true k n e in lt-ltb (suc k) (suc n) (omega arith)
    go false e = let h : n ≤ k = ltb-false k n e in le-ltb (suc k) (suc n) (omega arith)

-- what is read of save k is what the list up to it left
saved_read :
    (saved : List CallList) (k : ℕ)
    → Each Saved saved
    → ((restoring (get_or (map image_after saved) k [])).refusal ≡ cond (ltb k (length saved)) 0 20)
    × ((restoring (get_or (map image_after saved) k [])).state ≡ left (up_to saved k))
    × Right (up_to saved k)
saved_read [] k v = (rw (le-ltb k 0 (omega arith)) nothing_read.0, nothing_read.1, fresh_valid)
saved_read (l ∷ saved) zero v =
    let r = restored_saved (left l) (eqb-true (length (left l).feeders) 1 (left_saved l ∙ v.0.1)) (left_valid l v.0.0) in (
      rw (lt-ltb 0 (suc (length saved)) (omega arith)) (ap (λ (x : RestoreResult). x.refusal) r),
      ap (λ (x : RestoreResult). x.state) r,
      v.0.0,
    )
saved_read (l ∷ saved) (suc k) v =
    let r = saved_read saved k v.1 in (r.0 ∙ ap (λ (b : Bool). cond b 0 20) (sym (both_more k (length saved))), r.1, r.2)

brought_valid : (image : List ℕ) → Right (brought image)
brought_valid image = go (eqb (restoring image).refusal 0)
  where
    go : (b : Bool) → Right (beginning_with (cond b (an_image image) a_refused_restore))
    go true = restoring_valid image
    go false = fresh_valid

brought_left : (image : List ℕ) → (restoring image).state ≡ left (brought image)
brought_left image = go (eqb (restoring image).refusal 0) refl
  where
    go :
        (b : Bool)
        → eqb (restoring image).refusal 0 ≡ b
        → (restoring image).state ≡ left (beginning_with (cond b (an_image image) a_refused_restore))
    go true e = refl
    go false e = rw e

-- a save, of one feeder or refused
module _ (c : Controller) (l : Lists) (t : Together c l) where
  one_told : has_one c.station ≡ is_saved l.now
  one_told = ap has_one t.station ∙ left_saved l.now

  save_next :
      (b : Bool)
      → is_saved l.now ≡ b
      → Together
      (record { station = c.station; images = cond b (c.images ++ (image_of c.station ∷ [])) c.images })
      (record { now = l.now; saved = cond b (l.saved ++ (l.now ∷ [])) l.saved })
  save_next true e =
      record {
        station = t.station;
        images = rw (t.images, t.station) (sym (map-append image_after l.saved (l.now ∷ [])));
        now = t.now;
        saved = each_append Saved l.saved (l.now ∷ []) t.saved ((t.now, e), tt);
      }
  save_next false e = t

-- each event
pub together_next : (c : Controller) (l : Lists) (e : Event) → Together c l → Together (does c e) (next l e)
together_next c l (opens x) t =
    record { station = refl; images = t.images; now = opening_valid x; saved = t.saved }
together_next c l (made call) t =
    record {
      station =
          ap (λ (s : State). (step s call).state) t.station
          ∙ ap (λ (h : Past). h.station) (sym (after-append step l.now.calls (call ∷ []) (beginning (first l.now.beginning))));
      images = t.images;
      now = t.now;
      saved = t.saved;
    }
together_next c l saves t =
    subst
    (λ (b : Bool).
    Together (record { station = c.station; images = cond b (c.images ++ (image_of c.station ∷ [])) c.images }) (next l saves))
    (sym (one_told c l t)) (save_next c l t (is_saved l.now) refl)
together_next c l (restores k) t =
    let r = saved_read l.saved k t.saved in
    record {
      station = ap (λ (i : List (List ℕ)). (restoring (get_or i k [])).state) t.images ∙ r.1;
      images = t.images;
      now = r.2;
      saved = t.saved;
    }
together_next c l (brings image) t =
    record { station = brought_left image; images = t.images; now = brought_valid image; saved = t.saved }

pub shown_due : (c : Controller) (l : Lists) (e : Event) → Together c l → shows c e ≡ due l e
shown_due c l (opens x) t = refl
shown_due c l (made call) t = rw t.station
shown_due c l saves t = ap (λ (b : Bool). saved_as b c.station) (one_told c l t) ∙ ap (saved_as (is_saved l.now)) t.station
shown_due c l (restores k) t =
    ap (λ (i : List (List ℕ)). read (restoring (get_or i k [])).refusal) t.images ∙ ap read (saved_read l.saved k t.saved).0
shown_due c l (brings image) t = refl
