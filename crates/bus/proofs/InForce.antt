-- C functions called one after another leave the image of the station that the list of calls in force leaves.
use mathlib.Core.Path.{◌≡◌, refl, sym, ap, subst, ◌∙◌}
use Prim.Native.Nat.{ℕ}
use mathlib.Core.Bool.{Bool, true, false, cond, true≢false}
use mathlib.Core.List.{List, [], ◌∷◌, map}
use lib.Dec.{eqb}
use lib.ListN.{length}
use borrow.Author.Tests.{eqb-true, eqb-false}
use Rattle.rules.specs.Site.{State}
use Rattle.rules.specs.Calls.{Asked, Answer, refused, opened, previewed, committed, moved, planned, waiting, charging, looked, withdrawn, Result, opening, Call, step}
use Rattle.rules.specs.Valid.{ValidState}
use Rattle.rules.proofs.Validity.{opening_valid, step_valid}
use Rattle.guarantee.specs.Past.{Past, beginning}
use Rattle.guarantee.proofs.Unmoved.{after-append}
use Rattle.guarantee.proofs.DemandOne.{demand_one_opening}
use Rattle.layout.specs.Image.{image_of}
use Rattle.layout.specs.Reading.{restoring}
use Rattle.layout.proofs.Calling.{feeders_stay}
use Rattle.layout.proofs.Imaging.{image_length}
use Rattle.layout.proofs.RoundTrip.{restored_saved, accepted_saves, restoring_valid, restoring_one}
use Rattle.restarts.specs.Events.{an_opening, first, CallList, beginning_with, one_more, left as station_left}
use Rattle.restarts.proofs.Restarts.{claimed}
use Rattle.restarts.proofs.Minutes.{limit_claimed, balance_claimed, site_claimed}
use Rattle.service.specs.Left.{Left, told, left, called, Whole}
use Rattle.bus.specs.Images.{opened_over}
use Rattle.bus.specs.Chains.{Made, calls, opens, left_by, chained, opened_one, behind}
use Rattle.bus.specs.CallLists.{CallInC, MeetsInC, ChainInC, image_after, list_with, list_after}
use Rattle.bus.specs.InC.{BeginningInC, with_an_image, with_an_opening, AnswersInC, ImageInC, ClaimInC, LimitInC, BalanceInC, SiteInC}
use Rattle.bus.proofs.Chaining.{Held, opening_held, called_saved, opened_left, opened_image, chained_saved}
use Rattle.bus.proofs.Returning.{zero_opened, as_many}

-- The contracts, as the definition of what is left

met : (image : List ℕ) (m : Made) (l : Left) → MeetsInC image m l → l ≡ left_by image m
met image (calls numbers c) l h = h.result
met image (opens numbers x) l h = ap (λ (list : List ℕ). record { number = l.number; numbers = l.numbers; image = l.image; list = list }) h.1 ∙ h.0.result

all_met :
    (image : List ℕ) (rs : List CallInC) → ChainInC image rs → map (λ (r : CallInC). r.left) rs ≡ chained image (map (λ (r : CallInC). r.made) rs)
all_met image [] h = refl
all_met image (r ∷ rs) h =
    ap (λ (ls : List Left). r.left ∷ ls) (all_met r.left.image rs h.1)
    ∙ ap (λ (l : Left). l ∷ chained l.image (map (λ (s : CallInC). s.made) rs)) (met image r.made r.left h.0)

-- A list of calls, and the image of the station that it left

pub record Stands (l : CallList) (image : List ℕ) : Type 0 where
  pub right : ValidState (first l.beginning)
  pub held : Held (station_left l)
  pub image_is : image ≡ image_of (station_left l)

called_stands :
    (l : CallList) (image numbers : List ℕ) (c : Call) (r : Left)
    → Stands l image
    → r ≡ called numbers image c
    → Stands (one_more l c) r.image
called_stands l image numbers c r s e =
    let s' : State = station_left l in
    let next : station_left (one_more l c) ≡ (step s' c).state
    = ap (λ (h : Past). h.station) (after-append step l.calls (c ∷ []) (beginning (first l.beginning))) in
    record {
      right = s.right;
      held = subst Held (sym next) (record { one = feeders_stay s' c ∙ s.held.one; valid = step_valid s' c s.held.valid });
      image_is =
          ap (λ (x : Left). x.image)
          (e ∙ ap (λ (i : List ℕ). called numbers i c) s.image_is ∙ called_saved s' numbers c s.held)
          ∙ ap image_of (sym next);
    }

-- an answer that refuses nothing returns 0
granted_zero : (a : Answer) → (told a).is_refused ≡ false → (told a).number ≡ 0
granted_zero (refused k) e = absurd (true≢false e)
granted_zero (opened bounds) e = refl
granted_zero (previewed start) e = refl
granted_zero (committed ticket start) e = refl
granted_zero (moved reported dropped) e = refl
granted_zero (planned cause before after rounds) e = refl
granted_zero (waiting start rate) e = refl
granted_zero (charging start end rate) e = refl
granted_zero (looked count) e = refl
granted_zero withdrawn e = refl

-- an opening that returns 0 leaves the image of the fresh station, whatever list it was lent
opened_zero :
    (numbers image : List ℕ) (x : Asked)
    → (opened_over numbers image x).number ≡ 0
    → Stands (beginning_with (an_opening x)) (opened_over numbers image x).image
opened_zero numbers image x e =
    let z = (zero_opened numbers image x).0 e in
    let one : length (opening x).state.feeders ≡ 1 = as_many x z.1 ∙ z.2 in
    let granted : (told (opening x).answer).is_refused ≡ false
    = ap (λ (a : Answer). (told a).is_refused) ((demand_one_opening x).answered z.1).0 in
    record {
      right = opening_valid x;
      held = opening_held x one;
      image_is = opened_image numbers image x z.0 one granted;
    }

-- what is left of a result that refuses something is the image
refused_image : (numbers image : List ℕ) (r : Result) → (told r.answer).is_refused ≡ true → (left numbers image r).image ≡ image
unfolding left
refused_image numbers image r e = rw e refl

granted_number : (numbers image : List ℕ) (r : Result) → (told r.answer).is_refused ≡ false → (left numbers image r).number ≡ 0
unfolding left
granted_number numbers image r e = granted_zero r.answer e

-- another opening leaves the image
opened_other :
    (numbers image : List ℕ) (x : Asked)
    → Whole image
    → ((opened_over numbers image x).number ≡ 0 → ⊥)
    → (opened_over numbers image x).image ≡ image
opened_other numbers image x w n = go (told (opened_one x).answer).is_refused refl
  where
    same : opened_over numbers image x ≡ left numbers image (opened_one x)
    same = opened_left numbers image x w

    go : (b : Bool) → (told (opened_one x).answer).is_refused ≡ b → (opened_over numbers image x).image ≡ image
    go true e = ap (λ (l : Left). l.image) same ∙ refused_image numbers image (opened_one x) e
    go false e = absurd (n (ap (λ (l : Left). l.number) same ∙ granted_number numbers image (opened_one x) e))

opened_stands :
    (l : CallList) (image numbers : List ℕ) (x : Asked) (r : Left)
    → Stands l image
    → r ≡ opened_over numbers image x
    → Stands (cond (eqb r.number 0) (beginning_with (an_opening x)) l) r.image
opened_stands l image numbers x r s e = go (eqb r.number 0) refl
  where
    go : (b : Bool) → eqb r.number 0 ≡ b → Stands (cond b (beginning_with (an_opening x)) l) r.image
    go true f =
        subst (Stands (beginning_with (an_opening x))) (ap (λ (y : Left). y.image) (sym e))
        (opened_zero numbers image x (ap (λ (y : Left). y.number) (sym e) ∙ eqb-true r.number 0 f))
    go false f =
        let kept : r.image ≡ image =
        ap (λ (y : Left). y.image) e
        ∙ opened_other numbers image x (ap (λ (i : List ℕ). length i) s.image_is ∙ image_length (station_left l))
        (λ z. eqb-false r.number 0 f (ap (λ (y : Left). y.number) e ∙ z)) in
        record { right = s.right; held = s.held; image_is = kept ∙ s.image_is }

next_stands :
    (l : CallList) (image : List ℕ) (m : Made) (r : Left)
    → Stands l image
    → r ≡ left_by image m
    → Stands (list_with l m r.number) r.image
next_stands l image (calls numbers c) r s e = called_stands l image numbers c r s e
next_stands l image (opens numbers x) r s e = opened_stands l image numbers x r s e

all_stand :
    (l : CallList) (image : List ℕ) (rs : List CallInC)
    → Stands l image
    → ChainInC image rs
    → Stands (list_after l rs) (image_after image rs)
all_stand l image [] s h = s
all_stand l image (r ∷ rs) s h =
    all_stand (list_with l r.made r.left.number) r.left.image rs
    (next_stands l image r.made r.left s (met image r.made r.left h.0))
    h.1

-- Where a list begins

begun_stands : (image : List ℕ) (l : CallList) → BeginningInC image l → Stands l image
begun_stands _ _ (with_an_image image e) =
    record {
      right = restoring_valid image;
      held = record { one = restoring_one image; valid = restoring_valid image };
      image_is = sym (accepted_saves image e);
    }
begun_stands _ _ (with_an_opening numbers before x number behind image h e) =
    subst (Stands (beginning_with (an_opening x))) (ap (λ (y : Left). y.image) (sym h.result))
    (opened_zero numbers before x (ap (λ (y : Left). y.number) (sym h.result) ∙ e))

pub answers_in_c : AnswersInC
answers_in_c image l b rs h =
    let s : Stands l image = begun_stands image l b in
    all_met image rs h
    ∙ ap (λ (i : List ℕ). chained i (map (λ (r : CallInC). r.made) rs)) s.image_is
    ∙ chained_saved (station_left l) (map (λ (r : CallInC). r.made) rs) s.held

chain_stands : (image : List ℕ) (l : CallList) → BeginningInC image l → (rs : List CallInC) → ChainInC image rs → Stands (list_after l rs) (image_after image rs)
chain_stands image l b rs h = all_stand l image rs (begun_stands image l b) h

pub image_in_c : ImageInC
image_in_c image l b rs h =
    let t : Stands (list_after l rs) (image_after image rs) = chain_stands image l b rs h in
    ap restoring t.image_is ∙ restored_saved (station_left (list_after l rs)) t.held.one t.held.valid

pub claim_in_c : ClaimInC
claim_in_c image l b rs h =
    claimed (list_after l rs).beginning (list_after l rs).calls (chain_stands image l b rs h).right

-- In every minute

pub limit_in_c : LimitInC
limit_in_c image l b rs h f n t i j m =
    limit_claimed (list_after l rs).beginning (list_after l rs).calls (claim_in_c image l b rs h) f n t i j m

pub balance_in_c : BalanceInC
balance_in_c image l b rs h f n k t i j o m =
    balance_claimed (list_after l rs).beginning (list_after l rs).calls (claim_in_c image l b rs h) f n k t i j o m

pub site_in_c : SiteInC
site_in_c image l b rs h t m =
    site_claimed (list_after l rs).beginning (list_after l rs).calls (claim_in_c image l b rs h) t m
