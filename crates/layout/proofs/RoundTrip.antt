-- "Saving and restoring give the same station, an accepted image saves to itself": "restore accepts exactly the images" of valid
-- stations.
use mathlib.Core.Path.{◌≡◌, refl, ap, sym, ◌∙◌}
use Prim.Native.Nat.{ℕ, zero, suc}
use mathlib.Core.Bool.{true, cond}
use mathlib.Core.List.{List}
use native.Mathlib.Omega.{arith}
use lib.Dec.{eqb}
use lib.ListN.{length}
use borrow.Author.Tests.{ne_eqb}
use Rattle.rules.specs.Site.{State}
use Rattle.rules.specs.Calls.{fresh, least}
use Rattle.rules.specs.Valid.{ValidState}
use Rattle.rules.proofs.Ranges.{and_both, fails}
use Rattle.layout.specs.Image.{image_of}
use Rattle.layout.specs.Validity.{is_valid}
use Rattle.layout.specs.Reading.{state_in, same, is_of, restore_refusal, restoring}
use Rattle.layout.specs.LawsOfRestoring.{ExactlyTheseAreAccepted, OthersAreRefused, ImageDeterminesStation, RestoredIsValid, RestoredHasOneFeeder}
use Rattle.layout.specs.LawsOfSaving.{SavedIsRestored, WrittenIsRestored, AcceptedSavesToItself}
use Rattle.layout.proofs.Imaging.{image_length, all_checked, same_self}
use Rattle.layout.proofs.Validity.{test_of_valid}
use Rattle.layout.proofs.Refusing.{saving_written, refused_contents, not_refused, accepted, accepted_state, fresh_valid}
use Rattle.layout.proofs.ReadBack.{state_back}

-- Saved, then restored

module _ (s : State) (one : length s.feeders ≡ 1) (v : ValidState s) where
  image_is_of : is_of (image_of s) s ≡ true
  unfolding is_of
  image_is_of = and_both (is_valid s) (same (image_of s) (image_of s)) (test_of_valid s one v) (same_self (image_of s))

  pub image_accepted : restore_refusal (image_of s) ≡ 0
  image_accepted =
      not_refused (image_of s) (image_length s) (all_checked s) (ap (is_of (image_of s)) (state_back s one v) ∙ image_is_of)

pub restored_saved : SavedIsRestored
restored_saved s one v = rw (image_accepted s one v, state_back s one v)

pub saved_restored : WrittenIsRestored
saved_restored s one v previous list h l = rw (saving_written s previous list one h l) (restored_saved s one v)

-- Restored, then saved

pub accepted_saves : AcceptedSavesToItself
accepted_saves xs e = ap image_of (accepted_state xs e) ∙ (accepted xs e).saved

-- What restoring gives is valid, whatever the list: calls may follow. It has one feeder.
module _ (xs : List ℕ) where
  either : (P : State → Type 0) → (restore_refusal xs ≡ 0 → P (state_in xs)) → P (fresh least) → P (restoring xs).state
  either P a b = go (restore_refusal xs) a
    where
      go : (n : ℕ) → (n ≡ 0 → P (state_in xs)) → P (cond (eqb n 0) (state_in xs) (fresh least))
      go zero f = f refl
      go (suc n) f = rw (ne_eqb (suc n) 0 (λ e. omega arith)) b

pub restoring_valid : RestoredIsValid
restoring_valid xs = either xs ValidState (λ e. (accepted xs e).valid) fresh_valid

pub restoring_one : RestoredHasOneFeeder
restoring_one xs = either xs (λ s. length s.feeders ≡ 1) (λ e. (accepted xs e).one) refl

-- Exactly the images of valid stations of one feeder

pub accepted_exactly : ExactlyTheseAreAccepted
accepted_exactly xs = (
  (λ e. record { station = state_in xs; one = (accepted xs e).one; valid = (accepted xs e).valid; is_image = sym (accepted xs e).saved }),
  (λ i. ap restore_refusal i.is_image ∙ image_accepted i.station i.one i.valid),
)

pub others_refused : OthersAreRefused
others_refused xs l c n =
    refused_contents xs l c
    (fails (is_of xs (state_in xs)) (λ e. n ((accepted_exactly xs).0 (not_refused xs l c e))))

pub image_determines : ImageDeterminesStation
image_determines s t p q v w e = sym (state_back s p v) ∙ ap state_in e ∙ state_back t q w
