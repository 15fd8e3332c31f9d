-- Refusals 20, 21 and 22, each in its place, and what an image has that meets none.
use mathlib.Core.Path.{◌≡◌, refl, sym, ◌∙◌}
use Prim.Native.Nat.{ℕ}
use mathlib.Core.Bool.{Bool, true, false, ◌&&◌}
use mathlib.Core.List.{List}
use native.Mathlib.Omega.{arith}
use lib.ListN.{length, get_or}
use lib.Seq.{ext_get_or}
use borrow.Author.Tests.{eqb-true, eq-eqb, ne_eqb}
use Rattle.rules.specs.Basics.{first_of}
use Rattle.rules.specs.Site.{State}
use Rattle.rules.specs.Calls.{opening, fresh, least}
use Rattle.rules.specs.Valid.{ValidState}
use Rattle.rules.proofs.Ranges.{and_left, and_right, fails}
use Rattle.rules.proofs.Validity.{opening_valid}
use Rattle.layout.specs.Lists.{every}
use Rattle.layout.specs.Image.{image_of}
use Rattle.layout.specs.Validity.{is_valid}
use Rattle.layout.specs.Reading.{state_in, sized, checked, same_place, same, is_of, restore_rows, restore_refusal, restoring}
use Rattle.layout.specs.Saving.{save_refusal, saving}
use Rattle.layout.specs.LawsOfRestoring.{RefusedIsFresh}
use Rattle.layout.specs.LawsOfSaving.{ImageIsWritten, SeveralAreRefused, OtherSizeIsRefused}
use Rattle.layout.proofs.Listing.{every_at}
use Rattle.layout.proofs.Imaging.{image_length}
use Rattle.layout.proofs.Validity.{valid_by_test}

pub same_equal : (xs ys : List ℕ) → length xs ≡ 4608 → length ys ≡ 4608 → same xs ys ≡ true → xs ≡ ys
unfolding same
same_equal xs ys p q e =
    ext_get_or 0 xs ys (p ∙ sym q)
    (λ k h. eqb-true (get_or xs k 0) (get_or ys k 0) (every_at (same_place xs ys) _ e k (omega arith)))

-- Saving

pub saving_written : ImageIsWritten
unfolding save_refusal saving
saving_written s previous list one h l =
    rw (eq-eqb (length previous) 4608 h, eq-eqb (length list) 4608 l, eq-eqb (length s.feeders) 1 one)

pub saving_several : SeveralAreRefused
unfolding save_refusal saving
saving_several s previous list n h l =
    rw (eq-eqb (length previous) 4608 h, eq-eqb (length list) 4608 l, ne_eqb (length s.feeders) 1 n)

pub saving_refused : OtherSizeIsRefused
unfolding save_refusal saving
saving_refused s previous list n =
    rw (fails (sized previous && sized list) (λ e. n (size previous (and_left _ (sized list) e)) (size list (and_right (sized previous) _ e))))
  where
    size : (xs : List ℕ) → sized xs ≡ true → length xs ≡ 4608
    size xs e = eqb-true (length xs) 4608 e

module _ (xs : List ℕ) where
  -- Each refusal of restoring

  pub refused_length : (length xs ≡ 4608 → ⊥) → restore_refusal xs ≡ 20
  unfolding restore_refusal
  refused_length h = rw (ne_eqb (length xs) 4608 h)

  pub refused_check : length xs ≡ 4608 → every (checked xs) 9 ≡ false → restore_refusal xs ≡ 21
  unfolding restore_refusal
  refused_check h e = rw (eq-eqb (length xs) 4608 h, e)

  pub refused_contents :
      length xs ≡ 4608 → every (checked xs) 9 ≡ true → is_of xs (state_in xs) ≡ false → restore_refusal xs ≡ 22
  unfolding restore_refusal
  refused_contents h e n = rw (eq-eqb (length xs) 4608 h, e, n)

  pub not_refused :
      length xs ≡ 4608 → every (checked xs) 9 ≡ true → is_of xs (state_in xs) ≡ true → restore_refusal xs ≡ 0
  unfolding restore_refusal
  not_refused h e n = rw (eq-eqb (length xs) 4608 h, e, n)

  -- None

  pub record Accepted : Type 0 where
    pub size : length xs ≡ 4608
    pub checks : every (checked xs) 9 ≡ true
    pub one : length (state_in xs).feeders ≡ 1
    pub valid : ValidState (state_in xs)
    pub saved : image_of (state_in xs) ≡ xs

  rows_pass :
      (p q r : Bool) → first_of (restore_rows p q r) ≡ 0 → (p ≡ true) × (q ≡ true) × (r ≡ true)
  rows_pass true true true e = (refl, refl, refl)
  rows_pass true true false e = absurd (omega arith)
  rows_pass true false r e = absurd (omega arith)
  rows_pass false q r e = absurd (omega arith)

  passed :
      restore_refusal xs ≡ 0 → (sized xs ≡ true) × (every (checked xs) 9 ≡ true) × (is_of xs (state_in xs) ≡ true)
  unfolding restore_refusal
  passed e = rows_pass (sized xs) (every (checked xs) 9) (is_of xs (state_in xs)) e

  is_of_parts : (s : State) → is_of xs s ≡ true → (is_valid s ≡ true) × (same xs (image_of s) ≡ true)
  unfolding is_of
  is_of_parts s e = (and_left (is_valid s) (same xs (image_of s)) e, and_right (is_valid s) (same xs (image_of s)) e)

  -- an image is of one feeder
  pub one_read : length (state_in xs).feeders ≡ 1
  unfolding state_in
  one_read = refl

  pub accepted : restore_refusal xs ≡ 0 → Accepted
  accepted e =
      let p = passed e in
      let l : length xs ≡ 4608 = eqb-true (length xs) 4608 p.0 in
      let c = is_of_parts (state_in xs) p.2 in
      record {
        size = l;
        checks = p.1;
        one = one_read;
        valid = valid_by_test (state_in xs) one_read c.0;
        saved = sym (same_equal xs (image_of (state_in xs)) l (image_length (state_in xs)) c.1);
      }

  -- What stands beside the refusal

  pub accepted_state : restore_refusal xs ≡ 0 → (restoring xs).state ≡ state_in xs
  accepted_state e = rw e

pub refused_state : RefusedIsFresh
refused_state xs n = rw (ne_eqb (restore_refusal xs) 0 n)

pub fresh_valid : ValidState (fresh least)
unfolding opening
fresh_valid = opening_valid least
