-- A station that is saved and restored; images that are refused: all zero bytes have right checks, but N is 0, and images from before W
-- stood in block 0 have W 0; and a site that is not saved.
use mathlib.Core.Logic.{◌⊎◌, inl, inr}
use mathlib.Core.Path.{◌≡◌, refl, sym, ◌∙◌}
use Prim.Native.Nat.{ℕ, ◌+◌, ◌*◌, ◌≤◌, ◌<◌}
use mathlib.Core.Bool.{true}
use mathlib.Core.List.{List}
use native.Mathlib.Omega.{arith}
use lib.ListN.{length, get_or, get_or-eq_default}
use borrow.Author.Tests.{eq-eqb}
use Rattle.rules.specs.Load.{limited, balanced, within_site, sound}
use Rattle.rules.specs.Site.{State}
use Rattle.rules.specs.Valid.{ValidState}
use Rattle.rules.proofs.Ranges.{fails, below_or_not}
use Rattle.layout.specs.Lists.{every}
use Rattle.layout.specs.Bytes.{number_at}
use Rattle.layout.specs.Image.{only, check_of, image_of}
use Rattle.layout.specs.Validity.{between, settings_ranged, bound_right, fields_ranged, rate_right, times_right, charge_right, ticket_right, record_right, is_valid}
use Rattle.layout.specs.Reading.{in_block, header_at, state_in, checked, is_of, restore_refusal}
use Rattle.layout.specs.CasesOfImages.{small, two_feeders}
use Rattle.layout.specs.LawsOfRestoring.{WithoutSiteLimitIsRefused}
use Rattle.layout.specs.LawsOfCases.{zeros, ZerosAreRefused, TwoFeedersAreNotSaved, SmallIsRestored}
use Rattle.layout.proofs.Listing.{length-listed, get_d_listed, every_all}
use Rattle.layout.proofs.Numbers.{number_same}
use Rattle.layout.proofs.Checks.{check_zero}
use Rattle.layout.proofs.Imaging.{image_length, header_number, all_checked}
use Rattle.layout.proofs.Single.{first-is}
use Rattle.layout.proofs.Validity.{valid_by_test}
use Rattle.layout.proofs.Refusing.{saving_several, refused_contents, not_refused, one_read, accepted}
use Rattle.layout.proofs.RoundTrip.{restored_saved}

pub small_restored : SmallIsRestored
unfolding every between settings_ranged bound_right fields_ranged rate_right times_right charge_right ticket_right record_right is_valid limited balanced within_site sound
small_restored = restored_saved small refl (valid_by_test small refl refl)

-- contents of no valid station
not_valid_refused :
    (xs : List ℕ)
    → length xs ≡ 4608
    → every (checked xs) 9 ≡ true
    → (ValidState (state_in xs) → ⊥)
    → restore_refusal xs ≡ 22
not_valid_refused xs l c n =
    refused_contents xs l c (fails (is_of xs (state_in xs)) (λ e. n (accepted xs (not_refused xs l c e)).valid))

-- All zero bytes

size : length zeros ≡ 4608
size = length-listed (λ k. 0) 4608

zero_at : (k : ℕ) → ◌≡◌ {A = ℕ} (get_or zeros k 0) 0
zero_at k = go (below_or_not k 4608)
  where
    go : (k < 4608) ⊎ (4608 ≤ k) → ◌≡◌ {A = ℕ} (get_or zeros k 0) 0
    go (inl l) = get_d_listed (λ k. 0) 4608 k l
    go (inr l) = get_or-eq_default zeros 0 (omega (arith, size))

number_zero : (f : ℕ → ℕ) (a : ℕ) → ((i : ℕ) → f i ≡ 0) → number_at f a 4 ≡ 0
number_zero f a h = number_same f (λ i. 0) a 4 (λ i p q. h i)

block_checked : (b : ℕ) → checked zeros b ≡ true
unfolding checked
block_checked b =
    eq-eqb (check_of (in_block zeros b)) (number_at (in_block zeros b) 508 4)
    (check_zero (in_block zeros b) (λ i h. zero_at (512 * b + i)) ∙ sym (number_zero (in_block zeros b) 508 (λ i. zero_at (512 * b + i))))

pub zeros_checked : every (checked zeros) 9 ≡ true
zeros_checked = every_all (checked zeros) 9 (λ b h. block_checked b)

limit_zero : (only (state_in zeros)).limit ≡ 0
unfolding state_in header_at
limit_zero = number_zero (λ i. get_or zeros i 0) 0 zero_at

pub zeros_refused : ZerosAreRefused
zeros_refused =
    not_valid_refused zeros size zeros_checked
    (λ v. omega (arith, (v.settings 1 (first-is (state_in zeros) (one_read zeros))).limit_low, limit_zero))

-- W 0

old_zero : (s : State) → s.site ≡ 0 → (state_in (image_of s)).site ≡ 0
unfolding state_in
old_zero s e = header_number s 24 (omega arith) ∙ rw e refl

pub old_refused : WithoutSiteLimitIsRefused
old_refused s e =
    not_valid_refused (image_of s) (image_length s) (all_checked s) (λ v. omega (arith, v.site_low, old_zero s e))

-- Two feeders, and lists of the right size

pub two_not_saved : TwoFeedersAreNotSaved
two_not_saved = saving_several two_feeders zeros zeros (λ e. omega (arith, e)) size size
