-- The step that a binary search finds is that of the minute.
use Prim.Native.Nat.{ℕ, ◌-◌, ◌≤◌}
use mathlib.Core.Path.{◌≡◌}
use mathlib.Core.Bool.{true, false}
use mathlib.Core.Logic.{⊎_elim}
use native.Mathlib.Omega.{arith}
use borrow.Author.Tests.{leb-true, leb-false, le-leb}
use lib.Dec.{leb}
use lib.ListN.{length, get_or}
use Rattle.std.specs.List.Sorted.{IsPartitionPoint, IsPartitionedBy}
use Rattle.rules.proofs.Ranges.{below_or_not}
use Rattle.profile.specs.declared.steps.Step.{Step}
use Rattle.profile.specs.Steps.{empty_step, In}
use Rattle.profile.specs.Shows.{Profile, first_minute, Formed}
use Rattle.profile.proofs.Levels.{rising_le}
use Rattle.profile.proofs.Edited.{minute_at, minute_in}

-- the steps that begin by t stand before the others
pub begun_first : (p : Profile) (t : ℕ) → Formed p → IsPartitionedBy (λ (x : Step). leb x.minute t) p
begun_first p t f i j d a b e =
    le-leb (get_or p i d).minute t
    (omega (arith, minute_in p i d (omega arith), minute_in p j d b, rising_le p f.rises i j a b, leb-true (get_or p j d).minute t e))

module _ (p : Profile) (t i : ℕ) (f : Formed p) (low : first_minute p ≤ t) (h : IsPartitionPoint (λ (x : Step). leb x.minute t ≡ true) (λ (x : Step). leb x.minute t ≡ false) p i) where
  pub one_begun : 1 ≤ i
  one_begun =
      ⊎_elim
      (λ a. absurd (omega (arith, minute_at p 0, leb-false (get_or p 0 (empty_step 0)).minute t (h.1 0 (empty_step 0) (omega arith) f.some))))
      (λ a. a)
      (below_or_not i 1)

  pub last_begun : i ≤ length p → In p (i - 1) t
  last_begun most =
      record {
        below = omega (arith, one_begun);
        begun = omega (arith, minute_at p (i - 1), leb-true (get_or p (i - 1) (empty_step 0)).minute t (h.0 (i - 1) (empty_step 0) (omega arith) (omega (arith, one_begun))));
        later = λ j a b. omega (arith, minute_at p j, leb-false (get_or p j (empty_step 0)).minute t (h.1 j (empty_step 0) (omega arith) b));
      }
