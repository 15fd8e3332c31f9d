-- The steps of a profile: no count is too large, and they are those of their minutes; the first is not behind the last.
use Prim.Native.Nat.{ℕ, ◌≤◌, ◌<◌}
use mathlib.Core.Path.{◌≡◌}
use mathlib.Core.List.{[]}
use native.Mathlib.Omega.{arith}
use lib.ListN.{length, get_or}
use Rattle.rules.specs.Load.{sound_counts}
use Rattle.profile.specs.Steps.{counts_of, empty_step, In}
use Rattle.profile.specs.Shows.{Profile, line_of, levels, first_minute, last_minute, Formed, Small}
use Rattle.profile.specs.declared.loads.Draw.{Draw}
use Rattle.profile.proofs.Lines.{sound_tests}
use Rattle.profile.proofs.Levels.{level_in, step_from}
use Rattle.profile.proofs.Adds.{small_step}
use Rattle.search.specs.Numbers.{limits_beside, with_draw}
use Rattle.search.specs.Rooms.{SmallStep}
use Rattle.search.specs.Starts.{CanStart}
use Rattle.search.specs.declared.limits.Limits.{Limits}

-- no step of a small profile has too large a count
pub step_small : {p : Profile} → Formed p → Small p → (i : ℕ) → i < length p → SmallStep (get_or p i (empty_step 0))
step_small {p} f s i h = λ l j. small_step p f s l j i h

-- the counts of a step with one more load are those of its minutes
pub step_with :
    (p : Profile) (y : Limits) (a : Draw) {i : ℕ} (t : ℕ) → In p i t
    → sound_counts (limits_beside y []) (with_draw (levels p t) a) ≡ sound_counts (limits_beside y []) (with_draw (counts_of (get_or p i (empty_step 0))) a)
step_with p y a {i} t h =
    sound_tests (limits_beside y []) (with_draw (levels p t) a) (with_draw (counts_of (get_or p i (empty_step 0))) a)
    (λ l j. omega (arith, level_in p (line_of p l) h))

pub first_last : {p : Profile} {time : ℕ} → CanStart p time → first_minute p ≤ last_minute p
first_last c = step_from c.formed (omega (arith, c.formed.some))
