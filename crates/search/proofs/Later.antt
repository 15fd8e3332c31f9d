-- A loop over the steps from step n on: what it comes to in its turn k is step n + k.
use Prim.Native.Nat.{ℕ, ◌+◌, ◌-◌, ◌<◌, ◌≤◌}
use mathlib.Core.Path.{◌≡◌, refl, ◌∙◌, sym, ap}
use native.Mathlib.Omega.{arith}
use lib.ListN.{length, get_or, drop, take}
use Rattle.std.proofs.Common.{slice_index_or}
use Rattle.std.proofs.lemmas.List.{get_or-drop, get_or_default, length-drop, length-take-le, take_all}
use Rattle.profile.specs.Steps.{minutes_of, empty_step}
use Rattle.profile.specs.Shows.{Profile}
use Rattle.profile.specs.declared.steps.Step.{Step}
use Rattle.profile.proofs.Edited.{minute_in}

-- the item is step k of the profile, with its number
pub record IsStep (p : Profile) (k i : ℕ) (held : Step) : Type 0 where
  pub below : k < length p
  pub number : i ≡ k
  pub item : held ≡ get_or p k (empty_step 0)
  pub minute : get_or (minutes_of p) k 0 ≡ held.minute

-- the steps that the loop goes over
abbrev pub later : Profile → ℕ → Profile
later p n = take (length p - n) (drop n p)

later_size : (p : Profile) (n : ℕ) → length (later p n) ≡ length p - n
later_size p n = length-take-le (length p - n) (drop n p) (omega (arith, length-drop n p))

later_all : (p : Profile) (n : ℕ) → later p n ≡ drop n p
later_all p n = take_all (length p - n) (drop n p) (omega (arith, length-drop n p))

-- step n + k, where the loop begins with step n: that is asked last, so that a loop that begins elsewhere is refused there
pub later_step :
    {m : ℕ} (p : Profile) (n k : ℕ) (d : Step) → k < length (later p m) → m ≡ n → IsStep p (n + k) (n + k) (slice_index_or (later p m) k d)
later_step {m = m} p n k d h same =
    let below : n + k < length p = omega (arith, h, later_size p m, same) in
    let item : get_or (later p m) k d ≡ get_or p (n + k) d =
    ap (λ (q : Profile). get_or q k d) (later_all p m) ∙ get_or-drop m p k d ∙ ap (λ (x : ℕ). get_or p (x + k) d) same in
    record {
      below = below;
      number = refl;
      item = item ∙ get_or_default p (n + k) d (empty_step 0) below;
      minute = minute_in p (n + k) d below ∙ sym (ap (λ (s : Step). s.minute) item);
    }

-- there is no step left
pub later_end : {m : ℕ} (p : Profile) (n k : ℕ) → length (later p m) ≤ k → m ≡ n → length p ≤ n + k
later_end {m = m} p n k h same = omega (arith, h, later_size p m, same)
