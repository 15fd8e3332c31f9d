-- Steps of a profile put in and raised: one more load, between two of its steps.
use Rattle.std.specs.Prelude.{ℕ, suc, ◌+◌, ◌^◌, ◌≤◌, ◌<◌, ◌≡◌, length, get_or}
use Rattle.std.specs.declared.ops.Range.{Range}
use Rattle.rules.specs.Load.{IsColumn, share}
use Rattle.profile.specs.Steps.{minutes_of, empty_step, begun_at, Raised as RaisedBetween}
use Rattle.profile.specs.Shows.{Profile, line_of}

-- q is p with step i there twice, the second time from minute t on
pub record PutIn (p q : Profile) (i t : ℕ) : Type 0 where
  pub size : length q ≡ length p + 1
  pub before : (m : ℕ) → m ≤ i → get_or q m (empty_step 0) ≡ get_or p m (empty_step 0)
  pub here : get_or q (i + 1) (empty_step 0) ≡ begun_at t (get_or p i (empty_step 0))
  pub after : (m : ℕ) → i < m → m < length p → get_or q (suc m) (empty_step 0) ≡ get_or p m (empty_step 0)

-- what raising a line in these steps asks
pub record CanRaise (p : Profile) (steps : Range ℕ) (line rate : ℕ) : Type 0 where
  pub on_column : IsColumn line
  pub order : steps.start ≤ steps.end
  pub below : steps.end ≤ length p
  pub fits : (m : ℕ) → m < steps.end → line_of p line m + rate < 2 ^ 32

-- q is p with the rate more on the line in these steps
pub record Raised (p : Profile) (steps : Range ℕ) (line rate : ℕ) (q : Profile) : Type 0 where
  pub minutes : minutes_of q ≡ minutes_of p
  pub size : length q ≡ length p
  pub each : (l : ℕ) → IsColumn l → RaisedBetween (line_of p l) (line_of q l) steps.start steps.end (share line rate l)
