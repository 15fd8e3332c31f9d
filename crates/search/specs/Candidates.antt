-- The test of a candidate start and the first start that fits, by the levels of a profile.
use Rattle.std.specs.Prelude.{ℕ, ◌+◌, ◌^◌, ◌≤◌, ◌<◌, ◌≡◌, Bool, true, List, [], is_ok}
use Rattle.rules.specs.Load.{Load, IsRate, sound_counts}
use Rattle.rules.specs.Candidate.{candidate}
use Rattle.profile.specs.Steps.{In}
use Rattle.profile.specs.Shows.{Profile, draw_of, levels, first_minute, Formed, Small, Shows}
use Rattle.profile.specs.declared.loads.Draw.{Draw}
use Rattle.search.specs.Numbers.{limits_beside, with_draw, SoundAlone}
use Rattle.search.specs.Rooms.{FailsAt, FirstPassing}
use Rattle.search.specs.Starts.{CanStart}
use Rattle.search.specs.declared.limits.Limits.{Limits}
use Rattle.search.specs.declared.candidate.TestedStart.{TestedStart}
use Rattle.search.specs.declared.walk.Failing.{Failing}

-- the levels in minute t and what a charge draws are within both limits and the bound
abbrev pub fits_in : Profile → Limits → Draw → ℕ → Bool
fits_in p y a t = sound_counts (limits_beside y []) (with_draw (levels p t) a)

-- what the test of a candidate start in a step asks
pub record CanTest (p : Profile) (a : Draw) (start step : ℕ) : Type 0 where
  pub formed : Formed p
  pub small : Small p
  pub is_rate : IsRate a.rate
  pub inside : In p step start
  pub ends_fit : start + a.time < 2 ^ 32

-- every minute of the charge's own fits
abbrev pub EachFits : Profile → Limits → Draw → ℕ → Type 0
EachFits p y a start = (t : ℕ) → start ≤ t → t < start + a.time → fits_in p y a t ≡ true

-- the first of them that does not, and the step in which it lies
abbrev pub FailsFirst : Profile → Limits → Draw → ℕ → Failing → Type 0
FailsFirst p y a start m = FailsAt (fits_in p y a) p start (start + a.time) m.minute m.step

-- whatever loads p shows, the verdict and the number of minutes are those of the rules' test
abbrev pub TestShows : Profile → Limits → Draw → ℕ → TestedStart → Type 0
TestShows p y a start r =
    (clock : ℕ) (loads others : List Load)
    → Shows p clock loads
    → clock ≤ start
    → candidate (limits_beside y others) loads (draw_of a) start ≡ record { fits = is_ok r.verdict; looked = r.looked }

-- what a search over candidates asks: the last step has room
pub record CanFit (p : Profile) (y : Limits) (a : Draw) (start : ℕ) : Type 0 where
  pub can : CanStart p a.time
  pub alone : SoundAlone y a
  pub some : 1 ≤ a.time
  pub low : first_minute p ≤ start
  pub ends_fit : start + a.time < 2 ^ 32

-- by the minutes below `until` every start before r fails; r fits, or reaches `until` or behind
abbrev pub FirstFitting : Profile → Limits → Draw → ℕ → ℕ → ℕ → Type 0
FirstFitting p y a start until r = FirstPassing (fits_in p y a) a.time start until r
