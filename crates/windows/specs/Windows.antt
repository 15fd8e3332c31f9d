-- The loads of a window of minutes, put into a profile: what is asked, and what the profile shows then.
use Rattle.std.specs.Prelude.{ℕ, ◌+◌, ◌*◌, ◌^◌, ◌≤◌, ◌<◌, Bool, ◌&&◌, List, ◌++◌, leb, ltb, length}
use Rattle.rules.specs.Basics.{keep, Each}
use Rattle.rules.specs.Load.{Load, IsRate}
use Rattle.profile.specs.Steps.{most_steps}
use Rattle.profile.specs.Shows.{Profile, Shows}

-- a load is drawn from a minute on that is not before `low`, and before `high`
abbrev pub starts_in : ℕ → ℕ → Load → Bool
starts_in low high x = leb low x.from && ltb x.from high

abbrev pub started : ℕ → ℕ → List Load → List Load
started low high xs = keep (starts_in low high) xs

-- a load with a rate of 1 or 2 that ends in a minute of 32 bits
pub record Drawable (x : Load) : Type 0 where
  pub is_rate : IsRate x.rate
  pub ends_fit : x.until < 2 ^ 32

-- p shows loads, in a list of so many places, which has room for k more
pub record RoomFor (p : Profile) (places k : ℕ) : Type 0 where
  pub clock : ℕ
  pub loads : List Load
  pub shows : Shows p clock loads
  pub few : 1 + 2 * (length loads + k) ≤ places
  pub most : places ≤ most_steps

pub record CanAddStarted (p : Profile) (places : ℕ) (xs : List Load) (low high : ℕ) : Type 0 where
  pub drawable : Each Drawable xs
  pub room : RoomFor p places (length (started low high xs))

-- whatever loads p shows, q shows them and those of xs that begin from `low` up to `high`
abbrev pub StartedAdded : Profile → Profile → List Load → ℕ → ℕ → Type 0
StartedAdded p q xs low high =
    (clock : ℕ) (loads : List Load) → Shows p clock loads → Shows q clock (loads ++ started low high xs)
