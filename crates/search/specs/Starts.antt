-- The smallest start of one more load, by the levels of a profile.
use Rattle.std.specs.Prelude.{ℕ, ◌+◌, ◌-◌, ◌^◌, ◌≤◌, ◌<◌, ◌≡◌, Bool, true, false, List, [], length, Option, Some, None}
use Rattle.std.specs.declared.ops.Range.{Range}
use Rattle.rules.specs.Load.{Load, load_from, IsColumn, draws, sound_counts}
use Rattle.rules.specs.Search.{earliest}
use Rattle.profile.specs.Minutes.{Passes, Fails}
use Rattle.profile.specs.Shows.{Profile, draw_of, line_of, level_of, levels, first_minute, last_minute, Formed, Small, Shows, found_at}
use Rattle.profile.specs.declared.loads.Draw.{Draw}
use Rattle.search.specs.Numbers.{limits_beside}
use Rattle.search.specs.declared.limits.Limits.{Limits}

-- in the last step nothing is drawn
abbrev pub EndsEmpty : Profile → Type 0
EndsEmpty p = (l : ℕ) → IsColumn l → line_of p l (length p - 1) ≡ 0

-- what a search for a start asks: from the last step on nothing is drawn, and no count and no end is too large
pub record CanStart (p : Profile) (time : ℕ) : Type 0 where
  pub formed : Formed p
  pub small : Small p
  pub empty : EndsEmpty p
  pub ends_fit : last_minute p + time < 2 ^ 32

-- the levels in minute t are within both limits and the bound
abbrev pub sound_in : Profile → Limits → ℕ → Bool
sound_in p y t = sound_counts (limits_beside y []) (levels p t)

-- the same with one more load from minute s on
abbrev pub sound_with : Profile → Limits → Draw → ℕ → ℕ → Bool
sound_with p y a s t = sound_counts (limits_beside y []) (λ l. level_of p l t + draws (load_from (draw_of a) s) l t)

-- every minute before these is sound, and every minute behind them; the first of them is not, and neither is the last
pub record UnsoundWithin (p : Profile) (y : Limits) (minutes : Range ℕ) : Type 0 where
  pub low : first_minute p ≤ minutes.start
  pub order : minutes.start < minutes.end
  pub high : minutes.end ≤ last_minute p
  pub before : (t : ℕ) → first_minute p ≤ t → t < minutes.start → sound_in p y t ≡ true
  pub after : Passes (sound_in p y) minutes.end
  pub first_fails : sound_in p y minutes.start ≡ false
  pub last_fails : sound_in p y (minutes.end - 1) ≡ false

-- those minutes, or every minute is sound
abbrev pub UnsoundIf : Profile → Limits → Option (Range ℕ) → Type 0
UnsoundIf p y (Some minutes) = UnsoundWithin p y minutes
UnsoundIf p y None = Passes (sound_in p y) (first_minute p)

pub record UnsoundMinutes (p : Profile) (y : Limits) (r : Option (Range ℕ)) : Type 0 where
  pub answer : UnsoundIf p y r

-- r is the smallest start, from the first minute on, with which every minute is sound
pub record StartsAt (p : Profile) (y : Limits) (a : Draw) (r : ℕ) : Type 0 where
  pub low : first_minute p ≤ r
  pub high : r ≤ last_minute p
  pub sound : Passes (sound_with p y a r) (first_minute p)
  pub least : (s : ℕ) → first_minute p ≤ s → s < r → Fails (sound_with p y a s) (first_minute p)

-- that start, or there is none
abbrev pub StartsIf : Profile → Limits → Draw → Option ℕ → Type 0
StartsIf p y a (Some r) = StartsAt p y a r
StartsIf p y a None = (s : ℕ) → first_minute p ≤ s → Fails (sound_with p y a s) (first_minute p)

-- the answer is the smallest start with which the levels and one more load are within both limits and the bound in every minute
pub record EarliestStart (p : Profile) (y : Limits) (a : Draw) (r : Option ℕ) : Type 0 where
  pub answer : StartsIf p y a r

-- whatever loads p shows, the answer is the rules' earliest start; what the other feeders draw stands among the loads, so that
-- the limits say nothing of it
abbrev pub Earliest : Profile → Limits → Draw → Option ℕ → Type 0
Earliest p y a r =
    (clock : ℕ) (loads others : List Load) → Shows p clock loads → earliest (limits_beside y others) clock loads (draw_of a) ≡ found_at r
