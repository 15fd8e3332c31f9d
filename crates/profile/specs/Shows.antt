-- A profile shows loads: in every minute from the clock on, for each line, its level is the count.
use Rattle.std.specs.Prelude.{ℕ, ◌+◌, ◌-◌, ◌*◌, ◌^◌, ◌≤◌, ◌<◌, max, ◌≡◌, List, length, get_or, Option, Some, None}
use Rattle.std.specs.declared.ops.Range.{Range}
use Rattle.rules.specs.Basics.{Found, at, nothing, Each}
use Rattle.rules.specs.Load as rules
use Rattle.rules.specs.Load.{draw, Load, load_from, IsColumn, IsRate, draws, count, last_until}
use Rattle.rules.specs.Search.{added}
use Rattle.profile.specs.Steps.{most_steps, level_at, minutes_of, counts_of, empty_step, Rising}
use Rattle.profile.specs.declared.steps.Step.{Step}
use Rattle.profile.specs.declared.loads.Draw.{Draw}

-- The changes: step i begins in its minute, and from there on line l has its count. The first step begins at the clock.
abbrev pub Profile : Type 0
Profile = List Step

-- what a charge draws, as the rules have it
abbrev pub draw_of : Draw → rules.Draw
draw_of a = draw a.line a.time a.rate

-- the counts of line l, step by step
abbrev pub line_of : Profile → ℕ → ℕ → ℕ
line_of p l i = counts_of (get_or p i (empty_step 0)) l

-- the level of line l in minute t
abbrev pub level_of : Profile → ℕ → ℕ → ℕ
level_of p l t = level_at (minutes_of p) (line_of p l) (length p) t

-- the levels of all lines in minute t
abbrev pub levels : Profile → ℕ → ℕ → ℕ
levels p t l = level_of p l t

-- the minute in which the first step begins, and that in which the last does
abbrev pub first_minute : Profile → ℕ
first_minute p = get_or (minutes_of p) 0 0

abbrev pub last_minute : Profile → ℕ
last_minute p = get_or (minutes_of p) (length p - 1) 0

-- there is a step, and steps begin in rising minutes
pub record Formed (p : Profile) : Type 0 where
  pub some : 1 ≤ length p
  pub rises : Rising p

-- so much can be drawn in a minute: 720 charges of rate 2
abbrev pub most_drawn : ℕ
most_drawn = 1440

abbrev pub Rated : Load → Type 0
Rated x = IsRate x.rate

pub record Shows (p : Profile) (clock : ℕ) (loads : List Load) : Type 0 where
  pub formed : Formed p
  pub rated : Each Rated loads
  pub few : length p ≤ 1 + 2 * length loads
  pub starts : first_minute p ≡ clock
  pub ends : (i : ℕ) → i < length p → get_or (minutes_of p) i 0 ≤ max clock (last_until loads)
  pub counted : (l : ℕ) → IsColumn l → (t : ℕ) → clock ≤ t → level_of p l t ≡ count loads l t

-- no level is above that
abbrev pub Small : Profile → Type 0
Small p = (l : ℕ) → IsColumn l → (t : ℕ) → first_minute p ≤ t → level_of p l t ≤ most_drawn

-- every step begins by minute b
abbrev pub StepsBy : ℕ → Profile → Type 0
StepsBy b p = (i : ℕ) → i < length p → get_or (minutes_of p) i 0 ≤ b

-- q is p with t the beginning of step k
pub record Split (p q : Profile) (t k : ℕ) : Type 0 where
  pub formed : Formed q
  pub few : length q ≤ 1 + length p
  pub more : length p ≤ length q
  pub starts : first_minute q ≡ first_minute p
  pub ends : (b : ℕ) → StepsBy b p → t ≤ b → StepsBy b q
  pub same : (l : ℕ) → IsColumn l → (u : ℕ) → first_minute p ≤ u → level_of q l u ≡ level_of p l u
  pub below : k < length q
  pub begins : get_or (minutes_of q) k 0 ≡ t
  pub earlier : (m : ℕ) → m < length p → get_or (minutes_of p) m 0 < t → get_or (minutes_of q) m 0 ≡ get_or (minutes_of p) m 0

-- q is p with two minutes the beginnings of steps, the first of them split off first
pub record SplitBoth (p q : Profile) (from until : ℕ) (steps : Range ℕ) : Type 0 where
  pub between : Profile
  pub first : Split p between from steps.start
  pub second : Split between q until steps.end

-- what splitting in minute t asks, in a list of so many places
pub record CanSplit (p : Profile) (places t : ℕ) : Type 0 where
  pub formed : Formed p
  pub room : length p < places
  pub low : first_minute p ≤ t

-- what one more load asks, in a list of so many places
pub record CanAdd (p : Profile) (places : ℕ) (a : Draw) (start : ℕ) : Type 0 where
  pub formed : Formed p
  pub small : Small p
  pub room : length p + 2 ≤ places
  pub most : places ≤ most_steps
  pub is_rate : IsRate a.rate
  pub ends_fit : start + a.time < 2 ^ 32

-- q is p with one more load: each line has its level and what the load draws, in every minute from the first on
pub record LoadAdded (p q : Profile) (a : Draw) (start : ℕ) : Type 0 where
  pub formed : Formed q
  pub few : length q ≤ length p + 2
  pub starts : first_minute q ≡ first_minute p
  pub ends : (b : ℕ) → StepsBy b p → start + a.time ≤ b → StepsBy b q
  pub level : (l : ℕ) → IsColumn l → (t : ℕ) → first_minute p ≤ t → level_of q l t ≡ level_of p l t + draws (load_from (draw_of a) start) l t

-- whatever loads p shows, q shows them and one more
abbrev pub Added : Profile → Profile → Draw → ℕ → Type 0
Added p q a start =
    (clock : ℕ) (loads : List Load) → Shows p clock loads → Shows q clock (added loads (draw_of a) start)

-- an answer of the code as what a search of the rules finds
abbrev pub found_at : Option ℕ → Found
found_at (Some t) = at t
found_at None = nothing
