-- The caps of the lines, as lists of minutes: place k of a line has the first minute from which on its cap is below k. And the
-- room under a cap, within the site's limit.
use Rattle.std.specs.Prelude.{ℕ, ◌+◌, ◌^◌, ◌≤◌, ◌<◌, min, ◌≡◌, Bool, false, cond, ◌&&◌, List, ltb, leb, eqb, get_or}
use Rattle.rules.specs.Load.{IsLine, whole_of}
use Rattle.rules.specs.Search.{Caps}
use Rattle.rules.specs.Replan.{lowered}
use Rattle.profile.specs.Steps.{counts_of}
use Rattle.profile.specs.Shows.{Profile, level_of, levels, first_minute, last_minute, Formed}
use Rattle.profile.specs.declared.steps.Step.{Step}
use Rattle.search.specs.Rooms.{has_room, Least}
use Rattle.search.specs.declared.caps.LineCaps.{LineCaps}

-- so many places a line has: one for each count from 0 to the largest limit, 60
abbrev pub cap_places : ℕ
cap_places = 61

-- the list of line l
abbrev pub list_of : LineCaps → ℕ → List ℕ
list_of c l = cond (eqb l 1) c.one (cond (eqb l 2) c.two c.three)

-- its numbers
abbrev pub caps_of : LineCaps → ℕ → ℕ → ℕ
caps_of c l k = get_or (list_of c l) k 0

-- a count of k has room in a minute just where it is at or below the cap; beside the caps stands the site's limit
pub record CapsShown (c : LineCaps) (site : ℕ) (cap : Caps) : Type 0 where
  pub within : c.site ≡ site
  pub rooms : (l : ℕ) → IsLine l → (k t : ℕ) → has_room (caps_of c l k) t ≡ leb k (cap l t)

-- the first n numbers have no end
pub record Unlowered (n : ℕ) (a : List ℕ) : Type 0 where
  pub each : (k : ℕ) → get_or a k 0 ≡ cond (ltb k n) 4294967295 0

-- b is a with the places from v on at most t
pub record Lowered (a b : List ℕ) (t v : ℕ) : Type 0 where
  pub before : (k : ℕ) → k < v → get_or b k 0 ≡ get_or a k 0
  pub after : (k : ℕ) → v ≤ k → get_or b k 0 ≡ min (get_or a k 0) t

-- d is c with the cap of a line from t on at most v: from there on a count above v has no room on it, and all else stays
pub record CapLowered (c d : LineCaps) (line t v : ℕ) : Type 0 where
  pub same_site : d.site ≡ c.site
  pub gone : IsLine line → (k u : ℕ) → v < k → t ≤ u → has_room (caps_of d line k) u ≡ false
  pub kept :
      (l : ℕ) → IsLine l → (k u : ℕ) → (l ≡ line → v < k → t ≤ u → ⊥) → has_room (caps_of d l k) u ≡ has_room (caps_of c l k) u

-- whatever caps c shows, d shows them with that of line i from t on at most v
abbrev pub LoweredAt : LineCaps → LineCaps → ℕ → ℕ → ℕ → Type 0
LoweredAt c d i t v = (site : ℕ) (cap : Caps) → CapsShown c site cap → CapsShown d site (lowered cap i t v)

-- up to which minute a step has room for one more load on the line, under its cap: not at all, where the site would pass its limit
abbrev pub under_in : LineCaps → ℕ → ℕ → Step → ℕ
under_in c line rate s = cond (leb (whole_of (counts_of s) + rate) c.site) (caps_of c line (counts_of s line + rate)) 0

-- with one more load on the line minute t is still within the cap, and the site within its limit
abbrev pub room_under : Profile → LineCaps → ℕ → ℕ → ℕ → Bool
room_under p c line rate t =
    has_room (caps_of c line (level_of p line t + rate)) t && leb (whole_of (levels p t) + rate) c.site

-- what a run of minutes with room asks
pub record CanRun (p : Profile) (most from : ℕ) : Type 0 where
  pub formed : Formed p
  pub low : first_minute p ≤ from
  pub ends_fit : from + most < 2 ^ 32

-- r is the smallest start, from `start` on, with room under the cap and the site's limit in all its minutes
pub record EarliestStartUnder (p : Profile) (c : LineCaps) (line time rate start r : ℕ) : Type 0 where
  pub least : Least (room_under p c line rate) time start r
  pub high : r ≤ last_minute p

-- a cap is never below the rate, nor is the site's limit
pub record CanCap (c : LineCaps) (l rate : ℕ) : Type 0 where
  pub some : 4294967295 ≤ caps_of c l rate
  pub within_site_lem : rate ≤ c.site
