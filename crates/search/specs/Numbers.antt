-- The code's limits as the rules have them, and a load beside counts and limits.
use Rattle.std.specs.Prelude.{ℕ, ◌+◌, ◌≤◌, Bool, ◌&&◌, List, leb}
use Rattle.rules.specs.Load as rules
use Rattle.rules.specs.Load.{Load, IsRate, share, limits}
use Rattle.profile.specs.declared.loads.Draw.{Draw}
use Rattle.search.specs.declared.limits.Limits.{Limits}

-- what a plan has to keep to, beside what the other feeders draw
abbrev pub limits_beside : Limits → List Load → rules.Limits
limits_beside y others = limits y.limit y.bound y.site others

-- a rate is within N, D and W
abbrev pub rate_within : Limits → ℕ → Bool
rate_within y rate = leb rate y.limit && (leb rate y.bound && leb rate y.site)

-- the counts f, with one more load
abbrev pub with_draw : (ℕ → ℕ) → Draw → ℕ → ℕ
with_draw f a l = f l + share a.line a.rate l

-- a charge is sound where nothing else is drawn
pub record SoundAlone (y : Limits) (a : Draw) : Type 0 where
  pub is_rate : IsRate a.rate
  pub within_limit : a.rate ≤ y.limit
  pub within_site_lem : a.rate ≤ y.site
  pub within_bound : a.rate ≤ y.bound
