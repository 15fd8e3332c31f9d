-- Limit and balance of a profile's levels.
use Rattle.std.specs.Prelude.{ℕ, ◌≡◌, Bool, true, false, ◌&&◌, List, Option}
use Rattle.rules.specs.Load.{Load, limits, limited, within_site, balanced, limit_at, from_on}
use Rattle.rules.specs.Search.{first_unbalanced}
use Rattle.profile.specs.Minutes.{Passes, Fails}
use Rattle.profile.specs.Shows.{Profile, levels, first_minute, Shows, found_at}

-- each level of minute t is at most the limit, and all together at most the site's
abbrev pub limited_in : Profile → ℕ → ℕ → ℕ → Bool
limited_in p limit site t = limited limit (levels p t) && within_site site (levels p t)

-- each two levels of minute t differ by at most the bound
abbrev pub balanced_in : Profile → ℕ → ℕ → Bool
balanced_in p bound t = balanced bound (levels p t)

-- whether every minute passes a test
abbrev pub PassesIf : (ℕ → Bool) → ℕ → Bool → Type 0
PassesIf f from true = Passes f from
PassesIf f from false = Fails f from

-- whether both limits are kept in every minute
pub record LimitKept (p : Profile) (limit site : ℕ) (r : Bool) : Type 0 where
  pub answer : PassesIf (limited_in p limit site) (first_minute p) r

-- whatever loads p shows, the answer is the rules' first unbalanced minute
abbrev pub Unbalanced : Profile → ℕ → Option ℕ → Type 0
Unbalanced p bound r =
    (clock : ℕ) (loads : List Load) (limit site : ℕ) (others : List Load) → Shows p clock loads → first_unbalanced (limits limit bound site others) clock loads ≡ found_at r

-- whatever loads p shows, the answer is whether both limits are kept in every minute from the clock on
abbrev pub WithinLimit : Profile → ℕ → ℕ → Bool → Type 0
WithinLimit p limit site r =
    (clock : ℕ) (loads : List Load) (bound : ℕ) (others : List Load)
    → Shows p clock loads
    → r ≡ from_on clock loads (limit_at (limits limit bound site others) loads)
