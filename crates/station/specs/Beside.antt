-- What a plan of a feeder stands beside.
use Rattle.std.specs.Prelude.{◌≡◌, ℕ, ◌+◌, map}
use Rattle.rules.specs.Load.{elsewhere}
use Rattle.rules.specs.Charge.{loads_of}
use Rattle.rules.specs.Site.{others_of, limits_of}
use Rattle.charges.specs.Drawn.{loads_lent}
use Rattle.planner.specs.declared.Beside.{Beside}
use Rattle.planner.specs.Ready.{terms_of}
use Rattle.station.specs.declared.Station.{Station}
use Rattle.station.specs.declared.surroundings.Surroundings.{Surroundings}
use Rattle.station.specs.View.{view, feeder_at, limits_for}

-- its clock, its limits, and what the feeders but that at the place draw
pub record BesideOf (s : Station) (p : ℕ) (b : Beside) : Type 0 where
  pub terms : terms_of b ≡ limits_of (view s) (p + 1)
  pub clock : b.clock ≡ s.clock
  pub draws : loads_lent b.others ≡ map elsewhere (loads_of (others_of (view s) (p + 1)))

-- the same, gathered
pub record Surrounds (s : Station) (p : ℕ) (x : Surroundings) : Type 0 where
  pub clock : x.clock ≡ s.clock
  pub limits : x.limits ≡ limits_for (feeder_at s p) s.site
  pub others : x.others ≡ map elsewhere (loads_of (others_of (view s) (p + 1)))

-- and lent to a planner
pub record Lends (x : Surroundings) (b : Beside) : Type 0 where
  pub clock : b.clock ≡ x.clock
  pub limits : b.limits ≡ x.limits
  pub others : loads_lent b.others ≡ x.others
