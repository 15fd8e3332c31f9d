-- What the planners ask of a feeder, and of the list for its profile.
use Rattle.std.specs.Prelude.{ℕ, ◌+◌, ◌*◌, ◌≤◌, ◌<◌, List, length}
use Rattle.rules.specs.Basics.{Each}
use Rattle.rules.specs.Load as rules
use Rattle.rules.specs.Charge.{Charge, loads_of, begun_charges}
use Rattle.rules.specs.Site.{places}
use Rattle.charges.specs.declared.Charges.{Charges}
use Rattle.charges.specs.Arrays.{charge_at, charges_of}
use Rattle.charges.specs.Held.{Listed}
use Rattle.charges.specs.Drawn.{loads_lent}
use Rattle.profile.specs.Steps.{most_steps}
use Rattle.search.specs.Numbers.{limits_beside}
use Rattle.planner.specs.declared.Beside.{Beside}
use Rattle.planner.specs.Others.{Plannable}

-- what a plan has to keep to, in the words of the rules
abbrev pub terms_of : Beside → rules.Limits
terms_of b = limits_beside b.limits (loads_lent b.others)

-- a list of so many places has them for the steps of what the other feeders draw, and of 180 charges
pub record Spacious (b : Beside) (size : ℕ) : Type 0 where
  pub enough : 1 + 2 * (length (loads_lent b.others) + places) ≤ size
  pub most : size ≤ most_steps

-- charges that a profile takes
pub record Profiled (c : Charges) : Type 0 where
  pub plannable : Each Plannable (loads_of (charges_of c))

pub record Ready (b : Beside) (c : Charges) : Type 0 where
  pub listed : Listed c
  pub clock_most : b.clock ≤ 1000000
  pub limit_most : b.limits.limit ≤ 60
  pub bound_most : b.limits.bound ≤ 60
  pub within_limit : (i : ℕ) → i < c.held → (charge_at c i).rate ≤ b.limits.limit
  pub within_bound : (i : ℕ) → i < c.held → (charge_at c i).rate ≤ b.limits.bound
  pub within_site_lem : (i : ℕ) → i < c.held → (charge_at c i).rate ≤ b.limits.site

abbrev pub begun_of : ℕ → Charges → List Charge
begun_of clock c = begun_charges clock (charges_of c)
