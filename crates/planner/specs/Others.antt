-- What the other feeders draw, beside a plan.
use Rattle.std.specs.Prelude.{ℕ, ◌*◌, ◌≤◌, ◌<◌, List, [], ◌∷◌, length}
use Rattle.std.specs.Coded.{×_prop, Unit-prop, le_prop}
use Rattle.rules.specs.Basics.{Each}
use Rattle.rules.specs.Load.{Load, IsRate, last_until}
use Rattle.rules.specs.Site.{places}
use Rattle.charges.specs.declared.loads.Loads.{Loads}
use Rattle.charges.specs.Drawn.{loads_lent}
use Rattle.windows.specs.Windows.{Drawable}

-- a load that a profile takes, with a start below the largest number of 32 bits
pub record Plannable (x : Load) : Type 0 where
  pub drawable : Drawable x
  pub below : x.from < 4294967295

-- what up to three other feeders draw goes into a profile, and ends in time
pub record Others (l : Loads) : Type 0 where
  pub few : length (loads_lent l) ≤ 3 * places
  pub plannable : Each Plannable (loads_lent l)
  pub end_most : last_until (loads_lent l) ≤ 100001445

-- each of these facts holds in one way at most
rate_prop : (r : ℕ) → IsProp (IsRate r)
rate_prop r p q = λ i. record { low = le_prop p.low q.low i; high = le_prop p.high q.high i }

drawable_prop : (x : Load) → IsProp (Drawable x)
drawable_prop x p q = λ i. record { is_rate = rate_prop x.rate p.is_rate q.is_rate i; ends_fit = le_prop p.ends_fit q.ends_fit i }

plannable_prop : (x : Load) → IsProp (Plannable x)
plannable_prop x p q = λ i. record { drawable = drawable_prop x p.drawable q.drawable i; below = le_prop p.below q.below i }

all_prop : (xs : List Load) → IsProp (Each Plannable xs)
all_prop [] = Unit-prop
all_prop (x ∷ xs) = ×_prop (plannable_prop x) (all_prop xs)

pub others_prop : (l : Loads) → IsProp (Others l)
others_prop l p q = λ i. record { few = le_prop p.few q.few i; plannable = all_prop (loads_lent l) p.plannable q.plannable i; end_most = le_prop p.end_most q.end_most i }
