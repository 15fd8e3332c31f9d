-- What the orders of held charges need of their numbers.
use Rattle.std.specs.Prelude.{ℕ, ◌+◌, ◌≤◌, ◌<◌}
use Rattle.rules.specs.Load.{IsLine, IsRate}
use Rattle.rules.specs.Charge.{Charge}
use Rattle.charges.specs.declared.Charges.{Charges}
use Rattle.charges.specs.Arrays.{charge_at}

-- "The charges stand in ticket order."
abbrev pub Rising : Charges → Type 0
Rising c = (i : ℕ) → i + 1 < c.held → (charge_at c i).ticket < (charge_at c (i + 1)).ticket

-- "No held time reaches 100,000,000."
pub record Small (x : Charge) : Type 0 where
  pub on_line : IsLine x.line
  pub time_low : 1 ≤ x.time
  pub time_most : x.time ≤ 1440
  pub active_least : x.time ≤ x.active_time
  pub active_most : x.active_time ≤ 1445
  pub due_most : x.due ≤ 2000000
  pub start_most : x.start < 100000000
  pub is_rate : IsRate x.rate

-- what the orders need of the charges, whatever the clock
pub record Listed (c : Charges) : Type 0 where
  pub small : (i : ℕ) → i < c.held → Small (charge_at c i)
  pub rising : Rising c
