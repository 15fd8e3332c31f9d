-- The charges held, as eight arrays: the list that they stand for, and what holds of the places behind it.
use Rattle.std.specs.Prelude.{ℕ, ◌≤◌, ◌≡◌, List, length, get_or, Option, Some, None}
use Rattle.rules.specs.Site.{places}
use Rattle.rules.specs.Basics.{Found, at, nothing, tabulate}
use Rattle.rules.specs.Charge.{Charge}
use Rattle.charges.specs.declared.Charges.{Charges}
use Rattle.charges.specs.declared.Charge as declared

-- the eight arrays, so that a fact of each is said once
pub data Column : Type 0 where
  tickets lines order_minutes times active_times dues starts rates : Column

abbrev pub column_of : Charges → Column → List ℕ
column_of c tickets = c.tickets
column_of c lines = c.lines
column_of c order_minutes = c.order_minutes
column_of c times = c.times
column_of c active_times = c.active_times
column_of c dues = c.dues
column_of c starts = c.starts
column_of c rates = c.rates

abbrev pub value_of : Charge → Column → ℕ
value_of x tickets = x.ticket
value_of x lines = x.line
value_of x order_minutes = x.order_minute
value_of x times = x.time
value_of x active_times = x.active_time
value_of x dues = x.due
value_of x starts = x.start
value_of x rates = x.rate

abbrev pub charge : ℕ → ℕ → ℕ → ℕ → ℕ → ℕ → ℕ → ℕ → Charge
charge ticket line order_minute time active_time due start rate =
    record {
      ticket = ticket;
      line = line;
      order_minute = order_minute;
      time = time;
      active_time = active_time;
      due = due;
      start = start;
      rate = rate;
    }

-- one charge, as the code hands it over
abbrev pub charge_of : declared.Charge → Charge
charge_of x = charge x.ticket x.line x.order_minute x.time x.active_time x.due x.start x.rate

-- the charge at a place
abbrev pub charge_at : Charges → ℕ → Charge
charge_at c i =
    charge (get_or c.tickets i 0) (get_or c.lines i 0) (get_or c.order_minutes i 0) (get_or c.times i 0)
    (get_or c.active_times i 0) (get_or c.dues i 0) (get_or c.starts i 0) (get_or c.rates i 0)

-- the charges held
abbrev pub charges_of : Charges → List Charge
charges_of c = tabulate (charge_at c) c.held 0

-- an array of 180 places of which those from n on are 0
pub record Filled (n : ℕ) (xs : List ℕ) : Type 0 where
  pub full : length xs ≡ places
  pub clear : (i : ℕ) → n ≤ i → get_or xs i 0 ≡ 0

-- the places behind the charges held are 0, so that the list determines the arrays
pub record Columns (c : Charges) : Type 0 where
  pub filled : (k : Column) → Filled c.held (column_of c k)

-- exactly these charges are held
pub record Holds (xs : List Charge) (c : Charges) : Type 0 where
  pub charges : charges_of c ≡ xs
  pub columns : Columns c

-- what a search for a ticket found
abbrev pub found_at : Option ℕ → Found
found_at (Some i) = at i
found_at None = nothing
