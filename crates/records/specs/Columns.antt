-- What is read from contents, column by column.
use Rattle.std.specs.Prelude.{ℕ, zero, suc, ◌+◌, ◌*◌, ◌<◌, ◌≡◌, List, length, get_or}
use Rattle.charges.specs.declared.Charges.{Charges}
use Rattle.charges.specs.Arrays.{charge_at, Filled, Columns}
use Rattle.station.specs.declared.only.One.{One}
use Rattle.station.specs.View.{view, station_of}
use Rattle.validity.specs.Settled.{Settled}
use Rattle.records.specs.Contents.{record_in, field_in, charge_from, state_from}

-- what n bytes can count to
abbrev pub capacity : ℕ → ℕ
capacity zero = 1
capacity (suc n) = 256 * capacity n

-- a column of which the first q places are filled by f, and those behind them are 0
pub record ColumnTo (f : ℕ → ℕ) (q : ℕ) (xs : List ℕ) : Type 0 where
  pub filled : Filled q xs
  pub each : (i : ℕ) → i < q → get_or xs i 0 ≡ f i

-- byte j of each record joined to the numbers of a column
pub record RowJoined (contents : List ℕ) (j : ℕ) (before after : List ℕ) : Type 0 where
  pub long : length after ≡ length before
  pub each : (q : ℕ) → q < length before → get_or after q 0 ≡ 256 * get_or before q 0 + record_in contents q j
  pub small : (q : ℕ) → q < length before → record_in contents q j < 256

-- the column of a field
pub record ColumnRead (contents : List ℕ) (from width held : ℕ) (column : List ℕ) : Type 0 where
  pub column_to : ColumnTo (field_in contents from width) held column
  pub small : (q : ℕ) → q < held → get_or column q 0 < capacity width

-- the charges of the first `held` records
pub record HoldsFrom (contents : List ℕ) (held tail : ℕ) (c : Charges) : Type 0 where
  pub held_is : c.held ≡ held
  pub columns : Columns c
  pub each : (q : ℕ) → q < held → charge_at c q ≡ charge_from contents tail q

-- the only feeder of the station that the contents would be of
pub record ReadFrom (contents : List ℕ) (o : One) : Type 0 where
  pub state : view (station_of o) ≡ state_from contents
  pub settled : Settled o
