-- What a station is in the words of the rules, and what every call needs of it and keeps.
use Rattle.std.specs.Prelude.{◌≡◌, ℕ, ◌+◌, ◌≤◌, ◌<◌, true, ◌||◌, [], ◌∷◌, ltb, length, get_or, replicate, Option, Some, None, Result, Ok, Err}
use native.Mathlib.Omega.{arith}
use Rattle.rules.specs.Basics.{tabulate}
use Rattle.rules.specs.Site as rules
use Rattle.rules.specs.Site.{places, State}
use Rattle.rules.specs.Valid.{ValidState}
use Rattle.search.specs.declared.limits.Limits.{Limits}
use Rattle.charges.specs.declared.Charges.{Charges}
use Rattle.charges.specs.Arrays.{charges_of, Columns}
use Rattle.refusals.specs.declared.Refusal.{Refusal}
use Rattle.refusals.specs.declared.Refusal.TheVariants.{NoSuchFeeder}
use Rattle.station.specs.declared.Feeder.{Feeder}
use Rattle.station.specs.declared.Station.{Station}
use Rattle.station.specs.declared.only.One.{One}

abbrev pub feeder_view : Feeder → rules.Feeder
feeder_view g =
    record {
      limit = g.limit;
      percent = g.percent;
      bound = g.bound;
      tail = g.tail;
      charges = charges_of g.charges;
    }

abbrev pub no_charges : Charges
no_charges =
    record {
      held = 0;
      tickets = replicate places 0;
      lines = replicate places 0;
      order_minutes = replicate places 0;
      times = replicate places 0;
      active_times = replicate places 0;
      dues = replicate places 0;
      starts = replicate places 0;
      rates = replicate places 0;
      few = omega arith;
    }

-- a feeder that is not there
abbrev pub unused : Feeder
unused = record { limit = 0; percent = 0; bound = 0; tail = 0; charges = no_charges }

-- what stands behind the last place of an array
abbrev pub outside : Feeder
outside =
    record {
      limit = 0;
      percent = 0;
      bound = 0;
      tail = 0;
      charges =
          record {
            held = 0;
            tickets = [];
            lines = [];
            order_minutes = [];
            times = [];
            active_times = [];
            dues = [];
            starts = [];
            rates = [];
            few = omega arith;
          };
    }

abbrev pub feeder_at : Station → ℕ → Feeder
feeder_at s i = get_or s.feeders i outside

abbrev pub view : Station → State
view s =
    record {
      feeders = tabulate (λ i. feeder_view (feeder_at s i)) s.count 0;
      site = s.site;
      clock = s.clock;
      next = s.next;
    }

-- The unused places of every array are 0, and unused feeders are empty, so that the view determines the station.
pub record Formed (s : Station) : Type 0 where
  pub four : length s.feeders ≡ 4
  pub some : 1 ≤ s.count
  pub few : s.count ≤ 4
  pub columns : (i : ℕ) → i < s.count → Columns (feeder_at s i).charges
  pub rest : (i : ℕ) → s.count ≤ i → i < 4 → feeder_at s i ≡ unused

-- And the view is valid.
pub record Valid (s : Station) : Type 0 where
  pub formed : Formed s
  pub state : ValidState (view s)

-- One feeder

-- what a plan of a feeder has to keep to, but for what the others draw, where this is the site's limit
abbrev pub limits_for : Feeder → ℕ → Limits
limits_for g site = record { limit = g.limit; bound = g.bound; site = site }

-- "names its feeder, from 1": the place of the feeder with this number, or refusal 29 where there is none
abbrev pub PlaceOf : ℕ → ℕ → Result ℕ Refusal → Type 0
PlaceOf count number (Ok place) = (number ≡ place + 1) × (place < count)
PlaceOf count number (Err refusal) = ((ltb number 1 || ltb count number) ≡ true) × (refusal ≡ NoSuchFeeder)

-- the station of which it is the only feeder
abbrev pub station_of : One → Station
station_of o =
    record {
      count = 1;
      site = o.site;
      clock = o.clock;
      next = o.next;
      feeders = o.feeder ∷ unused ∷ unused ∷ unused ∷ [];
    }

-- a station is that of its only feeder; one of several has none
abbrev pub OnlyOf : Station → Option One → Type 0
OnlyOf s (Some o) = station_of o ≡ s
OnlyOf s None = s.count ≡ 1 → ⊥

-- the only feeder of a valid station
pub record Alone (o : One) : Type 0 where
  pub valid : Valid (station_of o)
