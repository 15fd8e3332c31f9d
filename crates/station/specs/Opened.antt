-- An opening: what it asks for, and what it answers.
use Rattle.std.specs.Prelude.{◌≡◌, ℕ, ◌+◌, ◌*◌, ◌<◌, Bool, cond, ◌||◌, List, [], ◌∷◌, ltb, eqb, get_or, take, map, Result}
use Rattle.rules.specs.Basics.{tabulate, some}
use Rattle.rules.specs.Calls as rules
use Rattle.rules.specs.Calls.{settings, bound_of, Answer, opened}
use Rattle.refusals.specs.declared.Refusal.{Refusal}
use Rattle.refusals.specs.Refusals.{answer_by}
use Rattle.station.specs.declared.Feeder.{Feeder}
use Rattle.station.specs.declared.Station.{Station}
use Rattle.station.specs.declared.only.One.{One}
use Rattle.station.specs.declared.open.Settings.{Settings}
use Rattle.station.specs.declared.open.Asked.{Asked}
use Rattle.station.specs.declared.bounds.Opened.{Opened}
use Rattle.station.specs.View.{no_charges, unused, feeder_at, view, Valid, station_of, Alone}

abbrev pub settings_of : Settings → rules.Settings
settings_of x = settings x.limit x.percent x.tail

abbrev pub asked_of : Asked → rules.Asked
asked_of a = record { count = a.count; site = a.site; settings = map settings_of a.settings }

-- the settings at a place
abbrev pub settings_at : Asked → ℕ → rules.Settings
settings_at a place = get_or (asked_of a).settings place (settings 0 0 0)

-- the limit, the percentage and r of a feeder, from a place on: "feeders that are not given count as 0 0 0"
abbrev pub settings_from : List ℕ → ℕ → rules.Settings
settings_from given i = settings (get_or given i 0) (get_or given (i + 1) 0) (get_or given (i + 2) 0)

-- three numbers for each feeder
abbrev pub asked_from : ℕ → ℕ → List ℕ → rules.Asked
asked_from count site given =
    record {
      count = count;
      site = site;
      settings = settings_from given 0 ∷ settings_from given 3 ∷ settings_from given 6 ∷ settings_from given 9 ∷ [];
    }

-- D, where the product is a number of 32 bits; 0 nowhere else
pub record BoundOf (x : Settings) (bound : ℕ) : Type 0 where
  pub is : x.percent * x.limit < 4294967296 → bound ≡ bound_of x.limit x.percent
  pub is_zero : eqb bound 0 ≡ eqb (bound_of x.limit x.percent) 0

-- the rows of the opening's table that are about feeders, for these feeders
abbrev pub feeder_refusals : List rules.Settings → List (Bool × ℕ)
feeder_refusals xs =
    (some (λ x. ltb x.limit 1 || ltb 60 x.limit) xs, 1)
    ∷ (some (λ x. ltb 100 x.percent) xs, 2)
    ∷ (some (λ x. eqb (bound_of x.limit x.percent) 0) xs, 3)
    ∷ (some (λ x. ltb 5 x.tail) xs, 19)
    ∷ []

-- a feeder of these settings that holds nothing
abbrev pub fresh_feeder : rules.Settings → Feeder
fresh_feeder x =
    record {
      limit = x.limit;
      percent = x.percent;
      bound = bound_of x.limit x.percent;
      tail = x.tail;
      charges = no_charges;
    }

-- the feeder at a place of a fresh station: "settings past the count are not read"
abbrev pub fresh_at : Asked → ℕ → Feeder
fresh_at a place = cond (ltb place a.count) (fresh_feeder (settings_at a place)) unused

-- "A fresh station: clock 0, next ticket 1, no charges."
abbrev pub fresh_of : Asked → Station
fresh_of a =
    record {
      count = a.count;
      site = a.site;
      clock = 0;
      next = 1;
      feeders = fresh_at a 0 ∷ fresh_at a 1 ∷ fresh_at a 2 ∷ fresh_at a 3 ∷ [];
    }

abbrev pub bounds_of : Station → List ℕ
bounds_of s = tabulate (λ i. (feeder_at s i).bound) 4 0

-- "the bound D of each feeder" up to the count
abbrev pub opened_of : Opened → Answer
opened_of o = opened (take o.count o.bounds)

abbrev pub open_answer : Result Opened Refusal → Answer
open_answer = answer_by opened_of

-- a station that is the fresh one of the least settings
pub record FreshLeast (s : Station) : Type 0 where
  pub state_is : view s ≡ rules.fresh rules.least
  pub valid : Valid s

-- the only feeder of such a station
pub record OnlyLeast (o : One) : Type 0 where
  pub state_is : view (station_of o) ≡ rules.fresh rules.least
  pub alone : Alone o

-- An opening gives exactly this result, and a station that is valid.
pub record Opens (r : rules.Result) (answer : Result Opened Refusal) (s : Station) : Type 0 where
  pub result : record { answer = open_answer answer; state = view s; list = [] } ≡ r
  pub valid : Valid s
