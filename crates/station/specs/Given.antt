-- What a call of a station gives.
use Rattle.std.specs.Prelude.{◌≡◌, ℕ, List}
use Rattle.rules.specs.Calls.{Answer, Result}
use Rattle.station.specs.declared.Station.{Station}
use Rattle.station.specs.View.{view, Valid}

-- A call that changes nothing gives exactly this result.
pub record Keeps (r : Result) (s : Station) (answer : Answer) (list : List ℕ) : Type 0 where
  pub result : record { answer = answer; state = view s; list = list } ≡ r

-- A call gives exactly this result, and a station that is valid again.
pub record Gives (r : Result) (answer : Answer) (s : Station) (list : List ℕ) : Type 0 where
  pub result : record { answer = answer; state = view s; list = list } ≡ r
  pub valid : Valid s
