-- What is found for an order of a valid station.
use Rattle.std.specs.Prelude.{◌≡◌, ◌+◌, Result, Ok, Err}
use Rattle.rules.specs.Basics.{at, first_of}
use Rattle.rules.specs.Calls.{refusals}
use Rattle.refusals.specs.declared.Refusal.{Refusal}
use Rattle.refusals.specs.Refusals.{number_of}
use Rattle.station.specs.declared.Station.{Station}
use Rattle.station.specs.View.{view}
use Rattle.ordering.specs.declared.Order.{Order}
use Rattle.ordering.specs.declared.start.Grant.{Grant}
use Rattle.ordering.specs.Ordered.{preview_of, start_of, Unrefused}

-- nothing refuses it: its feeder stands at the place, and it has the start that the rules give it
pub record GrantedAt (s : Station) (o : Order) (x : Grant) : Type 0 where
  pub unrefused : Unrefused s o
  pub names : o.feeder ≡ x.place + 1
  pub found : start_of s o ≡ at x.start

-- this, or its first refusal
abbrev pub Grants : Station → Order → Result Grant Refusal → Type 0
Grants s o (Ok x) = GrantedAt s o x
Grants s o (Err refusal) = number_of refusal ≡ first_of (refusals (view s) (preview_of o))
