-- An order in the words of the rules, its refusals by numbers, and what is sought for it on its feeder.
use Rattle.std.specs.Prelude.{ℕ, ◌+◌, ◌≡◌, Bool, ◌||◌, List, [], ◌∷◌, ltb, leb, get_or}
use Rattle.rules.specs.Basics.{Found, first_of}
use Rattle.rules.specs.Site.{places}
use Rattle.rules.specs.Calls.{Call, preview, commit, refusals, draw_for, start_for}
use Rattle.search.specs.declared.limits.Limits.{Limits}
use Rattle.orders.specs.declared.sought.Sought.{Sought}
use Rattle.station.specs.declared.Station.{Station}
use Rattle.station.specs.View.{feeder_at, view, Valid, limits_for}
use Rattle.ordering.specs.declared.Order.{Order}

-- an order by its numbers: feeder, line, charging time, due minute and rate; those that are not given count as 0
abbrev pub order_from : List ℕ → Order
order_from given =
    record {
      feeder = get_or given 0 0;
      line = get_or given 1 0;
      time = get_or given 2 0;
      due = get_or given 3 0;
      rate = get_or given 4 0;
    }

abbrev pub preview_of : Order → Call
preview_of o = preview o.feeder o.line o.time o.due o.rate

abbrev pub commit_of : Order → ℕ → Call
commit_of o shown = commit o.feeder o.line o.time o.due o.rate shown

-- the refusals of an order whose feeder is there, by its limits, how many charges it holds, and the next ticket
abbrev pub order_rows : Limits → ℕ → ℕ → Order → List (Bool × ℕ)
order_rows y held next o =
    (ltb o.line 1 || ltb 3 o.line, 4)
    ∷ (ltb o.time 1 || ltb 1440 o.time, 5)
    ∷ (ltb o.rate 1 || ltb 2 o.rate, 17)
    ∷ (ltb y.limit o.rate || ltb y.bound o.rate || ltb y.site o.rate, 18)
    ∷ (ltb 2000000 o.due, 6)
    ∷ (leb places held, 13)
    ∷ (ltb 65535 next, 14)
    ∷ []

-- what is sought for it on the feeder at the place
abbrev pub sought_by : Station → ℕ → Order → Sought
sought_by s p o =
    record {
      limits = limits_for (feeder_at s p) s.site;
      clock = s.clock;
      draw = record { line = o.line; time = o.time + (feeder_at s p).tail; rate = o.rate };
    }

-- the start that the rules give an order
abbrev pub start_of : Station → Order → Found
start_of s o = start_for (view s) o.feeder (draw_for (view s) o.feeder o.line o.time o.rate)

-- an order of a valid station that nothing refuses
pub record Unrefused (s : Station) (o : Order) : Type 0 where
  pub valid : Valid s
  pub none : first_of (refusals (view s) (preview_of o)) ≡ 0
