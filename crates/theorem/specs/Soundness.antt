-- When the plan of a feeder is sound, and the earliest start of an order, spelled out over minutes and lines.
use Rattle.std.specs.Prelude.{ℕ, ◌+◌, ◌≤◌, List}
use Rattle.rules.specs.Load.{Load, count, drawn, IsLine}
use Rattle.rules.specs.Charge.{loads_of}
use Rattle.rules.specs.Site.{feeder_of, charges_on, others_of}
use Rattle.rules.specs.Search.{added}
use Rattle.rules.specs.Calls.{draw_for}
use Rattle.station.specs.declared.Station.{Station}
use Rattle.station.specs.View.{view}
use Rattle.ordering.specs.declared.Order.{Order}

-- from the clock on, no count of these loads on a line is above the limit of feeder f,
abbrev pub IsWithinLimit : Station → ℕ → List Load → Type 0
IsWithinLimit s f loads = (line t : ℕ) → IsLine line → s.clock ≤ t → count loads line t ≤ (feeder_of (view s) f).limit

-- no two counts are further apart than its bound,
abbrev pub IsBalanced : Station → ℕ → List Load → Type 0
IsBalanced s f loads =
    (line other t : ℕ)
    → IsLine line
    → IsLine other
    → s.clock ≤ t
    → count loads line t ≤ count loads other t + (feeder_of (view s) f).bound

-- and the site draws no more than its limit, with what the other feeders hold.
abbrev pub IsWithinSite : Station → ℕ → List Load → Type 0
IsWithinSite s f loads = (t : ℕ) → s.clock ≤ t → drawn (loads_of (others_of (view s) f)) t + drawn loads t ≤ s.site

abbrev pub IsSound : Station → ℕ → List Load → Type 0
IsSound s f loads = IsWithinLimit s f loads × IsBalanced s f loads × IsWithinSite s f loads

-- what the order's feeder holds and the order, charged from this minute on, are sound together
abbrev pub IsSoundFrom : Station → Order → ℕ → Type 0
IsSoundFrom s o start =
    IsSound s o.feeder
    (added (loads_of (charges_on (view s) o.feeder)) (draw_for (view s) o.feeder o.line o.time o.rate) start)

-- not before the clock, sound with what is held, and no earlier start is
abbrev pub IsEarliestStart : Station → Order → ℕ → Type 0
IsEarliestStart s o start =
    (s.clock ≤ start)
    × IsSoundFrom s o start
    × ((earlier : ℕ) → s.clock ≤ earlier → IsSoundFrom s o earlier → start ≤ earlier)
