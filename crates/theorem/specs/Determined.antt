-- That nothing of a station is hidden from the rules: what its view shows is all that it holds.
use Rattle.std.specs.Prelude.{◌≡◌}
use Rattle.station.specs.declared.Station.{Station}
use Rattle.station.specs.View.{view, Formed}

-- The view determines the station: two stations that show the same are the same, every place of their arrays. Of each it asks
-- that its unused places are 0, as they are in every valid station.
abbrev pub ViewDetermines : Type 0
ViewDetermines = (s t : Station) → Formed s → Formed t → view s ≡ view t → s ≡ t
