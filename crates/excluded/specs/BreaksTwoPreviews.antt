-- For each field of demand 2 for previews a wrong station and a preview for which that field is false and no other.
use Rattle.std.specs.Prelude.{ℕ, Bool, List, [], ◌∷◌, ◌++◌, map}
use Rattle.rules.specs.Site.{State}
use Rattle.rules.specs.Calls.{step}
use Rattle.guarantee.specs.Past.{Gives}
use Rattle.excluded.specs.WrongOrders.{own_line_only, limit_ignored, queued, last_end_shown, shown_as_waiting, preview_takes_ticket, preview_writes, site_ignored, own_feeder_only, begun_others_only, site_only_at_its_start, others_on_its_lines}
use Rattle.excluded.specs.WrongMoves.{slow_clock}
use Rattle.excluded.specs.Stations.{station, station_five, station_three, station_two, station_h, station_pair, station_pair_wide, station_gap}
use Rattle.excluded.specs.Breaks.{Entry, agrees_by, only_of}
use Rattle.excluded.specs.FieldsTwoPreviews.{Field, answer, not_early, limit, balance, site, earliest, same_station, same_list_lem, fields, place, Trial, tested}

abbrev pub Breach : Type 0
Breach = Entry Trial Field

abbrev pub agrees : Breach → Bool
agrees = agrees_by tested

-- a preview of 10 minutes, due at 60, of rate 1
abbrev only_on : Gives → State → ℕ → ℕ → List Field → Breach
only_on gives s f line broken =
    only_of place fields (record { gives = gives; station = s; feeder = f; line = line; time = 10; due = 60; rate = 1 }) broken

abbrev only : Gives → State → ℕ → List Field → Breach
only gives s line broken = only_on gives s 1 line broken

abbrev pub wrong_entries : List Breach
wrong_entries =
    only shown_as_waiting station 1 (answer ∷ [])
    ∷ only slow_clock station_five 1 (not_early ∷ [])
    ∷ only limit_ignored station_three 1 (limit ∷ [])
    ∷ only own_line_only station_two 1 (balance ∷ [])
    ∷ only queued station_h 2 (earliest ∷ [])
    ∷ only last_end_shown station_h 2 (earliest ∷ [])
    ∷ only preview_takes_ticket station 1 (same_station ∷ [])
    ∷ only preview_writes station 1 (same_list_lem ∷ [])
    -- W is 1, and the first feeder draws from 0 to 10
    ∷ only_on own_feeder_only station_pair 2 1 (site ∷ [])
    ∷ only_on site_ignored station_pair 2 1 (site ∷ [])
    ∷ only_on begun_others_only station_pair 2 1 (site ∷ [])
    -- and where the second one draws from 5 to 10
    ∷ only_on site_only_at_its_start station_gap 1 1 (site ∷ [])
    -- W is 720, and line 1 of the first feeder is not line 1 of the second
    ∷ only_on others_on_its_lines station_pair_wide 2 1 (earliest ∷ [])
    ∷ []

-- and the rules themselves for the same previews, where nothing breaks
abbrev pub entries : List Breach
entries = wrong_entries ++ map (λ e. only_on step e.thing.station e.thing.feeder e.thing.line []) wrong_entries
