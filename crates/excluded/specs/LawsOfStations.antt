-- The stations that are written down are those that an opening and calls lead to, and a wrong station differs from the rules in one part.
use Rattle.std.specs.Prelude.{◌≡◌, List, [], ◌∷◌, ◌++◌}
use Rattle.rules.specs.CasesAToL.{orders_e, orders_h}
use Rattle.rules.specs.Site.{State}
use Rattle.rules.specs.Entry.{lent_list, one_feeder, commit}
use Rattle.rules.specs.Calls as calls
use Rattle.rules.specs.Calls.{Asked, Call, move, withdraw, opening, committing, moving, withdrawing}
use Rattle.guarantee.specs.Demands.{reached}
use Rattle.excluded.specs.Stations.{station, station_five, station_three, station_four, station_two, station_h, station_h_two, station_f, station_short, station_tailed, station_rated, waiting_since, begun_and_waiting, pair_of, pair_fresh, station_pair, station_pair_wide, station_site, station_beside, station_gap, station_pair_h}
use Rattle.rules.specs.Calls.{step}
use Rattle.excluded.specs.Parts.{with_moves}

abbrev pub Reached : Asked → List Call → State → Type 0
Reached x calls s = reached x calls ≡ s

abbrev pub StationsAreReached : Type 0
StationsAreReached =
    (Reached (one_feeder 1 100 0) [] station)
    × (Reached (one_feeder 1 100 0) (move 5 lent_list ∷ []) station_five)
    × (Reached (one_feeder 1 100 0) (commit 1 10 60 1 0 ∷ commit 2 10 60 1 0 ∷ commit 3 10 60 1 0 ∷ []) station_three)
    × (Reached (one_feeder 1 100 0) (commit 1 10 60 1 0 ∷ commit 2 10 60 1 0 ∷ commit 3 10 60 1 0 ∷ commit 1 10 15 1 10 ∷ []) station_four)
    × (Reached (one_feeder 2 50 0) (commit 1 10 60 1 0 ∷ []) station_two)
    × (Reached (one_feeder 1 100 0) orders_h station_h)
    × (Reached (one_feeder 2 50 0) orders_h station_h_two)
    × (Reached (one_feeder 2 50 0) (orders_e ++ (move 1 lent_list ∷ [])) station_f)
    × (Reached (one_feeder 1 100 0) (commit 1 20 30 1 0 ∷ commit 1 2 14 1 20 ∷ []) station_short)
    × (Reached (one_feeder 1 100 2) (commit 1 10 60 1 0 ∷ commit 1 10 15 1 12 ∷ []) station_tailed)
    × (Reached (one_feeder 4 50 0) (commit 1 10 60 2 0 ∷ commit 1 10 60 2 10 ∷ commit 1 10 25 1 20 ∷ []) station_rated)
    × (Reached (one_feeder 1 100 0) (commit 1 1 60 1 0 ∷ commit 1 10 60 1 1 ∷ commit 1 10 11 1 11 ∷ move 1 lent_list ∷ []) waiting_since)
    × (Reached (one_feeder 1 100 0) (commit 2 10 60 1 0 ∷ commit 1 2 60 1 0 ∷ commit 1 10 60 1 2 ∷ commit 1 10 12 1 12 ∷ move 2 lent_list ∷ []) begun_and_waiting)
    × (Reached (pair_of 720 1 100) [] pair_fresh)
    × (Reached (pair_of 1 1 100) (commit 1 10 60 1 0 ∷ []) station_pair)
    × (Reached (pair_of 720 1 100) (commit 1 10 60 1 0 ∷ []) station_pair_wide)
    × (Reached (pair_of 1 2 100) orders_h station_site)
    × (Reached (pair_of 1 1 100) (calls.commit 2 1 10 60 1 0 ∷ commit 1 10 15 1 10 ∷ []) station_beside)
    × (Reached (pair_of 1 1 100) (commit 1 5 60 1 0 ∷ calls.commit 2 1 5 60 1 5 ∷ withdraw 1 ∷ []) station_gap)
    × (Reached (pair_of 720 1 100) orders_h station_pair_h)

-- With nothing put in their place, the parts are the rules.
abbrev pub PartsAreTheRules : Type 0
PartsAreTheRules = (s : State) (c : Call) → with_moves moving s c ≡ step s c
