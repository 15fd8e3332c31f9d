-- An opening and calls lead to each of the stations that are written down.
use mathlib.Core.Path.{refl}
use mathlib.Core.List.{[], ◌∷◌, ◌++◌}
use Rattle.rules.specs.Load.{limited, within_site, balanced, sound}
use Rattle.rules.specs.Search.{earliest}
use Rattle.rules.specs.CasesAToL.{orders_e, orders_h}
use Rattle.rules.specs.Entry.{lent_list, one_feeder, commit}
use Rattle.rules.specs.Calls as calls
use Rattle.rules.specs.Calls.{Asked, Call, move, withdraw, opening, committing, moving, withdrawing}
use Rattle.guarantee.specs.Demands.{reached}
use Rattle.excluded.specs.Stations.{station, station_five, station_three, station_four, station_two, station_h, station_h_two, station_f, station_short, station_tailed, station_rated, waiting_since, begun_and_waiting, pair_of, pair_fresh, station_pair, station_pair_wide, station_site, station_beside, station_gap, station_pair_h}
use Rattle.excluded.specs.LawsOfStations.{Reached, StationsAreReached}
use Rattle.excluded.proofs.Same.{same_state_lem}

station_reached : Reached (one_feeder 1 100 0) [] station
unfolding opening
station_reached = refl

five_reached : Reached (one_feeder 1 100 0) (move 5 lent_list ∷ []) station_five
unfolding opening moving
five_reached = (same_state_lem (reached (one_feeder 1 100 0) (move 5 lent_list ∷ [])) station_five).0 refl

three_reached : Reached (one_feeder 1 100 0) (commit 1 10 60 1 0 ∷ commit 2 10 60 1 0 ∷ commit 3 10 60 1 0 ∷ []) station_three
unfolding limited within_site balanced sound earliest opening committing
three_reached =
    (same_state_lem (reached (one_feeder 1 100 0) (commit 1 10 60 1 0 ∷ commit 2 10 60 1 0 ∷ commit 3 10 60 1 0 ∷ [])) station_three).0 refl

four_reached :
    Reached (one_feeder 1 100 0) (commit 1 10 60 1 0 ∷ commit 2 10 60 1 0 ∷ commit 3 10 60 1 0 ∷ commit 1 10 15 1 10 ∷ []) station_four
unfolding limited within_site balanced sound earliest opening committing
four_reached =
    (same_state_lem
    (reached (one_feeder 1 100 0) (commit 1 10 60 1 0 ∷ commit 2 10 60 1 0 ∷ commit 3 10 60 1 0 ∷ commit 1 10 15 1 10 ∷ []))
    station_four).0
    refl

two_reached : Reached (one_feeder 2 50 0) (commit 1 10 60 1 0 ∷ []) station_two
unfolding limited within_site balanced sound earliest opening committing
two_reached = (same_state_lem (reached (one_feeder 2 50 0) (commit 1 10 60 1 0 ∷ [])) station_two).0 refl

pub h_reached : Reached (one_feeder 1 100 0) orders_h station_h
unfolding limited within_site balanced sound earliest opening committing
h_reached = (same_state_lem (reached (one_feeder 1 100 0) orders_h) station_h).0 refl

h_two_reached : Reached (one_feeder 2 50 0) orders_h station_h_two
unfolding limited within_site balanced sound earliest opening committing
h_two_reached = (same_state_lem (reached (one_feeder 2 50 0) orders_h) station_h_two).0 refl

f_reached : Reached (one_feeder 2 50 0) (orders_e ++ (move 1 lent_list ∷ [])) station_f
unfolding limited within_site balanced sound earliest opening committing moving
f_reached = (same_state_lem (reached (one_feeder 2 50 0) (orders_e ++ (move 1 lent_list ∷ []))) station_f).0 refl

short_reached : Reached (one_feeder 1 100 0) (commit 1 20 30 1 0 ∷ commit 1 2 14 1 20 ∷ []) station_short
unfolding limited within_site balanced sound earliest opening committing
short_reached = (same_state_lem (reached (one_feeder 1 100 0) (commit 1 20 30 1 0 ∷ commit 1 2 14 1 20 ∷ [])) station_short).0 refl

tailed_reached : Reached (one_feeder 1 100 2) (commit 1 10 60 1 0 ∷ commit 1 10 15 1 12 ∷ []) station_tailed
unfolding limited within_site balanced sound earliest opening committing
tailed_reached = (same_state_lem (reached (one_feeder 1 100 2) (commit 1 10 60 1 0 ∷ commit 1 10 15 1 12 ∷ [])) station_tailed).0 refl

rated_reached : Reached (one_feeder 4 50 0) (commit 1 10 60 2 0 ∷ commit 1 10 60 2 10 ∷ commit 1 10 25 1 20 ∷ []) station_rated
unfolding limited within_site balanced sound earliest opening committing
rated_reached =
    (same_state_lem (reached (one_feeder 4 50 0) (commit 1 10 60 2 0 ∷ commit 1 10 60 2 10 ∷ commit 1 10 25 1 20 ∷ [])) station_rated).0 refl

waiting_since_reached :
    Reached (one_feeder 1 100 0) (commit 1 1 60 1 0 ∷ commit 1 10 60 1 1 ∷ commit 1 10 11 1 11 ∷ move 1 lent_list ∷ []) waiting_since
unfolding limited within_site balanced sound earliest opening committing moving
waiting_since_reached =
    (same_state_lem
    (reached (one_feeder 1 100 0) (commit 1 1 60 1 0 ∷ commit 1 10 60 1 1 ∷ commit 1 10 11 1 11 ∷ move 1 lent_list ∷ []))
    waiting_since).0
    refl

begun_and_waiting_reached :
    Reached (one_feeder 1 100 0)
    (commit 2 10 60 1 0 ∷ commit 1 2 60 1 0 ∷ commit 1 10 60 1 2 ∷ commit 1 10 12 1 12 ∷ move 2 lent_list ∷ [])
    begun_and_waiting
unfolding limited within_site balanced sound earliest opening committing moving
begun_and_waiting_reached =
    (same_state_lem
    (reached (one_feeder 1 100 0)
    (commit 2 10 60 1 0 ∷ commit 1 2 60 1 0 ∷ commit 1 10 60 1 2 ∷ commit 1 10 12 1 12 ∷ move 2 lent_list ∷ []))
    begun_and_waiting).0
    refl

-- Two feeders

pair_fresh_reached : Reached (pair_of 720 1 100) [] pair_fresh
unfolding opening
pair_fresh_reached = refl

pair_reached : Reached (pair_of 1 1 100) (commit 1 10 60 1 0 ∷ []) station_pair
unfolding limited within_site balanced sound earliest opening committing
pair_reached = (same_state_lem (reached (pair_of 1 1 100) (commit 1 10 60 1 0 ∷ [])) station_pair).0 refl

pair_wide_reached : Reached (pair_of 720 1 100) (commit 1 10 60 1 0 ∷ []) station_pair_wide
unfolding limited within_site balanced sound earliest opening committing
pair_wide_reached = (same_state_lem (reached (pair_of 720 1 100) (commit 1 10 60 1 0 ∷ [])) station_pair_wide).0 refl

site_reached : Reached (pair_of 1 2 100) orders_h station_site
unfolding limited within_site balanced sound earliest opening committing
site_reached = (same_state_lem (reached (pair_of 1 2 100) orders_h) station_site).0 refl

beside_reached : Reached (pair_of 1 1 100) (calls.commit 2 1 10 60 1 0 ∷ commit 1 10 15 1 10 ∷ []) station_beside
unfolding limited within_site balanced sound earliest opening committing
beside_reached =
    (same_state_lem (reached (pair_of 1 1 100) (calls.commit 2 1 10 60 1 0 ∷ commit 1 10 15 1 10 ∷ [])) station_beside).0 refl

gap_reached : Reached (pair_of 1 1 100) (commit 1 5 60 1 0 ∷ calls.commit 2 1 5 60 1 5 ∷ withdraw 1 ∷ []) station_gap
unfolding limited within_site balanced sound earliest opening committing withdrawing
gap_reached =
    (same_state_lem
    (reached (pair_of 1 1 100) (commit 1 5 60 1 0 ∷ calls.commit 2 1 5 60 1 5 ∷ withdraw 1 ∷ []))
    station_gap).0
    refl

pair_h_reached : Reached (pair_of 720 1 100) orders_h station_pair_h
unfolding limited within_site balanced sound earliest opening committing
pair_h_reached = (same_state_lem (reached (pair_of 720 1 100) orders_h) station_pair_h).0 refl

pub stations_reached : StationsAreReached
stations_reached = (
  station_reached,
  five_reached,
  three_reached,
  four_reached,
  two_reached,
  h_reached,
  h_two_reached,
  f_reached,
  short_reached,
  tailed_reached,
  rated_reached,
  waiting_since_reached,
  begun_and_waiting_reached,
  pair_fresh_reached,
  pair_reached,
  pair_wide_reached,
  site_reached,
  beside_reached,
  gap_reached,
  pair_h_reached,
)
