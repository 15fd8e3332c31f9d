-- What is said of the refusals of one call, or of an opening, is false of these wrong stations and openings, each on one call. Which field is
-- false, and why, stands beside each refutation in proofs/RefutedOne.antt.
use Rattle.std.specs.Prelude.{[], ◌∷◌}
use Rattle.rules.specs.Entry.{lent_list, one_feeder, preview, commit}
use Rattle.rules.specs.Calls as calls
use Rattle.rules.specs.Calls.{open_refusals, refused, opened, previewed, committed, waiting, move, board, withdraw, looked, withdrawn, refusals, moved, opening, previewing, committing, moving, boarding, withdrawing}
use Rattle.guarantee.specs.DemandOne.{DemandOne, DemandOneOpening}
use Rattle.excluded.specs.WrongOrders.{shown_as_waiting, any_sound_start, shown_ignored, zero_for_one}
use Rattle.excluded.specs.WrongRefusals.{line_accepted, last_row, lowest_number, any_order_asked, rate_above_bound, shown_first, other_number, always_full, hurry_refused, standstill_refused, ticket_used_up, list_cleared, ticket_not_said, opened_as_asked, opening_writes, limit_said, percent_lost, zero_bound, small_product_refused, rounded_down, long_tail_opened, tail_looked_at_first, refused_tail_kept, tail_lost, places_once, any_site}
use Rattle.excluded.specs.WrongWithdrawals.{balance_untested, begun_withdrawn, rest_looked_at_first, start_at_clock_refused}
use Rattle.excluded.specs.Stations.{station, station_two, station_f, station_h, pair_of, pair_fresh}

-- Of calls
abbrev pub WrongCallsAreExcluded : Type 0
WrongCallsAreExcluded =
    (DemandOne line_accepted station (preview 4 10 60 1) → ⊥)
    × (DemandOne last_row station (preview 4 0 60 1) → ⊥)
    × (DemandOne lowest_number station (preview 1 10 2000001 3) → ⊥)
    × (DemandOne last_row station (board (2 ∷ 1 ∷ []) []) → ⊥)
    × (DemandOne any_order_asked station (board (2 ∷ 2 ∷ []) (7 ∷ 7 ∷ [])) → ⊥)
    × (DemandOne rate_above_bound station_two (preview 1 10 60 2) → ⊥)
    × (DemandOne any_sound_start station (commit 1 10 60 1 3) → ⊥)
    × (DemandOne shown_ignored station (commit 1 10 60 1 3) → ⊥)
    × (DemandOne other_number station (commit 1 10 60 1 3) → ⊥)
    × (DemandOne shown_first station (commit 4 10 60 1 3) → ⊥)
    × (DemandOne balance_untested station_f (withdraw 5) → ⊥)
    × (DemandOne begun_withdrawn station_f (withdraw 1) → ⊥)
    × (DemandOne rest_looked_at_first station_f (withdraw 2) → ⊥)
    × (DemandOne start_at_clock_refused station_h (withdraw 1) → ⊥)
    × (DemandOne always_full station (preview 1 10 60 1) → ⊥)
    × (DemandOne hurry_refused station (preview 1 10 9 1) → ⊥)
    × (DemandOne standstill_refused station (move 0 lent_list) → ⊥)
    × (DemandOne ticket_used_up station (commit 4 10 60 1 0) → ⊥)
    × (DemandOne list_cleared station (move 0 (7 ∷ [])) → ⊥)
    × (DemandOne shown_as_waiting station (preview 1 10 60 1) → ⊥)
    × (DemandOne ticket_not_said station (commit 1 10 60 1 0) → ⊥)
    × (DemandOne zero_for_one station (calls.commit 0 1 10 60 1 0) → ⊥)
    × (DemandOne places_once pair_fresh (move 0 lent_list) → ⊥)

-- Of openings
abbrev pub WrongOpeningsAreExcluded : Type 0
WrongOpeningsAreExcluded =
    (DemandOneOpening zero_bound (one_feeder 1 50 0) → ⊥)
    × (DemandOneOpening small_product_refused (one_feeder 9 11 0) → ⊥)
    × (DemandOneOpening opened_as_asked (one_feeder 61 100 0) → ⊥)
    × (DemandOneOpening opening_writes (one_feeder 61 100 0) → ⊥)
    × (DemandOneOpening limit_said (one_feeder 10 10 0) → ⊥)
    × (DemandOneOpening percent_lost (one_feeder 10 10 0) → ⊥)
    × (DemandOneOpening rounded_down (one_feeder 30 5 0) → ⊥)
    × (DemandOneOpening long_tail_opened (one_feeder 1 100 6) → ⊥)
    × (DemandOneOpening tail_looked_at_first (one_feeder 10 5 6) → ⊥)
    × (DemandOneOpening refused_tail_kept (one_feeder 61 100 5) → ⊥)
    × (DemandOneOpening tail_lost (one_feeder 10 10 2) → ⊥)
    × (DemandOneOpening any_site (pair_of 721 1 100) → ⊥)
