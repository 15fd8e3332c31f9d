-- What is said of the answers to orders, of plans, boards and withdrawals is false of these wrong stations, each on one station. Which field
-- is false, and why, stands beside each refutation in the files RefutedTwo.. of proofs/.
use Rattle.guarantee.specs.DemandTwo.{DemandTwo}
use Rattle.excluded.specs.WrongRefusals.{other_number, ticket_used_up}
use Rattle.excluded.specs.WrongOrders.{own_line_only, limit_ignored, queued, last_end_shown, shown_as_waiting, preview_takes_ticket, preview_writes, any_sound_start, shown_ignored, shown_before_taken, other_ticket, others_put_off, own_feeder_only}
use Rattle.excluded.specs.WrongMoves.{slow_clock}
use Rattle.excluded.specs.Stations.{station, station_five, station_three, station_two, station_h, station_pair, station_four, station_short, station_h_two, station_tailed, station_rated, waiting_since, begun_and_waiting, station_beside, station_f}
use Rattle.excluded.specs.WrongPlans.{untested, never_taken, offer_cleared, taken_later, begun_put_off, line_changed, rate_lost, taken_for_ticket, kept_for_ticket, late_with_tails, always_kept, spent_after_none, by_latest_start_in_lines, rounds_invented, tested_alone}
use Rattle.excluded.specs.WrongBoards.{asked_counted, zero_for_not_held, stops_at_not_held, later_cleared, board_takes_ticket}
use Rattle.excluded.specs.WrongWithdrawals.{balance_untested, begun_withdrawn, start_at_clock_refused, others_replanned, ticket_given_again, withdrawn_held}

-- Previews and commits
abbrev pub WrongOrdersAreExcluded : Type 0
WrongOrdersAreExcluded =
    (DemandTwo shown_as_waiting station → ⊥)
    × (DemandTwo slow_clock station_five → ⊥)
    × (DemandTwo limit_ignored station_three → ⊥)
    × (DemandTwo own_line_only station_two → ⊥)
    × (DemandTwo queued station_h → ⊥)
    × (DemandTwo last_end_shown station_h → ⊥)
    × (DemandTwo own_feeder_only station_pair → ⊥)
    × (DemandTwo preview_takes_ticket station → ⊥)
    × (DemandTwo preview_writes station → ⊥)
    × (DemandTwo other_ticket station → ⊥)
    × (DemandTwo other_number station → ⊥)
    × (DemandTwo shown_ignored station → ⊥)
    × (DemandTwo any_sound_start station → ⊥)
    × (DemandTwo shown_before_taken station_five → ⊥)
    × (DemandTwo others_put_off station_h → ⊥)

-- Offered plans and replans
abbrev pub WrongPlansAreExcluded : Type 0
WrongPlansAreExcluded =
    (DemandTwo (untested 3) waiting_since → ⊥)
    × (DemandTwo (untested 4) station_h → ⊥)
    × (DemandTwo (untested 5) station_four → ⊥)
    × (DemandTwo (untested 6) station_h_two → ⊥)
    × (DemandTwo (untested 7) station_h → ⊥)
    × (DemandTwo tested_alone station_beside → ⊥)
    × (DemandTwo never_taken station_h → ⊥)
    × (DemandTwo taken_later station_h → ⊥)
    × (DemandTwo begun_put_off begun_and_waiting → ⊥)
    × (DemandTwo line_changed station_h → ⊥)
    × (DemandTwo rate_lost station_rated → ⊥)
    × (DemandTwo taken_for_ticket station_h → ⊥)
    × (DemandTwo kept_for_ticket station_h → ⊥)
    × (DemandTwo offer_cleared station_h → ⊥)
    × (DemandTwo late_with_tails station_tailed → ⊥)
    × (DemandTwo always_kept station_h → ⊥)
    × (DemandTwo spent_after_none station → ⊥)
    × (DemandTwo by_latest_start_in_lines station_short → ⊥)
    × (DemandTwo rounds_invented station → ⊥)

-- Boards
abbrev pub WrongBoardsAreExcluded : Type 0
WrongBoardsAreExcluded =
    (DemandTwo asked_counted begun_and_waiting → ⊥)
    × (DemandTwo zero_for_not_held begun_and_waiting → ⊥)
    × (DemandTwo stops_at_not_held begun_and_waiting → ⊥)
    × (DemandTwo later_cleared begun_and_waiting → ⊥)
    × (DemandTwo board_takes_ticket begun_and_waiting → ⊥)

-- Withdrawals
abbrev pub WrongWithdrawalsAreExcluded : Type 0
WrongWithdrawalsAreExcluded =
    (DemandTwo balance_untested station_f → ⊥)
    × (DemandTwo begun_withdrawn station_f → ⊥)
    × (DemandTwo start_at_clock_refused station_h → ⊥)
    × (DemandTwo others_replanned station_h → ⊥)
    × (DemandTwo ticket_given_again station_h → ⊥)
    × (DemandTwo withdrawn_held station_h → ⊥)
    × (DemandTwo ticket_used_up station_f → ⊥)
