-- What is said of a whole list of calls is false of these wrong stations, each on a list of a few calls. Which field is false, and why, stands
-- beside each refutation in proofs/RefutedThree.antt.
use Rattle.std.specs.Prelude.{[], ◌∷◌, ◌++◌}
use Rattle.rules.specs.Entry.{lent_list, preview, commit, offer, replan_latest}
use Rattle.rules.specs.Calls.{move, board, withdraw}
use Rattle.guarantee.specs.DemandThree.{DemandThree}
use Rattle.excluded.specs.WrongOrders.{own_line_only, neighbours_only, limit_ignored, charges_counted, rates_in_limit_only, tails_left_out, tails_in_limit_only, fixed_start, preview_takes_ticket, shown_before_taken, ticket_skipped, own_feeder_only, first_feeder, zero_for_one}
use Rattle.excluded.specs.WrongMoves.{start_at_clock_left_out, first_report_only, reported_twice, start_at_target_reported, nobody_reported, stranger_held, slow_clock, dropped_early, dropped_late, dropped_at_its_end, never_dropped, shown_late, shown_begun, shown_early, end_with_tail}
use Rattle.excluded.specs.WrongBoards.{board_takes_ticket}
use Rattle.excluded.specs.WrongWithdrawals.{balance_untested, begun_withdrawn, ticket_given_again, withdrawn_held}
use Rattle.excluded.specs.WrongPlans.{untested, rate_lost, begun_moved}
use Rattle.excluded.specs.WrongRestores.{begun_forgotten, tickets_given_again, clock_lost}
use Rattle.excluded.specs.BreaksThree.{one, two, two_even, four, one_tailed, two_tailed, from, from_rated, single, four_orders, from_on, pair, pair_wide}

abbrev pub WrongListsAreExcluded : Type 0
WrongListsAreExcluded =
    (DemandThree limit_ignored one (four_orders 0) → ⊥)
    × (DemandThree fixed_start one (four_orders 5) → ⊥)
    × (DemandThree own_line_only two (single ∷ single ∷ []) → ⊥)
    × (DemandThree neighbours_only two (single ∷ from 2 0 ∷ single ∷ []) → ⊥)
    × (DemandThree charges_counted two_even (from_rated 1 0 ∷ from 2 0 ∷ from 3 0 ∷ single ∷ []) → ⊥)
    × (DemandThree rates_in_limit_only four (from_rated 1 0 ∷ single ∷ []) → ⊥)
    × (DemandThree tails_left_out one_tailed (commit 2 20 60 1 0 ∷ commit 3 20 60 1 0 ∷ single ∷ from 1 10 ∷ []) → ⊥)
    × (DemandThree tails_in_limit_only two_tailed (single ∷ from 1 10 ∷ []) → ⊥)
    × (DemandThree ticket_skipped one (single ∷ from 1 10 ∷ []) → ⊥)
    × (DemandThree preview_takes_ticket one (preview 1 10 60 1 ∷ single ∷ []) → ⊥)
    × (DemandThree board_takes_ticket one (board (1 ∷ []) (7 ∷ []) ∷ single ∷ []) → ⊥)
    × (DemandThree slow_clock one (move 5 lent_list ∷ from 1 4 ∷ move 6 lent_list ∷ []) → ⊥)
    × (DemandThree shown_before_taken one (preview 1 10 60 1 ∷ move 5 lent_list ∷ single ∷ []) → ⊥)
    × (DemandThree (untested 4) one (single ∷ commit 1 10 15 1 10 ∷ offer (11 ∷ 0 ∷ []) ∷ []) → ⊥)
    × (DemandThree start_at_clock_left_out one (single ∷ move 1 lent_list ∷ []) → ⊥)
    × (DemandThree first_report_only one (single ∷ move 5 lent_list ∷ from 2 5 ∷ move 6 lent_list ∷ []) → ⊥)
    × (DemandThree reported_twice one (single ∷ move 1 lent_list ∷ move 2 lent_list ∷ []) → ⊥)
    × (DemandThree start_at_target_reported one (single ∷ from 1 10 ∷ move 10 lent_list ∷ []) → ⊥)
    × (DemandThree shown_begun one (single ∷ []) → ⊥)
    × (DemandThree rate_lost four (from_rated 1 0 ∷ from_rated 1 10 ∷ commit 1 10 25 1 20 ∷ offer (10 ∷ 20 ∷ 0 ∷ []) ∷ []) → ⊥)
    × (DemandThree shown_late one (single ∷ move 1 lent_list ∷ []) → ⊥)
    × (DemandThree dropped_early one (single ∷ move 9 lent_list ∷ []) → ⊥)
    × (DemandThree dropped_at_its_end one_tailed (single ∷ move 10 lent_list ∷ []) → ⊥)
    × (DemandThree end_with_tail one_tailed (single ∷ move 1 lent_list ∷ []) → ⊥)
    × (DemandThree begun_moved one (single ∷ commit 1 10 15 1 10 ∷ move 1 lent_list ∷ replan_latest ∷ []) → ⊥)
    × (DemandThree dropped_late one (single ∷ move 10 lent_list ∷ []) → ⊥)
    × (DemandThree never_dropped one (single ∷ move 99 lent_list ∷ []) → ⊥)
    × (DemandThree nobody_reported one (move 1 lent_list ∷ []) → ⊥)
    × (DemandThree stranger_held one (move 1 lent_list ∷ []) → ⊥)
    × (DemandThree shown_early one (single ∷ from 1 10 ∷ move 9 lent_list ∷ move 11 lent_list ∷ []) → ⊥)
    × (DemandThree begun_forgotten one (single ∷ from 2 0 ∷ from 3 0 ∷ move 1 lent_list ∷ from 1 1 ∷ []) → ⊥)
    × (DemandThree tickets_given_again one (single ∷ from 1 10 ∷ move 10 lent_list ∷ from 2 10 ∷ []) → ⊥)
    × (DemandThree clock_lost one (single ∷ move 1 lent_list ∷ move 2 lent_list ∷ []) → ⊥)
    × (DemandThree balance_untested two (four_orders 0 ++ (withdraw 2 ∷ [])) → ⊥)
    × (DemandThree begun_withdrawn one (single ∷ move 1 lent_list ∷ withdraw 1 ∷ []) → ⊥)
    × (DemandThree withdrawn_held one (single ∷ withdraw 1 ∷ []) → ⊥)
    × (DemandThree ticket_given_again one (single ∷ withdraw 1 ∷ single ∷ []) → ⊥)
    × (DemandThree own_feeder_only pair (from_on 1 1 0 ∷ from_on 2 1 0 ∷ []) → ⊥)
    × (DemandThree first_feeder pair_wide (from_on 2 1 0 ∷ from_on 2 2 0 ∷ from_on 2 3 0 ∷ from_on 2 1 0 ∷ []) → ⊥)
    × (DemandThree zero_for_one one (from_on 0 1 0 ∷ []) → ⊥)
