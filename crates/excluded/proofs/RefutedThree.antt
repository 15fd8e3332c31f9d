-- Demand 3 is false of these wrong stations, each on a list of calls.
use mathlib.Core.Path.{◌≡◌, refl}
use Prim.Native.Nat.{ℕ, ◌≤◌}
use mathlib.Core.Bool.{false≢true}
use mathlib.Core.List.{[], ◌∷◌, ◌++◌}
use native.Mathlib.Omega.{arith}
use Rattle.rules.specs.Load.{limited, within_site, balanced, sound}
use Rattle.rules.specs.Search.{earliest}
use Rattle.rules.specs.Replan.{place_all, latest}
use Rattle.rules.specs.Judgement.{judged}
use Rattle.rules.specs.Entry.{lent_list, preview, commit, offer, replan_latest}
use Rattle.rules.specs.Calls.{refused, waiting, charging, move, board, withdraw, opening, previewing, committing, moving, offering, replanning_latest, enquiring, boarding, withdrawing}
use Rattle.guarantee.specs.DemandThree.{DemandThree}
use Rattle.excluded.specs.WrongOrders.{own_line_only, neighbours_only, limit_ignored, charges_counted, rates_in_limit_only, tails_left_out, tails_in_limit_only, fixed_start, preview_takes_ticket, shown_before_taken, ticket_skipped, own_feeder_only, first_feeder, zero_for_one}
use Rattle.excluded.specs.WrongMoves.{start_at_clock_left_out, first_report_only, reported_twice, start_at_target_reported, nobody_reported, stranger_held, slow_clock, dropped_early, dropped_late, dropped_at_its_end, never_dropped, shown_late, shown_begun, shown_early, end_with_tail}
use Rattle.excluded.specs.WrongBoards.{board_takes_ticket}
use Rattle.excluded.specs.WrongWithdrawals.{balance_untested, begun_withdrawn, ticket_given_again, withdrawn_held}
use Rattle.excluded.specs.WrongPlans.{untested, rate_lost, begun_moved}
use Rattle.excluded.specs.WrongRestores.{begun_forgotten, tickets_given_again, clock_lost}
use Rattle.excluded.specs.BreaksThree.{one, two, two_even, four, one_tailed, two_tailed, from, from_rated, single, four_orders, from_on, pair, pair_wide}
use Rattle.excluded.specs.LawsOfWrongLists.{WrongListsAreExcluded}
use Rattle.excluded.proofs.Refuting.{feeder_one, line_one, line_two, line_three}

-- Limit, balance and tickets

-- `limit`: two charges of line 1 in minute 0
limit_ignored_lem : DemandThree limit_ignored one (four_orders 0) → ⊥
unfolding limited within_site balanced sound earliest opening committing enquiring
limit_ignored_lem d = let h : 2 ≤ 1 = d.limit 1 1 0 (feeder_one _ (omega arith)) line_one in omega arith

-- `limit`: two charges of line 1 in minute 5
fixed_start_lem : DemandThree fixed_start one (four_orders 5) → ⊥
unfolding opening committing enquiring
fixed_start_lem d = let h : 2 ≤ 1 = d.limit 1 1 5 (feeder_one _ (omega arith)) line_one in omega arith

-- `balance`: two charges of line 1 in minute 0, none of line 2
own_line_only_lem : DemandThree own_line_only two (single ∷ single ∷ []) → ⊥
unfolding limited within_site balanced sound earliest opening committing enquiring
own_line_only_lem d = let h : 2 ≤ 1 = d.balance 1 1 2 0 (feeder_one _ (omega arith)) line_one line_two in omega arith

-- `balance`: in minute 0 two charges of line 1, one of line 2, none of line 3
neighbours_only_lem : DemandThree neighbours_only two (single ∷ from 2 0 ∷ single ∷ []) → ⊥
unfolding limited within_site opening committing enquiring
neighbours_only_lem d = let h : 2 ≤ 1 = d.balance 1 1 3 0 (feeder_one _ (omega arith)) line_one line_three in omega arith

-- `limit`: rates 2 and 1 on line 1 in minute 0
charges_counted_lem : DemandThree charges_counted two_even (from_rated 1 0 ∷ from 2 0 ∷ from 3 0 ∷ single ∷ []) → ⊥
unfolding limited within_site balanced sound earliest opening committing enquiring
charges_counted_lem d = let h : 3 ≤ 2 = d.limit 1 1 0 (feeder_one _ (omega arith)) line_one in omega arith

-- `balance`: rates 2 and 1 on line 1 in minute 0, none on line 2
rates_in_limit_only_lem : DemandThree rates_in_limit_only four (from_rated 1 0 ∷ single ∷ []) → ⊥
unfolding limited within_site balanced opening committing enquiring
rates_in_limit_only_lem d = let h : 3 ≤ 2 = d.balance 1 1 2 0 (feeder_one _ (omega arith)) line_one line_two in omega arith

-- `limit`: in minute 10 the tail of ticket 3 and ticket 4, on line 1
tails_left_out_lem : DemandThree tails_left_out one_tailed (commit 2 20 60 1 0 ∷ commit 3 20 60 1 0 ∷ single ∷ from 1 10 ∷ []) → ⊥
unfolding limited within_site balanced sound earliest opening committing enquiring
tails_left_out_lem d = let h : 2 ≤ 1 = d.limit 1 1 10 (feeder_one _ (omega arith)) line_one in omega arith

-- `balance`: in minute 10 a tail and a charge on line 1, none on line 2
tails_in_limit_only_lem : DemandThree tails_in_limit_only two_tailed (single ∷ from 1 10 ∷ []) → ⊥
unfolding limited within_site balanced opening committing enquiring
tails_in_limit_only_lem d = let h : 2 ≤ 1 = d.balance 1 1 2 10 (feeder_one _ (omega arith)) line_one line_two in omega arith

-- `tickets`: 1 and 3
ticket_skipped_lem : DemandThree ticket_skipped one (single ∷ from 1 10 ∷ []) → ⊥
unfolding limited within_site balanced sound earliest opening committing enquiring
ticket_skipped_lem d = let h : ◌≡◌ {A = ℕ} 3 2 = d.tickets.1.0 in omega arith

-- `tickets`: the first is 2
preview_takes_ticket_lem : DemandThree preview_takes_ticket one (preview 1 10 60 1 ∷ single ∷ []) → ⊥
unfolding limited within_site balanced sound earliest opening previewing committing enquiring
preview_takes_ticket_lem d = let h : ◌≡◌ {A = ℕ} 2 1 = d.tickets.0 in omega arith

-- `tickets`: the same, after a board
board_takes_ticket_lem : DemandThree board_takes_ticket one (board (1 ∷ []) (7 ∷ []) ∷ single ∷ []) → ⊥
unfolding limited within_site balanced sound earliest opening committing enquiring boarding
board_takes_ticket_lem d = let h : ◌≡◌ {A = ℕ} 2 1 = d.tickets.0 in omega arith

-- Each order's one charge

-- `not_early`: ordered in minute 5, reported with start 4
slow_clock_lem : DemandThree slow_clock one (move 5 lent_list ∷ from 1 4 ∷ move 6 lent_list ∷ []) → ⊥
unfolding limited within_site balanced sound earliest opening committing enquiring
slow_clock_lem d = let h : 5 ≤ 4 = d.orders.0.not_early in omega arith

-- `not_early`: ordered in minute 5, with start 0
shown_before_taken_lem : DemandThree shown_before_taken one (preview 1 10 60 1 ∷ move 5 lent_list ∷ single ∷ []) → ⊥
unfolding limited within_site balanced sound earliest opening previewing committing moving enquiring
shown_before_taken_lem d = let h : 5 ≤ 0 = d.orders.0.not_early in omega arith

-- `in_time`: ticket 1 ends at 21, and the two orders of minute 0 last 20
ends_later : DemandThree (untested 4) one (single ∷ commit 1 10 15 1 10 ∷ offer (11 ∷ 0 ∷ []) ∷ []) → ⊥
unfolding limited within_site balanced sound earliest judged opening committing enquiring
ends_later d = let h : 21 ≤ 20 = d.in_time.0 in omega arith

-- `reported`: start 0 was never reported
start_at_clock_left_out_lem : DemandThree start_at_clock_left_out one (single ∷ move 1 lent_list ∷ []) → ⊥
unfolding limited within_site balanced sound earliest opening committing enquiring
start_at_clock_left_out_lem d = let h : ◌≡◌ {A = ℕ} 0 1 = d.orders.0.reported (omega arith) in omega arith

-- `reported`: ticket 2, with start 5, was never reported
first_report_only_lem :
    DemandThree first_report_only one (single ∷ move 5 lent_list ∷ from 2 5 ∷ move 6 lent_list ∷ []) → ⊥
unfolding limited within_site balanced sound earliest opening committing enquiring
first_report_only_lem d = let h : ◌≡◌ {A = ℕ} 0 1 = d.orders.1.0.reported (omega arith) in omega arith

-- `reported`: twice
reported_twice_lem : DemandThree reported_twice one (single ∷ move 1 lent_list ∷ move 2 lent_list ∷ []) → ⊥
unfolding limited within_site balanced sound earliest opening committing enquiring
reported_twice_lem d = let h : ◌≡◌ {A = ℕ} 2 1 = d.orders.0.reported (omega arith) in omega arith

-- `not_reported`: ticket 2 waits for 10
start_at_target_reported_lem : DemandThree start_at_target_reported one (single ∷ from 1 10 ∷ move 10 lent_list ∷ []) → ⊥
unfolding limited within_site balanced sound earliest opening committing enquiring
start_at_target_reported_lem d =
    let h : ◌≡◌ {A = ℕ} 1 0 = d.orders.1.0.not_reported (omega arith) in omega arith

-- `waits`: the start is the clock
shown_begun_lem : DemandThree shown_begun one (single ∷ []) → ⊥
unfolding limited within_site balanced sound earliest opening committing enquiring
shown_begun_lem d =
    let h : charging 0 10 1 ≡ waiting 0 1 = d.orders.0.waits (omega arith) in
    let z : ◌≡◌ {A = ℕ} 0 1 = cc in
    omega arith

-- `waits`: ticket 1 was ordered at rate 2
rate_lost_lem :
    DemandThree rate_lost four (from_rated 1 0 ∷ from_rated 1 10 ∷ commit 1 10 25 1 20 ∷ offer (10 ∷ 20 ∷ 0 ∷ []) ∷ []) → ⊥
unfolding limited within_site balanced sound earliest judged opening committing offering enquiring
rate_lost_lem d =
    let h : waiting 10 1 ≡ waiting 10 2 = d.orders.0.waits (omega arith) in
    let z : ◌≡◌ {A = ℕ} 1 2 = cc in
    omega arith

-- `charges`: reported with start 0, shown with 1
shown_late_lem : DemandThree shown_late one (single ∷ move 1 lent_list ∷ []) → ⊥
unfolding limited within_site balanced sound earliest opening committing moving enquiring
shown_late_lem d =
    let h : charging 1 11 1 ≡ charging 0 10 1 = d.orders.0.charges (omega arith) (omega arith) in
    let z : ◌≡◌ {A = ℕ} 1 0 = cc in
    omega arith

-- `charges`: at clock 9 the charge from 0 to 10 is no longer held
dropped_early_lem : DemandThree dropped_early one (single ∷ move 9 lent_list ∷ []) → ⊥
unfolding limited within_site balanced sound earliest opening committing enquiring
dropped_early_lem d =
    let h : refused 15 ≡ charging 0 10 1 = d.orders.0.charges (omega arith) (omega arith) in
    let z : ◌≡◌ {A = ℕ} 0 1 = cc in
    omega arith

-- `charges`: at clock 10 the charge from 0 to 10 is in its tail, and no longer held
dropped_at_its_end_lem : DemandThree dropped_at_its_end one_tailed (single ∷ move 10 lent_list ∷ []) → ⊥
unfolding limited within_site balanced sound earliest opening committing enquiring
dropped_at_its_end_lem d =
    let h : refused 15 ≡ charging 0 10 1 = d.orders.0.charges (omega arith) (omega arith) in
    let z : ◌≡◌ {A = ℕ} 0 1 = cc in
    omega arith

-- `charges`: shown up to the end of its tail
end_with_tail_lem : DemandThree end_with_tail one_tailed (single ∷ move 1 lent_list ∷ []) → ⊥
unfolding limited within_site balanced sound earliest opening committing moving enquiring
end_with_tail_lem d =
    let h : charging 0 12 1 ≡ charging 0 10 1 = d.orders.0.charges (omega arith) (omega arith) in
    let z : ◌≡◌ {A = ℕ} 12 10 = cc in
    omega arith

-- `charges`: ticket 1 was reported with start 0 and waits for 10
begun_moved_lem :
    DemandThree begun_moved one (single ∷ commit 1 10 15 1 10 ∷ move 1 lent_list ∷ replan_latest ∷ []) → ⊥
unfolding limited within_site balanced sound earliest place_all latest judged opening committing moving replanning_latest enquiring
begun_moved_lem d =
    let h : waiting 10 1 ≡ charging 0 10 1 = d.orders.0.charges (omega arith) (omega arith) in
    let z : ◌≡◌ {A = ℕ} 0 1 = cc in
    omega arith

-- `finished`: at clock 10 the charge from 0 to 10 is still held
dropped_late_lem : DemandThree dropped_late one (single ∷ move 10 lent_list ∷ []) → ⊥
unfolding limited within_site balanced sound earliest opening committing enquiring
dropped_late_lem d =
    let h : charging 0 10 1 ≡ refused 15 = d.orders.0.finished (omega arith) in
    let z : ◌≡◌ {A = ℕ} 0 1 = cc in
    omega arith

never_dropped_lem : DemandThree never_dropped one (single ∷ move 99 lent_list ∷ []) → ⊥
unfolding limited within_site balanced sound earliest opening committing enquiring
never_dropped_lem d =
    let h : charging 0 10 1 ≡ refused 15 = d.orders.0.finished (omega arith) in
    let z : ◌≡◌ {A = ℕ} 0 1 = cc in
    omega arith

-- `no_other`: no order was accepted
nobody_reported_lem : DemandThree nobody_reported one (move 1 lent_list ∷ []) → ⊥
unfolding opening
nobody_reported_lem d = false≢true (d.no_other 65536 (omega arith))

-- `no_other_found`: no order was accepted, and a charge is found
pub stranger_held_lem : DemandThree stranger_held one (move 1 lent_list ∷ []) → ⊥
unfolding opening enquiring
stranger_held_lem d =
    let h : waiting 1 1 ≡ refused 15 = d.no_other_found 65536 refl in
    let z : ◌≡◌ {A = ℕ} 0 1 = cc in
    omega arith

-- `unmoved`: at clock 9 ticket 2 was shown with start 8, and it is reported with 10
shown_early_lem : DemandThree shown_early one (single ∷ from 1 10 ∷ move 9 lent_list ∷ move 11 lent_list ∷ []) → ⊥
unfolding limited within_site balanced sound earliest opening committing moving enquiring
shown_early_lem d =
    let h : ◌≡◌ {A = ℕ} 10 8
    = (d.unmoved (single ∷ from 1 10 ∷ move 9 lent_list ∷ []) (move 11 lent_list ∷ []) refl).1.0 (omega arith) in
    omega arith

-- Restores

-- `limit`: two charges of line 1 in minute 1
begun_forgotten_lem : DemandThree begun_forgotten one (single ∷ from 2 0 ∷ from 3 0 ∷ move 1 lent_list ∷ from 1 1 ∷ []) → ⊥
unfolding limited within_site balanced sound earliest opening committing moving enquiring
begun_forgotten_lem d = let h : 2 ≤ 1 = d.limit 1 1 1 (feeder_one _ (omega arith)) line_one in omega arith

-- `tickets`: 1, 2 and 2
tickets_given_again_lem : DemandThree tickets_given_again one (single ∷ from 1 10 ∷ move 10 lent_list ∷ from 2 10 ∷ []) → ⊥
unfolding limited within_site balanced sound earliest opening committing moving enquiring
tickets_given_again_lem d = let h : ◌≡◌ {A = ℕ} 2 3 = d.tickets.1.1.0 in omega arith

-- `reported`: ticket 1 once more
clock_lost_lem : DemandThree clock_lost one (single ∷ move 1 lent_list ∷ move 2 lent_list ∷ []) → ⊥
unfolding limited within_site balanced sound earliest opening committing moving enquiring
clock_lost_lem d = let h : ◌≡◌ {A = ℕ} 2 1 = d.orders.0.reported (omega arith) in omega arith

-- Withdrawn orders

-- `balance`: in minute 0 two charges of line 1, none of line 2
balance_untested_lem : DemandThree balance_untested two (four_orders 0 ++ (withdraw 2 ∷ [])) → ⊥
unfolding limited within_site balanced sound earliest opening committing enquiring withdrawing
balance_untested_lem d = let h : 2 ≤ 1 = d.balance 1 1 2 0 (feeder_one _ (omega arith)) line_one line_two in omega arith

-- `gone`: ticket 1 has been reported
begun_withdrawn_lem : DemandThree begun_withdrawn one (single ∷ move 1 lent_list ∷ withdraw 1 ∷ []) → ⊥
unfolding limited within_site balanced sound earliest opening committing moving enquiring withdrawing
begun_withdrawn_lem d = let h : ◌≡◌ {A = ℕ} 1 0 = d.gone.0.not_reported in omega arith

-- `gone`: an enquiry finds it waiting
withdrawn_held_lem : DemandThree withdrawn_held one (single ∷ withdraw 1 ∷ []) → ⊥
unfolding limited within_site balanced sound earliest opening committing enquiring withdrawing
withdrawn_held_lem d =
    let h : waiting 0 1 ≡ refused 15 = d.gone.0.not_held_lem in let z : ◌≡◌ {A = ℕ} 0 1 = cc in omega arith

-- `tickets`: 1 and 1
ticket_given_again_lem : DemandThree ticket_given_again one (single ∷ withdraw 1 ∷ single ∷ []) → ⊥
unfolding limited within_site balanced sound earliest opening committing enquiring withdrawing
ticket_given_again_lem d = let h : ◌≡◌ {A = ℕ} 1 2 = d.tickets.1.0 in omega arith

-- Sites

-- `site`: a charge on either feeder in minute 0, and W is 1
own_feeder_only_lem : DemandThree own_feeder_only pair (from_on 1 1 0 ∷ from_on 2 1 0 ∷ []) → ⊥
unfolding limited within_site balanced sound earliest opening committing enquiring
own_feeder_only_lem d = let h : 2 ≤ 1 = d.site 0 in omega arith

-- `limit`: two charges of line 1 of the second feeder in minute 0
first_feeder_lem : DemandThree first_feeder pair_wide (from_on 2 1 0 ∷ from_on 2 2 0 ∷ from_on 2 3 0 ∷ from_on 2 1 0 ∷ []) → ⊥
unfolding limited within_site balanced sound earliest opening committing enquiring
first_feeder_lem d = let h : 2 ≤ 1 = d.limit 2 1 0 (record { low = omega arith; high = omega arith }) line_one in omega arith

-- `feeders`: an order of feeder 0 is accepted
zero_for_one_lem : DemandThree zero_for_one one (from_on 0 1 0 ∷ []) → ⊥
unfolding limited within_site balanced sound earliest opening committing enquiring
zero_for_one_lem d = let h : 1 ≤ 0 = d.feeders.0.low in omega arith

pub lists_excluded : WrongListsAreExcluded
lists_excluded = (
  limit_ignored_lem,
  fixed_start_lem,
  own_line_only_lem,
  neighbours_only_lem,
  charges_counted_lem,
  rates_in_limit_only_lem,
  tails_left_out_lem,
  tails_in_limit_only_lem,
  ticket_skipped_lem,
  preview_takes_ticket_lem,
  board_takes_ticket_lem,
  slow_clock_lem,
  shown_before_taken_lem,
  ends_later,
  start_at_clock_left_out_lem,
  first_report_only_lem,
  reported_twice_lem,
  start_at_target_reported_lem,
  shown_begun_lem,
  rate_lost_lem,
  shown_late_lem,
  dropped_early_lem,
  dropped_at_its_end_lem,
  end_with_tail_lem,
  begun_moved_lem,
  dropped_late_lem,
  never_dropped_lem,
  nobody_reported_lem,
  stranger_held_lem,
  shown_early_lem,
  begun_forgotten_lem,
  tickets_given_again_lem,
  clock_lost_lem,
  balance_untested_lem,
  begun_withdrawn_lem,
  withdrawn_held_lem,
  ticket_given_again_lem,
  own_feeder_only_lem,
  first_feeder_lem,
  zero_for_one_lem,
)
