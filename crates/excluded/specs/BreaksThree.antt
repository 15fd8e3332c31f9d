-- For each field of demand 3 a wrong station, and a list of calls on which that field is false and no other.
use Rattle.std.specs.Prelude.{ℕ, Bool, List, [], ◌∷◌, ◌++◌, map, length}
use Rattle.rules.specs.Site.{State}
use Rattle.rules.specs.Entry.{lent_list, one_feeder, preview, commit, offer, replan_latest}
use Rattle.rules.specs.Calls as calls
use Rattle.rules.specs.Calls.{settings, Asked, Call, move, board, withdraw, opening, step}
use Rattle.guarantee.specs.Past.{Gives}
use Rattle.excluded.specs.Same.{same_state}
use Rattle.excluded.specs.WrongOrders.{own_line_only, neighbours_only, limit_ignored, charges_counted, rates_in_limit_only, tails_left_out, tails_in_limit_only, fixed_start, preview_takes_ticket, shown_before_taken, ticket_skipped, site_ignored, own_feeder_only, begun_others_only, site_only_at_its_start, first_feeder, zero_for_one}
use Rattle.excluded.specs.WrongMoves.{start_at_clock_left_out, first_report_only, reported_twice, start_at_target_reported, nobody_reported, stranger_held, slow_clock, dropped_early, dropped_late, dropped_at_its_end, never_dropped, shown_late, shown_begun, shown_early, end_with_tail}
use Rattle.excluded.specs.WrongBoards.{board_takes_ticket}
use Rattle.excluded.specs.WrongWithdrawals.{balance_untested, begun_withdrawn, ticket_given_again, withdrawn_held}
use Rattle.excluded.specs.WrongPlans.{untested, rate_lost, begun_moved}
use Rattle.excluded.specs.WrongRestores.{begun_forgotten, tickets_given_again, clock_lost}
use Rattle.excluded.specs.Stations.{pair_of}
use Rattle.excluded.specs.FieldsThree.{Field, limit, balance, site, feeders, tickets, not_early, in_time, reported, not_reported, waits, charges, finished, gone_not_reported, gone_not_held, no_other, no_other_found, unmoved, fields, place, Holds}
use Rattle.excluded.specs.Breaks.{Entry, agrees_by, only_of}
use Rattle.excluded.specs.TestsThree.{tested}

-- a station, its first state and the calls made to it
pub record Trial : Type 0 where
  pub gives : Gives
  pub first : State
  pub calls : List Call

abbrev pub HoldsOf : Trial → Field → Type 0
HoldsOf r f = Holds r.gives r.first r.calls f

abbrev pub test_of : Trial → Field → Bool
test_of r f = tested r.gives r.first r.calls f

abbrev pub Breach : Type 0
Breach = Entry Trial Field

abbrev pub agrees : Breach → Bool
agrees = agrees_by test_of

abbrev pub only : Gives → State → List Call → List Field → Breach
only gives s calls broken = only_of place fields (record { gives = gives; first = s; calls = calls }) broken

-- the station of 1, 100 and that of 2, 50, both with D = 1
abbrev pub one : State
one = (opening (one_feeder 1 100 0)).state

abbrev pub two : State
two = (opening (one_feeder 2 50 0)).state

-- the station of 2, 100 and that of 4, 50, both with D = 2
abbrev pub two_even : State
two_even = (opening (one_feeder 2 100 0)).state

abbrev pub four : State
four = (opening (one_feeder 4 50 0)).state

-- the station of 1, 100 and that of 2, 50, with r 2
abbrev pub one_tailed : State
one_tailed = (opening (one_feeder 1 100 2)).state

abbrev pub two_tailed : State
two_tailed = (opening (one_feeder 2 50 2)).state

-- an order of 10 minutes with a start
abbrev pub from : ℕ → ℕ → Call
from line start = commit line 10 60 1 start

-- the same of rate 2
abbrev pub from_rated : ℕ → ℕ → Call
from_rated line start = commit line 10 60 2 start

-- of a feeder
abbrev pub from_on : ℕ → ℕ → ℕ → Call
from_on f line start = calls.commit f line 10 60 1 start

-- two feeders of 1, 100, under W 1 and under W 720
abbrev pub pair : State
pair = (opening (pair_of 1 1 100)).state

abbrev pub pair_wide : State
pair_wide = (opening (pair_of 720 1 100)).state

-- one order that charges on line 1 from 0 to 10
abbrev pub single : Call
single = from 1 0

-- one order on each line, and another on line 1, all with one start
abbrev pub four_orders : ℕ → List Call
four_orders start = from 1 start ∷ from 2 start ∷ from 3 start ∷ from 1 start ∷ []

abbrev pub to : ℕ → Call
to target = move target lent_list

abbrev pub wrong_entries : List Breach
wrong_entries =
    only limit_ignored one (four_orders 0) (limit ∷ [])
    ∷ only fixed_start one (four_orders 5) (limit ∷ [])
    ∷ only own_line_only two (single ∷ single ∷ []) (balance ∷ [])
    ∷ only neighbours_only two (single ∷ from 2 0 ∷ single ∷ []) (balance ∷ [])
    ∷ only charges_counted two_even (from_rated 1 0 ∷ from 2 0 ∷ from 3 0 ∷ single ∷ []) (limit ∷ [])
    ∷ only rates_in_limit_only four (from_rated 1 0 ∷ single ∷ []) (balance ∷ [])
    -- lines 2 and 3 draw all the time, so that balance holds in the tail of the first charge, where the second one begins
    ∷ only tails_left_out one_tailed (commit 2 20 60 1 0 ∷ commit 3 20 60 1 0 ∷ single ∷ from 1 10 ∷ []) (limit ∷ [])
    ∷ only tails_in_limit_only two_tailed (single ∷ from 1 10 ∷ []) (balance ∷ [])
    ∷ only ticket_skipped one (single ∷ from 1 10 ∷ []) (tickets ∷ [])
    ∷ only preview_takes_ticket one (preview 1 10 60 1 ∷ single ∷ []) (tickets ∷ [])
    ∷ only board_takes_ticket one (board (1 ∷ []) (7 ∷ []) ∷ single ∷ []) (tickets ∷ [])
    ∷ only slow_clock one (to 5 ∷ from 1 4 ∷ to 6 ∷ []) (not_early ∷ [])
    -- ordered in minute 5 with the start 0, which no move passes any more
    ∷ only shown_before_taken one (preview 1 10 60 1 ∷ to 5 ∷ single ∷ []) (not_early ∷ reported ∷ [])
    ∷ only (untested 4) one (single ∷ commit 1 10 15 1 10 ∷ offer (11 ∷ 0 ∷ []) ∷ []) (in_time ∷ [])
    ∷ only start_at_clock_left_out one (single ∷ to 1 ∷ []) (reported ∷ [])
    ∷ only first_report_only one (single ∷ to 5 ∷ from 2 5 ∷ to 6 ∷ []) (reported ∷ [])
    ∷ only reported_twice one (single ∷ to 1 ∷ to 2 ∷ []) (reported ∷ [])
    ∷ only start_at_target_reported one (single ∷ from 1 10 ∷ to 10 ∷ []) (not_reported ∷ [])
    ∷ only shown_begun one (single ∷ []) (waits ∷ [])
    ∷ only rate_lost four (from_rated 1 0 ∷ from_rated 1 10 ∷ commit 1 10 25 1 20 ∷ offer (10 ∷ 20 ∷ 0 ∷ []) ∷ []) (waits ∷ [])
    ∷ only shown_late one (single ∷ to 1 ∷ []) (charges ∷ [])
    ∷ only dropped_early one (single ∷ to 9 ∷ []) (charges ∷ [])
    -- ticket 1, reported with start 0, waits for 10, and ticket 2, never reported, charges from 0: both of line 1 in minute 0
    ∷ only begun_moved one (single ∷ commit 1 10 15 1 10 ∷ to 1 ∷ replan_latest ∷ []) (limit ∷ balance ∷ reported ∷ charges ∷ [])
    ∷ only dropped_at_its_end one_tailed (single ∷ to 10 ∷ []) (charges ∷ [])
    ∷ only end_with_tail one_tailed (single ∷ to 1 ∷ []) (charges ∷ [])
    ∷ only dropped_late one (single ∷ to 10 ∷ []) (finished ∷ [])
    ∷ only never_dropped one (single ∷ to 99 ∷ []) (finished ∷ [])
    -- without ticket 2 minutes 0 to 9 count 2, 0, 1
    ∷ only balance_untested two (four_orders 0 ++ (withdraw 2 ∷ [])) (balance ∷ [])
    ∷ only begun_withdrawn one (single ∷ to 1 ∷ withdraw 1 ∷ []) (gone_not_reported ∷ [])
    ∷ only withdrawn_held one (single ∷ withdraw 1 ∷ []) (gone_not_held ∷ [])
    -- the second order has ticket 1 again, which is withdrawn
    ∷ only ticket_given_again one (single ∷ withdraw 1 ∷ single ∷ []) (tickets ∷ gone_not_held ∷ [])
    ∷ only nobody_reported one (to 1 ∷ []) (no_other ∷ [])
    ∷ only shown_early one (single ∷ from 1 10 ∷ to 9 ∷ to 11 ∷ []) (unmoved ∷ [])
    -- the first charge of line 1 has begun and is forgotten: an enquiry does not find it, and the second one begins beside it
    ∷ only begun_forgotten one (single ∷ from 2 0 ∷ from 3 0 ∷ to 1 ∷ from 1 1 ∷ []) (limit ∷ charges ∷ [])
    -- ticket 1 is dropped, ticket 2 waits for 10 and so does the next order
    ∷ only tickets_given_again one (single ∷ from 1 10 ∷ to 10 ∷ from 2 10 ∷ []) (tickets ∷ [])
    ∷ only clock_lost one (single ∷ to 1 ∷ to 2 ∷ []) (reported ∷ charges ∷ [])
    -- a charge on line 1 of either feeder in minute 0, and W is 1
    ∷ only own_feeder_only pair (from_on 1 1 0 ∷ from_on 2 1 0 ∷ []) (site ∷ [])
    ∷ only site_ignored pair (from_on 1 1 0 ∷ from_on 2 1 0 ∷ []) (site ∷ [])
    ∷ only begun_others_only pair (from_on 1 1 0 ∷ from_on 2 1 0 ∷ []) (site ∷ [])
    -- with ticket 1 gone, feeder 2 draws from 5 to 10, and an order of 10 minutes is started in minute 0
    ∷ only site_only_at_its_start pair
    (calls.commit 1 1 5 60 1 0 ∷ calls.commit 2 1 5 60 1 5 ∷ withdraw 1 ∷ from_on 1 1 0 ∷ [])
    (site ∷ [])
    -- four orders of the second feeder, put on the first
    ∷ only first_feeder pair_wide (from_on 2 1 0 ∷ from_on 2 2 0 ∷ from_on 2 3 0 ∷ from_on 2 1 0 ∷ []) (limit ∷ [])
    ∷ only zero_for_one one (from_on 0 1 0 ∷ []) (feeders ∷ [])
    ∷ []

-- no order was accepted, and an enquiry of ticket 65,536 finds a charge
abbrev pub stranger : Breach
stranger = only stranger_held one (to 1 ∷ []) (no_other_found ∷ [])

-- what an opening asks for that leads to this site
abbrev pub asked_for : State → Asked
asked_for s =
    record {
      count = length s.feeders;
      site = s.site;
      settings = map (λ g. settings g.limit g.percent g.tail) s.feeders;
    }

abbrev pub is_opened : State → Bool
is_opened s = same_state (opening (asked_for s)).state s

-- and the rules themselves on the same calls, where nothing breaks
abbrev pub by_rules : Breach → Breach
by_rules e = only step e.thing.first e.thing.calls []

abbrev pub all_wrong : List Breach
all_wrong = stranger ∷ wrong_entries

abbrev pub entries : List Breach
entries = all_wrong ++ map by_rules all_wrong
