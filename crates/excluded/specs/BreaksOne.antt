-- For each field of demand 1 a wrong station and a call, and a wrong opening, for which that field is false and no other.
use Rattle.std.specs.Prelude.{ℕ, Bool, List, [], ◌∷◌, ◌++◌, map}
use Rattle.rules.specs.Entry.{lent_list, one_feeder, preview, commit}
use Rattle.rules.specs.Calls as calls
use Rattle.rules.specs.Calls.{Settings, settings, Asked, move, board, withdraw, opening, step}
use Rattle.excluded.specs.WrongOrders.{shown_as_waiting, any_sound_start, shown_ignored, zero_for_one}
use Rattle.excluded.specs.WrongRefusals.{line_accepted, last_row, lowest_number, any_order_asked, rate_above_bound, shown_first, other_number, always_full, hurry_refused, standstill_refused, ticket_used_up, list_cleared, ticket_not_said, opened_as_asked, opening_writes, limit_said, percent_lost, zero_bound, small_product_refused, rounded_down, long_tail_opened, tail_looked_at_first, refused_tail_kept, tail_lost, places_once, five_opened, feeder_by_feeder, any_site, all_opened, refused_site_kept}
use Rattle.excluded.specs.WrongWithdrawals.{balance_untested, begun_withdrawn, rest_looked_at_first, start_at_clock_refused}
use Rattle.excluded.specs.Stations.{station, station_two, station_f, station_h, pair_fresh}
use Rattle.excluded.specs.Breaks.{Entry, agrees_by, only_of}
use Rattle.excluded.specs.FieldsOne.{Field, number, same_station, same_list_lem, answered, fields, place, Trial, called_on, opened_by, tested}

abbrev pub Breach : Type 0
Breach = Entry Trial Field

abbrev pub agrees : Breach → Bool
agrees = agrees_by tested

abbrev only : Trial → List Field → Breach
only = only_of place fields

abbrev two_asked : ℕ → Settings → Settings → Asked
two_asked w x y = record { count = 2; site = w; settings = x ∷ y ∷ [] }

abbrev five_asked : Asked
five_asked =
    let x : Settings = settings 1 100 0 in record { count = 5; site = 720; settings = x ∷ x ∷ x ∷ x ∷ x ∷ [] }

abbrev pub wrong_calls : List Breach
wrong_calls =
    only (called_on line_accepted station (preview 4 10 60 1)) (number ∷ [])
    ∷ only (called_on last_row station (preview 4 0 60 1)) (number ∷ [])
    -- N is 2 and D is 1: the rate is above D alone, and no start is found for it
    ∷ only (called_on rate_above_bound station_two (preview 1 10 60 2)) (number ∷ [])
    ∷ only (called_on lowest_number station (preview 1 10 2000001 3)) (number ∷ [])
    -- the tickets do not rise, and the answer list is too short: 23 goes before 24
    ∷ only (called_on last_row station (board (2 ∷ 1 ∷ []) [])) (number ∷ [])
    ∷ only (called_on any_order_asked station (board (2 ∷ 2 ∷ []) (7 ∷ 7 ∷ []))) (number ∷ [])
    -- 3 is a sound start, and 0 the earliest
    ∷ only (called_on any_sound_start station (commit 1 10 60 1 3)) (number ∷ [])
    ∷ only (called_on shown_ignored station (commit 1 10 60 1 3)) (number ∷ [])
    ∷ only (called_on other_number station (commit 1 10 60 1 3)) (number ∷ [])
    ∷ only (called_on shown_first station (commit 4 10 60 1 3)) (number ∷ [])
    -- ticket 5 cannot go, ticket 1 has begun; ticket 2 has begun, and the rest would not be sound: 25 goes before 26
    ∷ only (called_on balance_untested station_f (withdraw 5)) (number ∷ [])
    ∷ only (called_on begun_withdrawn station_f (withdraw 1)) (number ∷ [])
    ∷ only (called_on rest_looked_at_first station_f (withdraw 2)) (number ∷ [])
    -- a call that is refused where no condition applies has no answer of its own kind either
    ∷ only (called_on always_full station (preview 1 10 60 1)) (number ∷ answered ∷ [])
    ∷ only (called_on hurry_refused station (preview 1 10 9 1)) (number ∷ answered ∷ [])
    ∷ only (called_on standstill_refused station (move 0 lent_list)) (number ∷ answered ∷ [])
    ∷ only (called_on start_at_clock_refused station_h (withdraw 1)) (number ∷ answered ∷ [])
    ∷ only (called_on ticket_used_up station (commit 4 10 60 1 0)) (same_station ∷ [])
    ∷ only (called_on list_cleared station (move 0 (7 ∷ []))) (same_list_lem ∷ [])
    ∷ only (called_on list_cleared station (board (1 ∷ 2 ∷ []) (7 ∷ []))) (same_list_lem ∷ [])
    ∷ only (called_on shown_as_waiting station (preview 1 10 60 1)) (answered ∷ [])
    ∷ only (called_on ticket_not_said station (commit 1 10 60 1 0)) (answered ∷ [])
    -- there is no feeder 0; and two feeders need 720 places
    ∷ only (called_on zero_for_one station (calls.commit 0 1 10 60 1 0)) (number ∷ [])
    ∷ only (called_on places_once pair_fresh (move 0 lent_list)) (number ∷ [])
    ∷ []

abbrev pub wrong_openings : List Breach
wrong_openings =
    only (opened_by zero_bound (one_feeder 1 50 0)) (number ∷ [])
    -- as above, an opening that is refused where no condition applies does not answer D either
    ∷ only (opened_by small_product_refused (one_feeder 9 11 0)) (number ∷ answered ∷ [])
    ∷ only (opened_by opened_as_asked (one_feeder 61 100 0)) (same_station ∷ [])
    ∷ only (opened_by opening_writes (one_feeder 61 100 0)) (same_list_lem ∷ [])
    ∷ only (opened_by limit_said (one_feeder 10 10 0)) (answered ∷ [])
    ∷ only (opened_by percent_lost (one_feeder 10 10 0)) (answered ∷ [])
    ∷ only (opened_by rounded_down (one_feeder 30 5 0)) (answered ∷ [])
    ∷ only (opened_by long_tail_opened (one_feeder 1 100 6)) (number ∷ [])
    -- D is 0, and 3 goes before 19
    ∷ only (opened_by tail_looked_at_first (one_feeder 10 5 6)) (number ∷ [])
    ∷ only (opened_by refused_tail_kept (one_feeder 61 100 5)) (same_station ∷ [])
    ∷ only (opened_by tail_lost (one_feeder 10 10 2)) (answered ∷ [])
    ∷ only (opened_by five_opened five_asked) (number ∷ [])
    -- D of the first is 0 and N of the second 61: 1 goes before 3
    ∷ only (opened_by feeder_by_feeder (two_asked 720 (settings 10 5 0) (settings 61 100 0))) (number ∷ [])
    ∷ only (opened_by any_site (two_asked 721 (settings 1 100 0) (settings 1 100 0))) (number ∷ [])
    -- the second is given and not asked for
    ∷ only (opened_by all_opened (record { count = 1; site = 720; settings = settings 1 100 0 ∷ settings 2 50 0 ∷ [] })) (answered ∷ [])
    ∷ only (opened_by refused_site_kept (two_asked 5 (settings 61 100 0) (settings 1 100 0))) (same_station ∷ [])
    ∷ []

-- the rules themselves for the same call or opening
abbrev by_rules : Trial → Trial
by_rules (called_on gives s c) = called_on step s c
by_rules (opened_by opens x) = opened_by opening x

abbrev pub entries : List Breach
entries = wrong_calls ++ wrong_openings ++ map (λ e. only (by_rules e.thing) []) (wrong_calls ++ wrong_openings)
