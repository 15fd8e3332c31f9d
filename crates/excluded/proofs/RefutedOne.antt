-- Demand 1 is false of the stations and openings of specs/WrongRefusals.antt, each on one call.
use mathlib.Core.Logic.{inl, inr}
use mathlib.Core.Path.{◌≡◌, refl, ap}
use Prim.Native.Nat.{ℕ}
use mathlib.Core.List.{[], ◌∷◌}
use native.Mathlib.Omega.{arith}
use lib.ListN.{length}
use Rattle.rules.specs.Load.{limited, within_site, balanced, sound}
use Rattle.rules.specs.Search.{earliest}
use Rattle.rules.specs.Site.{State, feeder_of}
use Rattle.rules.specs.Entry.{lent_list, one_feeder, preview, commit}
use Rattle.rules.specs.Calls as calls
use Rattle.rules.specs.Calls.{open_refusals, refused, opened, previewed, committed, waiting, move, board, withdraw, looked, withdrawn, refusals, moved, opening, previewing, committing, moving, boarding, withdrawing}
use Rattle.rules.proofs.Granted.{refusals_none}
use Rattle.guarantee.specs.Past.{Gives}
use Rattle.guarantee.specs.DemandOne.{DemandOne, DemandOneOpening}
use Rattle.excluded.specs.WrongOrders.{shown_as_waiting, any_sound_start, shown_ignored, zero_for_one}
use Rattle.excluded.specs.WrongRefusals.{line_accepted, last_row, lowest_number, any_order_asked, rate_above_bound, shown_first, other_number, always_full, hurry_refused, standstill_refused, ticket_used_up, list_cleared, ticket_not_said, opened_as_asked, opening_writes, limit_said, percent_lost, zero_bound, small_product_refused, rounded_down, long_tail_opened, tail_looked_at_first, refused_tail_kept, tail_lost, places_once, any_site}
use Rattle.excluded.specs.WrongWithdrawals.{balance_untested, begun_withdrawn, rest_looked_at_first, start_at_clock_refused}
use Rattle.excluded.specs.Stations.{station, station_two, station_f, station_h, pair_of, pair_fresh}
use Rattle.excluded.specs.LawsOfWrongCalls.{WrongCallsAreExcluded}
use Rattle.excluded.specs.LawsOfWrongCalls.{WrongOpeningsAreExcluded}
use Rattle.guarantee.proofs.Tables.{first_of_is, is_first_of}

-- Calls to a fresh station of 1, 100

-- `number`: a start is shown for line 4
line_accepted_lem : DemandOne line_accepted station (preview 4 10 60 1) → ⊥
unfolding limited within_site balanced sound earliest previewing
line_accepted_lem d =
    let h : previewed 0 ≡ refused 4 = (d.refused_by.number 4).1 (inr (refl, inl (refl, refl))) in
    let z : ◌≡◌ {A = ℕ} 0 1 = cc in
    omega arith

-- `number`: 5 in the place of 4
last_row_lem : DemandOne last_row station (preview 4 0 60 1) → ⊥
last_row_lem d =
    let h : refused 5 ≡ refused 4 = (d.refused_by.number 4).1 (inr (refl, inl (refl, refl))) in
    let z : ◌≡◌ {A = ℕ} 5 4 = cc in
    omega arith

-- `number`: 6 in the place of 17
lowest_number_lem : DemandOne lowest_number station (preview 1 10 2000001 3) → ⊥
lowest_number_lem d =
    let h : refused 6 ≡ refused 17
    = (d.refused_by.number 17).1 (first_of_is 16 (refusals station (preview 1 10 2000001 3)) refl) in
    let z : ◌≡◌ {A = ℕ} 6 17 = cc in
    omega arith

-- `number`: 24 in the place of 23
last_row_asked : DemandOne last_row station (board (2 ∷ 1 ∷ []) []) → ⊥
last_row_asked d =
    let h : refused 24 ≡ refused 23 = (d.refused_by.number 23).1 (inl (refl, refl)) in
    let z : ◌≡◌ {A = ℕ} 24 23 = cc in
    omega arith

-- `number`: equal tickets do not rise
any_order_asked_lem : DemandOne any_order_asked station (board (2 ∷ 2 ∷ []) (7 ∷ 7 ∷ [])) → ⊥
unfolding boarding
any_order_asked_lem d =
    let h : looked 0 ≡ refused 23 = (d.refused_by.number 23).1 (inl (refl, refl)) in
    let z : ◌≡◌ {A = ℕ} 0 1 = cc in
    omega arith

-- `number`: a rate of 2 is above D, and no start is found for it
rate_above_bound_lem : DemandOne rate_above_bound station_two (preview 1 10 60 2) → ⊥
unfolding limited within_site balanced sound earliest previewing
rate_above_bound_lem d =
    let h : refused 0 ≡ refused 18
    = (d.refused_by.number 18).1 (first_of_is 17 (refusals station_two (preview 1 10 60 2)) refl) in
    let z : ◌≡◌ {A = ℕ} 0 18 = cc in
    omega arith

-- `number`: 3 is not the earliest start, which is refusal 16
module _ (gives : Gives) (d : DemandOne gives station (commit 1 10 60 1 3)) where
  not_earliest : (gives station (commit 1 10 60 1 3)).answer ≡ refused 16
  unfolding limited within_site balanced sound earliest
  not_earliest = (d.refused_by.number 16).1 (first_of_is 15 (refusals station (commit 1 10 60 1 3)) refl)

any_sound_start_lem : DemandOne any_sound_start station (commit 1 10 60 1 3) → ⊥
unfolding limited within_site balanced sound earliest committing
any_sound_start_lem d =
    let h : committed 1 3 ≡ refused 16 = not_earliest any_sound_start d in
    let z : ◌≡◌ {A = ℕ} 0 1 = cc in
    omega arith

shown_ignored_lem : DemandOne shown_ignored station (commit 1 10 60 1 3) → ⊥
unfolding limited within_site balanced sound earliest
shown_ignored_lem d =
    let h : committed 1 0 ≡ refused 16 = not_earliest shown_ignored d in
    let z : ◌≡◌ {A = ℕ} 0 1 = cc in
    omega arith

other_number_lem : DemandOne other_number station (commit 1 10 60 1 3) → ⊥
unfolding limited within_site balanced sound earliest
other_number_lem d =
    let h : refused 14 ≡ refused 16 = not_earliest other_number d in
    let z : ◌≡◌ {A = ℕ} 14 16 = cc in
    omega arith

-- `number`: 16 in the place of 4
shown_first_lem : DemandOne shown_first station (commit 4 10 60 1 3) → ⊥
unfolding limited within_site balanced sound earliest
shown_first_lem d =
    let h : refused 16 ≡ refused 4 = (d.refused_by.number 4).1 (inr (refl, inl (refl, refl))) in
    let z : ◌≡◌ {A = ℕ} 16 4 = cc in
    omega arith

-- `number`: in case f's station ticket 5 cannot go
balance_untested_lem : DemandOne balance_untested station_f (withdraw 5) → ⊥
unfolding limited within_site balanced sound withdrawing
balance_untested_lem d =
    let h : withdrawn ≡ refused 26 = (d.refused_by.number 26).1 (inr (refl, inr (refl, inl (refl, refl)))) in
    let z : ◌≡◌ {A = ℕ} 0 1 = cc in
    omega arith

-- `number`: and ticket 1 has begun
begun_withdrawn_lem : DemandOne begun_withdrawn station_f (withdraw 1) → ⊥
unfolding limited within_site balanced sound withdrawing
begun_withdrawn_lem d =
    let h : withdrawn ≡ refused 25 = (d.refused_by.number 25).1 (inr (refl, inl (refl, refl))) in
    let z : ◌≡◌ {A = ℕ} 0 1 = cc in
    omega arith

-- `number`: 26 in the place of 25
rest_looked_at_first_lem : DemandOne rest_looked_at_first station_f (withdraw 2) → ⊥
unfolding limited within_site balanced sound
rest_looked_at_first_lem d =
    let h : refused 26 ≡ refused 25 = (d.refused_by.number 25).1 (inr (refl, inl (refl, refl))) in
    let z : ◌≡◌ {A = ℕ} 26 25 = cc in
    omega arith

-- `number`: a start equal to the clock still waits
start_at_clock_refused_lem : DemandOne start_at_clock_refused station_h (withdraw 1) → ⊥
unfolding limited within_site balanced sound
start_at_clock_refused_lem d =
    let h : ◌≡◌ {A = ℕ} 0 25 = is_first_of 25 (refusals station_h (withdraw 1)) ((d.refused_by.number 25).0 refl) in
    omega arith

-- `number`: no charge is held
always_full_lem : DemandOne always_full station (preview 1 10 60 1) → ⊥
always_full_lem d =
    let h : ◌≡◌ {A = ℕ} 0 13 = is_first_of 13 (refusals station (preview 1 10 60 1)) ((d.refused_by.number 13).0 refl) in
    omega arith

-- `number`: no condition looks at how soon a charge is due
hurry_refused_lem : DemandOne hurry_refused station (preview 1 10 9 1) → ⊥
hurry_refused_lem d =
    let h : ◌≡◌ {A = ℕ} 0 7 = is_first_of 7 (refusals station (preview 1 10 9 1)) ((d.refused_by.number 7).0 refl) in
    omega arith

-- `number`: the target is not below the clock
standstill_refused_lem : DemandOne standstill_refused station (move 0 lent_list) → ⊥
standstill_refused_lem d =
    let h : ◌≡◌ {A = ℕ} 0 12 = is_first_of 12 (refusals station (move 0 lent_list)) ((d.refused_by.number 12).0 refl) in
    omega arith

-- `same_station`
ticket_used_up_lem : DemandOne ticket_used_up station (commit 4 10 60 1 0) → ⊥
ticket_used_up_lem d =
    let h : ◌≡◌ {A = ℕ} 2 1 = ap (λ (s : State). s.next) (d.refused_by.same_station refl) in
    omega arith

-- `same_list_lem`
list_cleared_lem : DemandOne list_cleared station (move 0 (7 ∷ [])) → ⊥
list_cleared_lem d =
    let h : ◌≡◌ {A = ℕ} 0 1 = ap (length {A = ℕ}) (d.refused_by.same_list_lem refl) in
    omega arith

-- `answered`
shown_as_waiting_lem : DemandOne shown_as_waiting station (preview 1 10 60 1) → ⊥
shown_as_waiting_lem d = go (d.answered (refusals_none station (preview 1 10 60 1) refl))
  where
    go : (s : ℕ) × (waiting 0 1 ≡ previewed s) → ⊥
    go (s, e) = let z : ◌≡◌ {A = ℕ} 0 1 = cc in omega arith

ticket_not_said_lem : DemandOne ticket_not_said station (commit 1 10 60 1 0) → ⊥
unfolding limited within_site balanced sound earliest
ticket_not_said_lem d = go (d.answered (refusals_none station (commit 1 10 60 1 0) refl))
  where
    go : (t : ℕ) × (waiting 0 1 ≡ committed t 0) → ⊥
    go (t, e) = let z : ◌≡◌ {A = ℕ} 0 1 = cc in omega arith

-- Openings

-- `number`: half of 1 is rounded to 0
zero_bound_lem : DemandOneOpening zero_bound (one_feeder 1 50 0) → ⊥
zero_bound_lem d =
    let h : opened (0 ∷ []) ≡ refused 3 = (d.refused_by.number 3).1 (first_of_is 2 (open_refusals (one_feeder 1 50 0)) refl) in
    let z : ◌≡◌ {A = ℕ} 0 1 = cc in
    omega arith

-- `answered`, and with it `number`: 0.99 is rounded to 1
small_product_refused_lem : DemandOneOpening small_product_refused (one_feeder 9 11 0) → ⊥
small_product_refused_lem d =
    let h : refused 3 ≡ opened (1 ∷ []) = (d.answered (refl, (refl, (refl, (refl, (refl, (refl, tt))))))).0 in
    let z : ◌≡◌ {A = ℕ} 0 1 = cc in
    omega arith

-- `same_station`
opened_as_asked_lem : DemandOneOpening opened_as_asked (one_feeder 61 100 0) → ⊥
unfolding opening
opened_as_asked_lem d =
    let h : ◌≡◌ {A = ℕ} 61 1 = ap (λ (s : State). (feeder_of s 1).limit) (d.refused_by.same_station refl) in
    omega arith

-- `same_list_lem`
opening_writes_lem : DemandOneOpening opening_writes (one_feeder 61 100 0) → ⊥
unfolding opening
opening_writes_lem d =
    let h : ◌≡◌ {A = ℕ} 1 0 = ap (length {A = ℕ}) (d.refused_by.same_list_lem refl) in
    omega arith

-- `answered`, the answer
limit_said_lem : DemandOneOpening limit_said (one_feeder 10 10 0) → ⊥
limit_said_lem d =
    let h : opened (10 ∷ []) ≡ opened (1 ∷ []) = (d.answered (refl, (refl, (refl, (refl, (refl, (refl, tt))))))).0 in
    let z : ◌≡◌ {A = ℕ} 10 1 = cc in
    omega arith

-- `answered`, the station
percent_lost_lem : DemandOneOpening percent_lost (one_feeder 10 10 0) → ⊥
percent_lost_lem d =
    let h : ◌≡◌ {A = ℕ} 100 10 = ap (λ (s : State). (feeder_of s 1).percent) (d.answered (refl, (refl, (refl, (refl, (refl, (refl, tt))))))).1 in
    omega arith

-- `answered`: 1.5 is rounded to 2
rounded_down_lem : DemandOneOpening rounded_down (one_feeder 30 5 0) → ⊥
rounded_down_lem d =
    let h : opened (1 ∷ []) ≡ opened (2 ∷ []) = (d.answered (refl, (refl, (refl, (refl, (refl, (refl, tt))))))).0 in
    let z : ◌≡◌ {A = ℕ} 1 2 = cc in
    omega arith

-- `number`: r is 6
long_tail_opened_lem : DemandOneOpening long_tail_opened (one_feeder 1 100 6) → ⊥
long_tail_opened_lem d =
    let h : opened (1 ∷ []) ≡ refused 19 = (d.refused_by.number 19).1 (first_of_is 18 (open_refusals (one_feeder 1 100 6)) refl) in
    let z : ◌≡◌ {A = ℕ} 0 1 = cc in
    omega arith

-- `number`: 19 in the place of 3
tail_looked_at_first_lem : DemandOneOpening tail_looked_at_first (one_feeder 10 5 6) → ⊥
tail_looked_at_first_lem d =
    let h : refused 19 ≡ refused 3 = (d.refused_by.number 3).1 (first_of_is 2 (open_refusals (one_feeder 10 5 6)) refl) in
    let z : ◌≡◌ {A = ℕ} 19 3 = cc in
    omega arith

-- `same_station`: r is 5
refused_tail_kept_lem : DemandOneOpening refused_tail_kept (one_feeder 61 100 5) → ⊥
refused_tail_kept_lem d =
    let h : ◌≡◌ {A = ℕ} 5 0 = ap (λ (s : State). (feeder_of s 1).tail) (d.refused_by.same_station refl) in
    omega arith

-- `answered`, the station
tail_lost_lem : DemandOneOpening tail_lost (one_feeder 10 10 2) → ⊥
tail_lost_lem d =
    let h : ◌≡◌ {A = ℕ} 0 2 = ap (λ (s : State). (feeder_of s 1).tail) (d.answered (refl, (refl, (refl, (refl, (refl, (refl, tt))))))).1 in
    omega arith

-- Sites

-- `number`: there is no feeder 0
zero_for_one_lem : DemandOne zero_for_one station (calls.commit 0 1 10 60 1 0) → ⊥
unfolding limited within_site balanced sound earliest committing
zero_for_one_lem d =
    let h : committed 1 0 ≡ refused 29 = (d.refused_by.number 29).1 (inl (refl, refl)) in
    let z : ◌≡◌ {A = ℕ} 0 1 = cc in
    omega arith

-- `number`: two feeders need 720 places
places_once_lem : DemandOne places_once pair_fresh (move 0 lent_list) → ⊥
unfolding moving
places_once_lem d =
    let h : moved 0 0 ≡ refused 9 = (d.refused_by.number 9).1 (inr (refl, inl (refl, refl))) in
    let z : ◌≡◌ {A = ℕ} 0 1 = cc in
    omega arith

-- `number`: W is 721
any_site_lem : DemandOneOpening any_site (pair_of 721 1 100) → ⊥
any_site_lem d =
    let h : opened (1 ∷ 1 ∷ []) ≡ refused 28 = (d.refused_by.number 28).1 (first_of_is 27 (open_refusals (pair_of 721 1 100)) refl) in
    let z : ◌≡◌ {A = ℕ} 0 1 = cc in
    omega arith

pub calls_excluded : WrongCallsAreExcluded
calls_excluded = (
  line_accepted_lem,
  last_row_lem,
  lowest_number_lem,
  last_row_asked,
  any_order_asked_lem,
  rate_above_bound_lem,
  any_sound_start_lem,
  shown_ignored_lem,
  other_number_lem,
  shown_first_lem,
  balance_untested_lem,
  begun_withdrawn_lem,
  rest_looked_at_first_lem,
  start_at_clock_refused_lem,
  always_full_lem,
  hurry_refused_lem,
  standstill_refused_lem,
  ticket_used_up_lem,
  list_cleared_lem,
  shown_as_waiting_lem,
  ticket_not_said_lem,
  zero_for_one_lem,
  places_once_lem,
)

pub openings_excluded : WrongOpeningsAreExcluded
openings_excluded = (
  zero_bound_lem,
  small_product_refused_lem,
  opened_as_asked_lem,
  opening_writes_lem,
  limit_said_lem,
  percent_lost_lem,
  rounded_down_lem,
  long_tail_opened_lem,
  tail_looked_at_first_lem,
  refused_tail_kept_lem,
  tail_lost_lem,
  any_site_lem,
)
