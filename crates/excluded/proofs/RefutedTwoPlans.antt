-- Demand 2 is false of these wrong stations for what they make of an offer or a replan, each after a list of calls.
use mathlib.Core.Path.{◌≡◌, refl, ap, subst}
use Prim.Native.Nat.{ℕ, ◌≤◌, ◌<◌}
use mathlib.Core.List.{List, [], ◌∷◌}
use native.Mathlib.Omega.{arith}
use lib.ListN.{length}
use Rattle.rules.specs.Load.{count, limited, within_site, balanced, sound}
use Rattle.rules.specs.Charge.{Charge, loads_of, last_end}
use Rattle.rules.specs.Search.{earliest, first_unbalanced}
use Rattle.rules.specs.Priority.{fading, weights, weight_of, first_fit, picked}
use Rattle.rules.specs.Replan.{starts, place_all, latest, place_on, round, rounds_from, by_lines}
use Rattle.rules.specs.Judgement.{restarted, judged}
use Rattle.rules.specs.CasesAToL.{orders_h}
use Rattle.rules.specs.Site.{State, charges_on}
use Rattle.rules.specs.Entry.{one_feeder}
use Rattle.rules.specs.Calls.{planned, offer, offering, step}
use Rattle.guarantee.specs.Past.{Gives}
use Rattle.guarantee.specs.DemandTwo.{Better, Taken, GivenStarts, DemandTwo}
use Rattle.excluded.specs.WrongPlans.{untested, never_taken, offer_cleared, taken_later, begun_put_off, line_changed, rate_lost, taken_for_ticket, kept_for_ticket, late_with_tails, always_kept, spent_after_none, by_latest_start_in_lines, rounds_invented, tested_alone}
use Rattle.excluded.specs.Stations.{station, station_four, station_h, station_short, station_h_two, station_tailed, station_rated, waiting_since, begun_and_waiting, station_beside}
use Rattle.excluded.specs.BreaksTwoPlans.{offer_j}
use Rattle.excluded.specs.LawsOfWrongPlans.{WrongPlansAreExcluded}
use Rattle.guarantee.proofs.Taking.{not_taken}
use Rattle.guarantee.proofs.DemandTwo.{demand_two}
use Rattle.excluded.proofs.Refuting.{line_one, line_two}
use Rattle.excluded.proofs.Stations.{h_reached}

-- What an offer must be

-- what demand 2 says of an offer that is taken
module _ (gives : Gives) (s : State) (ss : List ℕ) (demand : DemandTwo gives s) (taken : Taken (gives s (offer 1 ss)).answer) where
  offer_better : Better s 1 ss (restarted s.clock (charges_on s 1) ss)
  offer_better = go ((demand.offers 1 ss).taken.0 taken).1
    where
      go :
          (us : List ℕ) × (starts ss ≡ starts us) × Better s 1 us (restarted s.clock (charges_on s 1) us)
          → Better s 1 ss (restarted s.clock (charges_on s 1) ss)
      go (us, e, b) =
          let same : us ≡ ss = cc in
          subst (λ (us : List ℕ). Better s 1 us (restarted s.clock (charges_on s 1) us)) same b

  offer_given : GivenStarts s 1 ss (gives s (offer 1 ss)).state
  offer_given = (demand.offers 1 ss).given ss refl taken

-- `not_before_clock`
untested_three : DemandTwo (untested 3) waiting_since → ⊥
unfolding limited within_site balanced sound earliest
untested_three d =
    let h : 1 ≤ 0 = (offer_better (untested 3) waiting_since (11 ∷ 0 ∷ []) d (_, _, _, refl)).not_before_clock.1.0 in
    omega arith

-- `no_later`
untested_four : DemandTwo (untested 4) station_h → ⊥
unfolding limited within_site balanced sound earliest
untested_four d =
    let h : 21 ≤ 20 = (offer_better (untested 4) station_h (11 ∷ 0 ∷ []) d (_, _, _, refl)).no_later in omega arith

-- `sound.limit`: N = 1
untested_five : DemandTwo (untested 5) station_four → ⊥
unfolding limited within_site balanced sound earliest
untested_five d =
    let h : 2 ≤ 1
    = (offer_better (untested 5) station_four (0 ∷ 0 ∷ 0 ∷ 0 ∷ []) d (_, _, _, refl)).sound.limit 1 0 line_one (omega arith) in
    omega arith

-- `sound.balance`: N = 2, D = 1
untested_six : DemandTwo (untested 6) station_h_two → ⊥
unfolding limited within_site balanced sound earliest
untested_six d =
    let h : 2 ≤ 1
    = (offer_better (untested 6) station_h_two (0 ∷ 0 ∷ []) d (_, _, _, refl)
    ).sound.balance 1 2 0 line_one line_two (omega arith) in
    omega arith

-- `less_late`: the held plan itself
untested_seven : DemandTwo (untested 7) station_h → ⊥
unfolding limited within_site balanced sound earliest
untested_seven d =
    let h : 5 < 5 = (offer_better (untested 7) station_h (0 ∷ 10 ∷ []) d (_, _, _, refl)).less_late in omega arith

-- `sound.site`: W = 1, and the second feeder draws 1
tested_alone_lem : DemandTwo tested_alone station_beside → ⊥
unfolding limited within_site balanced sound judged
tested_alone_lem d =
    let h : 2 ≤ 1 = (offer_better tested_alone station_beside (0 ∷ []) d (_, _, _, refl)).sound.site 0 (omega arith) in omega arith

-- `taken`, the other way round
never_taken_lem : DemandTwo never_taken station_h → ⊥
unfolding limited within_site balanced sound earliest judged offering
never_taken_lem d =
    let right : DemandTwo step station_h = subst (DemandTwo step) h_reached (demand_two (one_feeder 1 100 0) orders_h) in
    not_taken 6 5 5 0 ((d.offers 1 offer_j).taken.1 ((right.offers 1 offer_j).taken.0 (_, _, _, refl)))

-- What an offer leaves

-- `waiting_starts`
taken_later_lem : DemandTwo taken_later station_h → ⊥
unfolding limited within_site balanced sound earliest judged offering
taken_later_lem d =
    let h : ◌≡◌ {A = List ℕ} (11 ∷ 1 ∷ []) (10 ∷ 0 ∷ [])
    = (offer_given taken_later station_h offer_j d (_, _, _, refl)).waiting_starts in
    let z : ◌≡◌ {A = ℕ} 11 10 = cc in
    omega arith

-- `begun_same`: ticket 1 ends at 10
begun_put_off_lem : DemandTwo begun_put_off begun_and_waiting → ⊥
unfolding limited within_site balanced sound earliest judged offering
begun_put_off_lem d =
    let h : ◌≡◌ {A = ℕ} 11 10
    = ap last_end (offer_given begun_put_off begun_and_waiting (12 ∷ 2 ∷ []) d (_, _, _, refl)).begun_same in
    omega arith

-- `charges_same`: the count of line 2 in minute 0
line_changed_lem : DemandTwo line_changed station_h → ⊥
unfolding limited within_site balanced sound earliest judged offering
line_changed_lem d =
    let h : ◌≡◌ {A = ℕ} 2 0
    = ap (λ (cs : List Charge). count (loads_of cs) 2 0)
    (offer_given line_changed station_h offer_j d (_, _, _, refl)).charges_same in
    omega arith

-- `charges_same`: the count of line 1 in minute 0, with every start 0
rate_lost_lem : DemandTwo rate_lost station_rated → ⊥
unfolding limited within_site balanced sound earliest judged offering
rate_lost_lem d =
    let h : ◌≡◌ {A = ℕ} 3 5
    = ap (λ (cs : List Charge). count (loads_of cs) 1 0)
    (offer_given rate_lost station_rated (10 ∷ 20 ∷ 0 ∷ []) d (_, _, _, refl)).charges_same in
    omega arith

-- `station_same`
taken_for_ticket_lem : DemandTwo taken_for_ticket station_h → ⊥
unfolding limited within_site balanced sound earliest judged offering
taken_for_ticket_lem d =
    let h : ◌≡◌ {A = ℕ} 4 3
    = ap (λ (s : State). s.next) (offer_given taken_for_ticket station_h offer_j d (_, _, _, refl)).station_same in
    omega arith

-- `unchanged`
kept_for_ticket_lem : DemandTwo kept_for_ticket station_h → ⊥
unfolding limited within_site balanced sound earliest judged offering
kept_for_ticket_lem d =
    let h : ◌≡◌ {A = ℕ} 4 3
    = ap (λ (s : State). s.next) ((d.offers 1 (0 ∷ 10 ∷ [])).unchanged (λ t. not_taken 6 5 5 0 t)) in
    omega arith

-- `same_list_lem`
offer_cleared_lem : DemandTwo offer_cleared station_h → ⊥
unfolding limited within_site balanced sound earliest judged offering
offer_cleared_lem d = let h : ◌≡◌ {A = ℕ} 0 2 = ap (length {A = ℕ}) (d.offers 1 offer_j).same_list_lem in omega arith

-- `answer`: the held plan is late by 7, up to its end at 22
late_with_tails_lem : DemandTwo late_with_tails station_tailed → ⊥
unfolding limited within_site balanced sound earliest judged offering
late_with_tails_lem d =
    let h : planned 0 9 0 0 ≡ planned 0 7 0 0 = (d.offers 1 (12 ∷ 0 ∷ [])).answer (refl, (refl, tt)) in
    let z : ◌≡◌ {A = ℕ} 9 7 = cc in
    omega arith

-- Replans

-- `answer`: case h is taken
always_kept_lem : DemandTwo always_kept station_h → ⊥
unfolding limited within_site balanced sound earliest place_all latest judged
always_kept_lem d =
    let h : planned 7 5 5 0 ≡ planned 0 5 5 0 = (d.replans_latest 1).answer (refl, tt) in
    let z : ◌≡◌ {A = ℕ} 7 0 = cc in
    omega arith

-- `answer`: case l, one round, cause 7
spent_after_none_lem : DemandTwo spent_after_none station → ⊥
unfolding limited within_site balanced sound earliest first_unbalanced fading weights weight_of first_fit picked place_on round rounds_from by_lines judged
spent_after_none_lem d =
    let h : planned 2 0 0 0 ≡ planned 7 0 0 1 = (d.replans_lines 1 1).answer (refl, (refl, tt)) in
    let z : ◌≡◌ {A = ℕ} 2 7 = cc in
    omega arith

-- `answer`: by lines the short charge goes first, and the plan is taken
latest_start_in_lines : DemandTwo by_latest_start_in_lines station_short → ⊥
unfolding limited within_site balanced sound earliest first_unbalanced place_all latest fading weights weight_of first_fit picked place_on round rounds_from by_lines judged
latest_start_in_lines d =
    let h : planned 7 8 8 1 ≡ planned 0 8 8 1 = (d.replans_lines 1 1).answer (refl, (refl, tt)) in
    let z : ◌≡◌ {A = ℕ} 7 0 = cc in
    omega arith

rounds_invented_lem : DemandTwo rounds_invented station → ⊥
unfolding limited within_site balanced sound earliest first_unbalanced fading weights weight_of first_fit picked place_on round rounds_from by_lines judged
rounds_invented_lem d =
    let h : planned 7 0 0 3 ≡ planned 7 0 0 1 = (d.replans_lines 1 3).answer (refl, (refl, tt)) in
    let z : ◌≡◌ {A = ℕ} 3 1 = cc in
    omega arith

pub plans_excluded : WrongPlansAreExcluded
plans_excluded = (
  untested_three,
  untested_four,
  untested_five,
  untested_six,
  untested_seven,
  tested_alone_lem,
  never_taken_lem,
  taken_later_lem,
  begun_put_off_lem,
  line_changed_lem,
  rate_lost_lem,
  taken_for_ticket_lem,
  kept_for_ticket_lem,
  offer_cleared_lem,
  late_with_tails_lem,
  always_kept_lem,
  spent_after_none_lem,
  latest_start_in_lines,
  rounds_invented_lem,
)
