-- For each field of demand 2 for offers and replans a wrong station and a call for which that field is false, and no other
-- where that can be.
use Rattle.std.specs.Prelude.{ℕ, Bool, List, [], ◌∷◌, ◌++◌, map}
use Rattle.rules.specs.Replan.{starts, latest, Replanned, by_lines}
use Rattle.rules.specs.Site.{State, charges_on, limits_of}
use Rattle.rules.specs.Calls.{offer, replan_latest, replan_lines, step}
use Rattle.guarantee.specs.Past.{Gives}
use Rattle.excluded.specs.WrongPlans.{untested, never_taken, offer_cleared, taken_later, begun_put_off, line_changed, rate_lost, taken_for_ticket, kept_for_ticket, late_with_tails, always_kept, spent_after_none, by_latest_start_in_lines, rounds_invented, tested_alone, first_replanned}
use Rattle.excluded.specs.Stations.{station, station_four, station_h, station_h_two, station_short, station_tailed, station_rated, waiting_since, begun_and_waiting, station_site, station_beside, station_pair_h}
use Rattle.excluded.specs.Breaks.{Entry, agrees_by, only_of}
use Rattle.excluded.specs.FieldsBetter.{Merit, not_before_clock, limit, balance, site, no_later, less_late, merits, rank, Plan, merited}
use Rattle.excluded.specs.FieldsTwoPlans.{Field, taken, waiting_starts, begun_same, charges_same, station_same, unchanged, answer, same_list_lem, fields, place, Trial, tested}

abbrev pub Breach : Type 0
Breach = Entry Trial Field

abbrev pub agrees : Breach → Bool
agrees = agrees_by tested

abbrev only : Trial → List Field → Breach
only = only_of place fields

abbrev offered_on : Gives → State → ℕ → List ℕ → Trial
offered_on gives s f ss =
    record { gives = gives; station = s; feeder = f; call = offer f ss; proposal = starts ss; rounds = 0 }

abbrev offered : Gives → State → List ℕ → Trial
offered gives s ss = offered_on gives s 1 ss

abbrev by_latest_on : Gives → State → ℕ → Trial
by_latest_on gives s f =
    record {
      gives = gives;
      station = s;
      feeder = f;
      call = replan_latest f;
      proposal = latest (limits_of s f) s.clock (charges_on s f);
      rounds = 0;
    }

abbrev by_latest : Gives → State → Trial
by_latest gives s = by_latest_on gives s 1

abbrev by_line : Gives → State → ℕ → Trial
by_line gives s allowance =
    let r : Replanned = by_lines (limits_of s 1) s.clock allowance (charges_on s 1) in
    record {
      gives = gives;
      station = s;
      feeder = 1;
      call = replan_lines 1 allowance;
      proposal = r.proposal;
      rounds = r.rounds;
    }

-- the offer of case j that is taken
abbrev pub offer_j : List ℕ
offer_j = 10 ∷ 0 ∷ []

-- offers that are not better in one thing
abbrev pub plans : List (Entry Plan Merit)
plans =
    only_of rank merits (record { station = waiting_since; feeder = 1; list = 11 ∷ 0 ∷ [] }) (not_before_clock ∷ [])
    ∷ only_of rank merits (record { station = station_h; feeder = 1; list = 11 ∷ 0 ∷ [] }) (no_later ∷ [])
    ∷ only_of rank merits (record { station = station_four; feeder = 1; list = 0 ∷ 0 ∷ 0 ∷ 0 ∷ [] }) (limit ∷ [])
    ∷ only_of rank merits (record { station = station_h_two; feeder = 1; list = 0 ∷ 0 ∷ [] }) (balance ∷ [])
    ∷ only_of rank merits (record { station = station_h; feeder = 1; list = 0 ∷ 10 ∷ [] }) (less_late ∷ [])
    ∷ only_of rank merits (record { station = station_site; feeder = 1; list = 0 ∷ 0 ∷ [] }) (site ∷ [])
    ∷ []

abbrev pub agrees_plan : Entry Plan Merit → Bool
agrees_plan = agrees_by merited

abbrev pub wrong_entries : List Breach
wrong_entries =
    -- a plan that is not better is taken: `taken` follows from `answer` and demand 1, so both break
    -- the start 0 is below the clock, so that ticket 3 is begun and no longer waits
    only (offered (untested 3) waiting_since (11 ∷ 0 ∷ [])) (taken ∷ waiting_starts ∷ begun_same ∷ answer ∷ [])
    ∷ only (offered (untested 4) station_h (11 ∷ 0 ∷ [])) (taken ∷ answer ∷ [])
    ∷ only (offered (untested 5) station_four (0 ∷ 0 ∷ 0 ∷ 0 ∷ [])) (taken ∷ answer ∷ [])
    ∷ only (offered (untested 6) station_h_two (0 ∷ 0 ∷ [])) (taken ∷ answer ∷ [])
    ∷ only (offered (untested 7) station_h (0 ∷ 10 ∷ [])) (taken ∷ answer ∷ [])
    -- a better plan is not taken
    ∷ only (offered never_taken station_h offer_j) (taken ∷ answer ∷ [])
    ∷ only (by_latest always_kept station_h) (taken ∷ answer ∷ [])
    ∷ only (by_line by_latest_start_in_lines station_short 1) (taken ∷ answer ∷ [])
    ∷ only (offered taken_later station_h offer_j) (waiting_starts ∷ [])
    ∷ only (offered begun_put_off begun_and_waiting (12 ∷ 2 ∷ [])) (begun_same ∷ [])
    ∷ only (offered line_changed station_h offer_j) (charges_same ∷ [])
    ∷ only (offered rate_lost station_rated (10 ∷ 20 ∷ 0 ∷ [])) (charges_same ∷ [])
    ∷ only (offered taken_for_ticket station_h offer_j) (station_same ∷ [])
    ∷ only (offered kept_for_ticket station_h (0 ∷ 10 ∷ [])) (unchanged ∷ [])
    ∷ only (offered late_with_tails station_tailed (12 ∷ 0 ∷ [])) (answer ∷ [])
    ∷ only (by_line spent_after_none station 1) (answer ∷ [])
    ∷ only (by_line rounds_invented station 3) (answer ∷ [])
    ∷ only (offered offer_cleared station_h offer_j) (same_list_lem ∷ [])
    -- in minute 0 the second feeder draws all of W
    ∷ only (offered tested_alone station_beside (0 ∷ [])) (taken ∷ answer ∷ [])
    -- the second feeder holds nothing, and the first one gets the plan
    ∷ only (by_latest_on first_replanned station_pair_h 2) (taken ∷ station_same ∷ answer ∷ [])
    ∷ []

-- and the rules themselves for the same calls, where nothing breaks
abbrev by_rules : Trial → Trial
by_rules r =
    record { gives = step; station = r.station; feeder = r.feeder; call = r.call; proposal = r.proposal; rounds = r.rounds }

abbrev pub entries : List Breach
entries = wrong_entries ++ map (λ e. only (by_rules e.thing) []) wrong_entries
