-- Demand 2 is false of these wrong stations for what they make of a preview or a commit, each after a list of calls.
use mathlib.Core.Path.{◌≡◌, refl, sym, ap, subst, ◌∙◌}
use Prim.Native.Nat.{ℕ, ◌≤◌}
use mathlib.Core.Bool.{true, false, false≢true}
use Rattle.rules.specs.Basics.{first_of}
use native.Mathlib.Omega.{arith}
use lib.ListN.{length}
use Rattle.rules.specs.Load.{limited, within_site, balanced, sound}
use Rattle.rules.specs.Charge.{loads_of, last_end}
use Rattle.rules.specs.Search.{added, earliest}
use Rattle.rules.specs.Site.{State, charges_on}
use Rattle.rules.specs.Calls.{refused, previewed, committed, waiting, draw_for, refusals, preview, commit, committing}
use Rattle.rules.proofs.Granted.{refusals_none}
use Rattle.guarantee.specs.Past.{Gives}
use Rattle.guarantee.specs.DemandTwo.{EarliestStart, CommitStart, DemandTwo}
use Rattle.excluded.specs.WrongRefusals.{other_number}
use Rattle.excluded.specs.WrongOrders.{own_line_only, limit_ignored, queued, last_end_shown, shown_as_waiting, preview_takes_ticket, preview_writes, any_sound_start, shown_ignored, shown_before_taken, other_ticket, others_put_off, own_feeder_only}
use Rattle.excluded.specs.WrongMoves.{slow_clock}
use Rattle.excluded.specs.Starts.{is_earliest}
use Rattle.excluded.specs.Stations.{station, station_five, station_three, station_two, station_h, station_pair}
use Rattle.excluded.specs.LawsOfWrongPlans.{WrongOrdersAreExcluded}
use Rattle.excluded.proofs.Refuting.{line_one, line_two}
use Rattle.excluded.proofs.TestsMinutes.{plan_tests}
use Rattle.excluded.proofs.TestsStarts.{earliest_tests}

-- Previews

-- what demand 2 says of a preview that shows the start u
module _
    (gives : Gives) (s : State) (f line p d rate u : ℕ) (demand : DemandTwo gives s)
    (free : first_of (refusals s (preview f line p d rate)) ≡ 0)
    (shows : (gives s (preview f line p d rate)).answer ≡ previewed u)
  where
    preview_earliest : EarliestStart s f (draw_for s f line p rate) u
    preview_earliest = go ((demand.previews f line p d rate).answer (refusals_none s (preview f line p d rate) free))
      where
        go :
            (start : ℕ) × ((gives s (preview f line p d rate)).answer ≡ previewed start) × EarliestStart s f (draw_for s f line p rate) start
            → EarliestStart s f (draw_for s f line p rate) u
        go (start, e, h) = let same : start ≡ u = cc in subst (EarliestStart s f (draw_for s f line p rate)) same h

-- `answer`
shown_as_waiting_lem : DemandTwo shown_as_waiting station → ⊥
shown_as_waiting_lem d = go ((d.previews 1 1 10 60 1).answer (refusals_none station (preview 1 1 10 60 1) refl))
  where
    go : (u : ℕ) × (waiting 0 1 ≡ previewed u) × EarliestStart station 1 (draw_for station 1 1 10 1) u → ⊥
    go (u, e, h) = let z : ◌≡◌ {A = ℕ} 0 1 = cc in omega arith

-- `not_early`: the clock is 5
slow_clock_lem : DemandTwo slow_clock station_five → ⊥
unfolding limited within_site balanced sound earliest
slow_clock_lem d = let h : 5 ≤ 4 = (preview_earliest slow_clock station_five 1 1 10 60 1 4 d refl refl).not_early in omega arith

-- `sound.limit`: N = 1
limit_ignored_lem : DemandTwo limit_ignored station_three → ⊥
unfolding limited within_site balanced sound earliest
limit_ignored_lem d =
    let h : 2 ≤ 1
    = (preview_earliest limit_ignored station_three 1 1 10 60 1 0 d refl refl
    ).sound.limit 1 0 line_one (omega arith) in
    omega arith

-- `sound.balance`: N = 2, D = 1
own_line_only_lem : DemandTwo own_line_only station_two → ⊥
own_line_only_lem d =
    let h : 2 ≤ 1
    = (preview_earliest own_line_only station_two 1 1 10 60 1 0 d refl refl
    ).sound.balance 1 2 0 line_one line_two (omega arith) in
    omega arith

-- `earliest`: an order on line 2 can start at 0, beside those of line 1
starts_at_zero : EarliestStart station_h 1 (draw_for station_h 1 2 10 1) 20 → ⊥
unfolding limited balanced
starts_at_zero e =
    let h : 20 ≤ 0
    = e.earliest 0 (omega arith)
    ((plan_tests station_h 1 (added (loads_of (charges_on station_h 1)) (draw_for station_h 1 2 10 1) 0)).0 refl) in
    omega arith

queued_order : DemandTwo queued station_h → ⊥
queued_order d = starts_at_zero (preview_earliest queued station_h 1 2 10 60 1 20 d refl refl)

last_end_shown_lem : DemandTwo last_end_shown station_h → ⊥
last_end_shown_lem d = starts_at_zero (preview_earliest last_end_shown station_h 1 2 10 60 1 20 d refl refl)

-- `sound.site`: W = 1, and the first feeder draws 1
own_feeder_only_lem : DemandTwo own_feeder_only station_pair → ⊥
unfolding limited within_site balanced sound earliest
own_feeder_only_lem d =
    let h : 2 ≤ 1 = (preview_earliest own_feeder_only station_pair 2 1 10 60 1 0 d refl refl).sound.site 0 (omega arith) in omega arith

-- `same_station`
preview_takes_ticket_lem : DemandTwo preview_takes_ticket station → ⊥
preview_takes_ticket_lem d =
    let h : ◌≡◌ {A = ℕ} 2 1 = ap (λ (s : State). s.next) (d.previews 1 1 10 60 1).same_station in omega arith

-- `same_list_lem`
preview_writes_lem : DemandTwo preview_writes station → ⊥
preview_writes_lem d =
    let h : ◌≡◌ {A = ℕ} 1 0 = ap (length {A = ℕ}) (d.previews 1 1 10 60 1).same_list_lem in omega arith

-- Commits

-- what demand 2 says of a commit, where the test says that the start shown is the earliest, and where it says that it is not
module _
    (gives : Gives) (s : State) (f line p d rate shown : ℕ) (demand : DemandTwo gives s)
    (free : first_of (refusals s (preview f line p d rate)) ≡ 0)
  where
    commit_start : CommitStart s f line p d rate shown (gives s (commit f line p d rate shown))
    commit_start = demand.commits f line p d rate shown (refusals_none s (preview f line p d rate) free)

    commit_earliest : is_earliest s f (draw_for s f line p rate) shown ≡ true → EarliestStart s f (draw_for s f line p rate) shown
    commit_earliest e = (earliest_tests s f (draw_for s f line p rate) shown).0 e

    commit_refused : is_earliest s f (draw_for s f line p rate) shown ≡ false → (gives s (commit f line p d rate shown)).answer ≡ refused 16
    commit_refused e =
        commit_start.refusal (λ h. false≢true (sym e ∙ (earliest_tests s f (draw_for s f line p rate) shown).1 h))

-- `answer`: the first ticket is 1
other_ticket_lem : DemandTwo other_ticket station → ⊥
unfolding limited within_site balanced sound earliest committing
other_ticket_lem d =
    let h : committed 2 0 ≡ committed 1 0
    = (commit_start other_ticket station 1 1 10 60 1 0 d refl).answer.1 (commit_earliest other_ticket station 1 1 10 60 1 0 d refl refl) in
    let z : ◌≡◌ {A = ℕ} 2 1 = cc in
    omega arith

-- `refusal`: 3 is sound, and 0 the earliest
other_number_lem : DemandTwo other_number station → ⊥
unfolding limited within_site balanced sound earliest
other_number_lem d =
    let h : refused 14 ≡ refused 16 = commit_refused other_number station 1 1 10 60 1 3 d refl refl in
    let z : ◌≡◌ {A = ℕ} 14 16 = cc in
    omega arith

shown_ignored_lem : DemandTwo shown_ignored station → ⊥
unfolding limited within_site balanced sound earliest
shown_ignored_lem d =
    let h : committed 1 0 ≡ refused 16 = commit_refused shown_ignored station 1 1 10 60 1 3 d refl refl in
    let z : ◌≡◌ {A = ℕ} 0 1 = cc in
    omega arith

any_sound_start_lem : DemandTwo any_sound_start station → ⊥
unfolding limited within_site balanced sound earliest committing
any_sound_start_lem d =
    let h : committed 1 3 ≡ refused 16 = commit_refused any_sound_start station 1 1 10 60 1 3 d refl refl in
    let z : ◌≡◌ {A = ℕ} 0 1 = cc in
    omega arith

-- `refusal`: the clock is 5
shown_before_taken_lem : DemandTwo shown_before_taken station_five → ⊥
unfolding limited within_site balanced sound earliest committing
shown_before_taken_lem d =
    let h : committed 1 0 ≡ refused 16 = commit_refused shown_before_taken station_five 1 1 10 60 1 0 d refl refl in
    let z : ◌≡◌ {A = ℕ} 0 1 = cc in
    omega arith

-- `others_same`: ticket 2 ends at 20
others_put_off_lem : DemandTwo others_put_off station_h → ⊥
unfolding limited within_site balanced sound earliest committing
others_put_off_lem d =
    let h : ◌≡◌ {A = ℕ} 21 20
    = ap (λ (s : State). last_end (charges_on s 1))
    ((commit_start others_put_off station_h 1 2 10 60 1 0 d refl).others_same
    (commit_earliest others_put_off station_h 1 2 10 60 1 0 d refl refl)) in
    omega arith

pub orders_excluded : WrongOrdersAreExcluded
orders_excluded = (
  shown_as_waiting_lem,
  slow_clock_lem,
  limit_ignored_lem,
  own_line_only_lem,
  queued_order,
  last_end_shown_lem,
  own_feeder_only_lem,
  preview_takes_ticket_lem,
  preview_writes_lem,
  other_ticket_lem,
  other_number_lem,
  shown_ignored_lem,
  any_sound_start_lem,
  shown_before_taken_lem,
  others_put_off_lem,
)
