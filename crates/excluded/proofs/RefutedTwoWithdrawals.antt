-- Demand 2 is false of these wrong stations for what they make of a withdrawal, each on one station.
use mathlib.Core.Path.{◌≡◌, refl, ap}
use Prim.Native.Nat.{ℕ, ◌≤◌}
use mathlib.Core.Bool.{false≢true}
use native.Mathlib.Omega.{arith}
use Rattle.rules.specs.Load.{limited, within_site, balanced, sound}
use Rattle.rules.specs.Charge.{loads_of, without_ticket, lateness}
use Rattle.rules.specs.Site.{State, charges_on}
use Rattle.rules.specs.Calls.{refused, withdrawn, withdrawing}
use Rattle.guarantee.specs.DemandTwo.{DemandTwo}
use Rattle.excluded.specs.WrongRefusals.{ticket_used_up}
use Rattle.excluded.specs.WrongWithdrawals.{balance_untested, begun_withdrawn, start_at_clock_refused, others_replanned, ticket_given_again, withdrawn_held}
use Rattle.excluded.specs.Stations.{station_f, station_h}
use Rattle.excluded.specs.LawsOfWrongPlans.{WrongWithdrawalsAreExcluded}
use Rattle.excluded.proofs.Refuting.{line_one, line_two}
use Rattle.excluded.proofs.TestsMinutes.{plan_tests}

-- `removed`: in minute 5 the rest counts 2, 0, 1
balance_untested_lem : DemandTwo balance_untested station_f → ⊥
unfolding limited within_site balanced sound withdrawing
balance_untested_lem d =
    let h : 2 ≤ 1 = ((d.withdrawals 5).removed.0 refl).1.balance 1 2 5 line_one line_two (omega arith) in
    omega arith

-- `removed`: ticket 1 does not wait
begun_withdrawn_lem : DemandTwo begun_withdrawn station_f → ⊥
unfolding limited within_site balanced sound withdrawing
begun_withdrawn_lem d = false≢true ((d.withdrawals 1).removed.0 refl).0

-- `removed`: ticket 1 waits for the clock, and ticket 2 by itself is a sound plan
start_at_clock_refused_lem : DemandTwo start_at_clock_refused station_h → ⊥
unfolding limited within_site balanced sound
start_at_clock_refused_lem d =
    let h : refused 25 ≡ withdrawn
    = (d.withdrawals 1).removed.1 (refl, (plan_tests station_h 1 (loads_of (without_ticket 1 (charges_on station_h 1)))).0 refl) in
    let z : ◌≡◌ {A = ℕ} 0 1 = cc in
    omega arith

-- `others_same`: ticket 2 starts at 0, and is 5 minutes late no more
others_replanned_lem : DemandTwo others_replanned station_h → ⊥
unfolding limited within_site balanced sound withdrawing
others_replanned_lem d =
    let h : ◌≡◌ {A = ℕ} 0 5 = ap (λ (s : State). lateness (charges_on s 1)) ((d.withdrawals 1).others_same refl) in
    omega arith

-- `others_same`: the next ticket is 3
ticket_given_again_lem : DemandTwo ticket_given_again station_h → ⊥
unfolding limited within_site balanced sound withdrawing
ticket_given_again_lem d =
    let h : ◌≡◌ {A = ℕ} 2 3 = ap (λ (s : State). s.next) ((d.withdrawals 1).others_same refl) in
    omega arith

-- `place_free`: two are held
withdrawn_held_lem : DemandTwo withdrawn_held station_h → ⊥
unfolding limited within_site balanced sound withdrawing
withdrawn_held_lem d =
    let h : ◌≡◌ {A = ℕ} 3 2 = (d.withdrawals 1).place_free refl in
    omega arith

-- `unchanged`: ticket 1 has begun
ticket_used_up_lem : DemandTwo ticket_used_up station_f → ⊥
unfolding limited within_site balanced sound
ticket_used_up_lem d =
    let h : ◌≡◌ {A = ℕ} 8 7 = ap (λ (s : State). s.next) ((d.withdrawals 1).unchanged not_withdrawn) in
    omega arith
  where
    not_withdrawn : refused 25 ≡ withdrawn → ⊥
    not_withdrawn e = let z : ◌≡◌ {A = ℕ} 0 1 = cc in omega arith

pub withdrawals_excluded : WrongWithdrawalsAreExcluded
withdrawals_excluded = (
  balance_untested_lem,
  begun_withdrawn_lem,
  start_at_clock_refused_lem,
  others_replanned_lem,
  ticket_given_again_lem,
  withdrawn_held_lem,
  ticket_used_up_lem,
)
