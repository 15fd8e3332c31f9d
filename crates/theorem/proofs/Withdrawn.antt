-- What a withdrawal gives.
use mathlib.Core.Logic.{◌↔◌}
use mathlib.Core.Path.{◌≡◌, sym, subst, ◌∙◌}
use Prim.Native.Nat.{ℕ, ◌≤◌}
use mathlib.Core.Bool.{◌&&◌}
use native.Mathlib.Numerals.{add-one}
use lib.ListN.{length}
use Rattle.rules.specs.Charge.{is_waiting, loads_of, has_ticket}
use Rattle.rules.specs.Site.{charges_on, site_charges}
use Rattle.guarantee.specs.DemandTwo.{Waits, Withdrawal}
use Rattle.guarantee.proofs.DemandTwo.{valid_demand_two}
use Rattle.station.specs.declared.Station.{Station}
use Rattle.station.specs.View.{view, Valid}
use Rattle.calls.specs.declared.Call.TheVariants.{Withdraw}
use Rattle.theorem.specs.Theorem.{Made, MeetsApply, given}
use Rattle.theorem.specs.Single.{OfSome}
use Rattle.theorem.specs.Withdrawn.{holder, rest_of_plan, WaitingIsWithdrawn, OthersStayHeld, PlaceIsFree, RefusedStaysHeld}
use Rattle.theorem.proofs.Conditions.{some_is, both_is, equal_is, waits_is}
use Rattle.theorem.proofs.Single.{step_of, very_station}
use Rattle.theorem.proofs.Soundness.{spelled_sound, sound_spelled}

-- a charge waits with the ticket
waits_spelled :
    (s : Station) (ticket : ℕ)
    → Waits (view s) ticket ↔ OfSome (λ c. (c.ticket ≡ ticket) × (s.clock ≤ c.start)) (site_charges (view s))
waits_spelled s ticket =
    some_is (λ c. has_ticket ticket c && is_waiting s.clock c) (λ c. (c.ticket ≡ ticket) × (s.clock ≤ c.start))
    (λ c. both_is (has_ticket ticket c) (is_waiting s.clock c) (equal_is c.ticket ticket) (waits_is c.start s.clock))
    (site_charges (view s))

module _ (s : Station) (m : Made) (v : Valid s) (meets : MeetsApply s m) (ticket : ℕ) (named : m.call ≡ Withdraw ticket) where
  gives : Withdrawal (view s) (holder s ticket) ticket (given m)
  gives =
      subst (λ r. Withdrawal (view s) (holder s ticket) ticket r) (sym (step_of s m v meets (Withdraw ticket) named))
      ((valid_demand_two (view s) v.state).withdrawals ticket)

pub waiting_is_withdrawn : WaitingIsWithdrawn
waiting_is_withdrawn s m v meets ticket named =
    let w = gives s m v meets ticket named in (
      (λ e.
          let p = w.removed.0 e in
          ((waits_spelled s ticket).0 p.0, spelled_sound s (holder s ticket) (loads_of (rest_of_plan s ticket)) p.1)),
      (λ p.
          w.removed.1
          ((waits_spelled s ticket).1 p.0, sound_spelled s (holder s ticket) (loads_of (rest_of_plan s ticket)) p.1)),
    )

pub others_stay_held : OthersStayHeld
others_stay_held s m v meets ticket named e = (gives s m v meets ticket named).others_same e

pub place_is_free : PlaceIsFree
place_is_free s m v meets ticket named e =
    add-one (length (charges_on (view m.station) (holder s ticket))) ∙ (gives s m v meets ticket named).place_free e

pub refused_stays_held : RefusedStaysHeld
refused_stays_held s m v meets ticket named n =
    very_station s m v meets ((gives s m v meets ticket named).unchanged n)
