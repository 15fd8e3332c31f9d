-- What a preview and a commit give.
use mathlib.Core.Logic.{◌↔◌}
use mathlib.Core.Path.{◌≡◌, sym, ap, subst, ◌∙◌}
use Prim.Native.Nat.{ℕ, ◌+◌}
use mathlib.Core.Bool.{not}
use mathlib.Core.List.{[], ◌∷◌, ◌++◌}
use native.Mathlib.Omega.{arith}
use native.Mathlib.Numerals.{add-one}
use Rattle.rules.specs.Site.{charges_on, holding}
use Rattle.rules.specs.Calls.{refused, previewed, committed, commit, refusals, order_refusals, is_start, start_for, draw_for, Result, committing}
use Rattle.rules.proofs.Tables.{none_front}
use Rattle.guarantee.specs.DemandOne.{NoneApplies}
use Rattle.guarantee.specs.DemandTwo.{PreviewStart, CommitStart}
use Rattle.guarantee.proofs.DemandTwo.{valid_demand_two}
use Rattle.station.specs.declared.Station.{Station}
use Rattle.station.specs.View.{view, Valid}
use Rattle.ordering.specs.declared.Order.{Order}
use Rattle.calls.specs.declared.Call.TheVariants.{Preview, Commit}
use Rattle.theorem.specs.Theorem.{Made, MeetsApply, given}
use Rattle.theorem.specs.Single.{answer_told, IsGranted}
use Rattle.theorem.specs.Soundness.{IsEarliestStart}
use Rattle.theorem.specs.Ordered.{PreviewShowsTheEarliest, PreviewChangesNothing, IsOrderable, CommitGivesTheEarliest, CommitRefusesAnother, charge_for, CommitAddsOneCharge}
use Rattle.theorem.proofs.Single.{step_of, none_of, granted_of, list_of, very_station}
use Rattle.theorem.proofs.Soundness.{spelled_earliest, earliest_spelled}

module _ (s : Station) (m : Made) (v : Valid s) (meets : MeetsApply s m) (o : Order) where
  module _ (named : m.call ≡ Preview o) where
    shows : PreviewStart (view s) o.feeder o.line o.time o.due o.rate (given m)
    shows =
        subst (λ r. PreviewStart (view s) o.feeder o.line o.time o.due o.rate r)
        (sym (step_of s m v meets (Preview o) named))
        ((valid_demand_two (view s) v.state).previews o.feeder o.line o.time o.due o.rate)

    shows_earliest : IsGranted m → (start : ℕ) × (answer_told m ≡ previewed start) × IsEarliestStart s o start
    shows_earliest free =
        let r = shows.answer (none_of s m v meets (Preview o) named free) in
        (r.0, r.1, spelled_earliest s o r.0 r.2)

    shows_only : (m.station ≡ s) × (m.written ≡ m.list)
    shows_only =
        (very_station s m v meets shows.same_station, list_of s m v meets (Preview o) named shows.same_list_lem)

  module _ (shown : ℕ) (named : m.call ≡ Commit o shown) where
    gives : IsOrderable s o → CommitStart (view s) o.feeder o.line o.time o.due o.rate shown (given m)
    gives none =
        subst (λ r. CommitStart (view s) o.feeder o.line o.time o.due o.rate shown r)
        (sym (step_of s m v meets (Commit o shown) named))
        ((valid_demand_two (view s) v.state).commits o.feeder o.line o.time o.due o.rate shown none)

    gives_earliest : IsOrderable s o → (answer_told m ≡ committed s.next shown) ↔ IsEarliestStart s o shown
    gives_earliest none = (
      (λ e. spelled_earliest s o shown ((gives none).answer.0 e)),
      (λ w. (gives none).answer.1 (earliest_spelled s o shown w)),
    )

    refuses_another : IsOrderable s o → (answer_told m ≡ refused 16) ↔ (IsEarliestStart s o shown → ⊥)
    refuses_another none = (
      (λ e w. apart (sym e ∙ (gives none).answer.1 (earliest_spelled s o shown w))),
      (λ n. (gives none).refusal (λ w. n (spelled_earliest s o shown w))),
    )
      where
        apart : refused 16 ≡ committed s.next shown → ⊥
        apart e = let z : ◌≡◌ {A = ℕ} 0 1 = cc in omega arith

    adds_one :
        IsGranted m
        → (view m.station
        ≡ holding (view s) o.feeder (charges_on (view s) o.feeder ++ (charge_for s o shown ∷ [])) (s.next + 1))
        × (m.written ≡ m.list)
    unfolding committing
    adds_one free =
        let none : NoneApplies (refusals (view s) (commit o.feeder o.line o.time o.due o.rate shown))
        = none_of s m v meets (Commit o shown) named free in
        let orderable : IsOrderable s o =
        (none_front (order_refusals (view s) o.feeder o.line o.time o.due o.rate)
        ((not (is_start (start_for (view s) o.feeder (draw_for (view s) o.feeder o.line o.time o.rate)) shown), 16) ∷ [])
        none).0 in
        let gave = granted_of s m v meets (Commit o shown) named free in
        let taken : answer_told m ≡ committed s.next shown = ap (λ (r : Result). r.answer) gave in (
          (gives orderable).others_same ((gives orderable).answer.0 taken)
              ∙ ap (λ (n : ℕ). holding (view s) o.feeder (charges_on (view s) o.feeder ++ (charge_for s o shown ∷ [])) n)
              (sym (add-one s.next)),
          list_of s m v meets (Commit o shown) named (ap (λ (r : Result). r.list) gave),
        )

pub preview_shows_the_earliest : PreviewShowsTheEarliest
preview_shows_the_earliest s m v meets o named free = shows_earliest s m v meets o named free

pub preview_changes_nothing : PreviewChangesNothing
preview_changes_nothing s m v meets o named = shows_only s m v meets o named

pub commit_gives_the_earliest : CommitGivesTheEarliest
commit_gives_the_earliest s m v meets o shown named none = gives_earliest s m v meets o shown named none

pub commit_refuses_another : CommitRefusesAnother
commit_refuses_another s m v meets o shown named none = refuses_another s m v meets o shown named none

pub commit_adds_one_charge : CommitAddsOneCharge
commit_adds_one_charge s m v meets o shown named free = adds_one s m v meets o shown named free
