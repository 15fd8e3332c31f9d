-- What a single call of a valid station gave is one step of the rules, so that what they promise holds of it.
use mathlib.Core.Path.{◌≡◌, refl, sym, ap, subst, ◌∙◌}
use Prim.Native.Nat.{ℕ, zero, suc}
use mathlib.Core.Bool.{false, true≢false}
use Rattle.rules.specs.Basics.{first_of}
use Rattle.rules.specs.Site.{State}
use Rattle.rules.specs.Calls as rules
use Rattle.rules.specs.Calls.{Result, answering, refusals, lent, granted, step}
use Rattle.rules.proofs.Tables.{none_first_of}
use Rattle.rules.proofs.Granted.{refusals_none}
use Rattle.guarantee.specs.Past.{is_refused}
use Rattle.guarantee.specs.DemandOne.{NoneApplies, RefusedBy, AnswerTo}
use Rattle.guarantee.proofs.DemandOne.{valid_demand_one}
use Rattle.station.specs.declared.Station.{Station}
use Rattle.station.specs.View.{view, Valid}
use Rattle.calls.specs.declared.Call.{Call}
use Rattle.calls.specs.declared.Call.TheVariants.{Preview, Commit, Move, Offer, ReplanLatest, ReplanLines, Enquire, Board, Withdraw}
use Rattle.calls.specs.Applied.{call_of, lends, list_after, ListStays}
use Rattle.theorem.specs.Theorem.{Made, MeetsApply, call_made, given}
use Rattle.theorem.specs.Single.{IsGranted, tests}
use Rattle.theorem.proofs.Determined.{view_determines}

-- a call that is not refused meets no test of its table
step_none : (s : State) (c : rules.Call) → is_refused (step s c).answer ≡ false → NoneApplies (refusals s c)
step_none s c = go (first_of (refusals s c)) refl
  where
    go :
        (i : ℕ)
        → first_of (refusals s c) ≡ i
        → is_refused (answering i s (lent c) (granted s c)).answer ≡ false
        → NoneApplies (refusals s c)
    go zero e free = refusals_none s c e
    go (suc i) e free = absurd (true≢false free)

module _ (s : Station) (m : Made) (v : Valid s) (meets : MeetsApply s m) where
  pub made_step : given m ≡ step (view s) (call_made m)
  made_step = (meets v).gives.result

  pub of_step : (P : Result → Type 0) → P (step (view s) (call_made m)) → P (given m)
  of_step P p = subst P (sym made_step) p

  -- the same view is the very station
  pub very_station : view m.station ≡ view s → m.station ≡ s
  very_station e = view_determines m.station s (meets v).gives.valid.formed v.formed e

  pub refused_by : RefusedBy (tests s m) (view s) (lent (call_made m)) (given m)
  refused_by =
      of_step (λ r. RefusedBy (tests s m) (view s) (lent (call_made m)) r)
      (valid_demand_one (view s) v.state (call_made m)).refused_by

  pub answered : NoneApplies (tests s m) → AnswerTo (call_made m) (given m).answer
  answered =
      of_step (λ r. NoneApplies (tests s m) → AnswerTo (call_made m) r.answer)
      (valid_demand_one (view s) v.state (call_made m)).answered

  -- the list that the call may write is as it was, where the rules say so of the list lent to it
  pub written_stays : (given m).list ≡ lent (call_made m) → m.written ≡ m.list
  written_stays = go m.call (meets v).stays
    where
      go :
          (c : Call)
          → ListStays (lends c) m.list m.written
          → list_after c m.numbers m.written ≡ lent (call_of c m.numbers m.list)
          → m.written ≡ m.list
      go (Preview o) stays e = stays
      go (Commit o shown) stays e = stays
      go (Move target) stays e = e
      go (Offer f) stays e = stays
      go (ReplanLatest f) stays e = stays
      go (ReplanLines f allowance) stays e = stays
      go (Enquire ticket) stays e = stays
      go Board stays e = e
      go (Withdraw ticket) stays e = stays

  -- a call that is named
  module _ (c : Call) (named : m.call ≡ c) where
    pub made_of : call_made m ≡ call_of c m.numbers m.list
    made_of = ap (λ x. call_of x m.numbers m.list) named

    pub step_of : given m ≡ step (view s) (call_of c m.numbers m.list)
    step_of = made_step ∙ ap (λ x. step (view s) x) made_of

    pub none_of : IsGranted m → NoneApplies (refusals (view s) (call_of c m.numbers m.list))
    none_of free =
        step_none (view s) (call_of c m.numbers m.list) (sym (ap (λ (r : Result). is_refused r.answer) step_of) ∙ free)

    pub granted_of : IsGranted m → given m ≡ granted (view s) (call_of c m.numbers m.list)
    granted_of free =
        step_of
        ∙ ap
        (λ (i : ℕ).
        answering i (view s) (lent (call_of c m.numbers m.list)) (granted (view s) (call_of c m.numbers m.list)))
        (none_first_of (refusals (view s) (call_of c m.numbers m.list)) (none_of free))

    pub list_of : (given m).list ≡ lent (call_of c m.numbers m.list) → m.written ≡ m.list
    list_of e = written_stays (e ∙ sym (ap (λ x. lent x) made_of))
