-- Of any one call more.
use mathlib.Core.Path.{sym, subst}
use Rattle.rules.specs.Calls.{Result, refusals, lent}
use Rattle.guarantee.specs.DemandOne.{NoneApplies, RefusedBy, AnswerTo}
use Rattle.station.specs.View.{view}
use Rattle.theorem.specs.Theorem.{call_made, left}
use Rattle.theorem.specs.AfterCalls.{ForAnyCalls}
use Rattle.theorem.specs.EveryCall.{CallRefusedByTheTable, OthersAnswered, StartsAndPlans}
use Rattle.theorem.proofs.Chains.{theorem}

pub call_refused : ForAnyCalls CallRefusedByTheTable
call_refused x answer first opens calls chain m meets =
    let g = theorem x answer first opens calls chain in
    subst
    (λ (r : Result). RefusedBy (refusals (view (left first calls)) (call_made m)) (view (left first calls)) (lent (call_made m)) r)
    (sym (g.next m meets))
    (g.one (call_made m)).refused_by

pub others_answered : ForAnyCalls OthersAnswered
others_answered x answer first opens calls chain m meets =
    let g = theorem x answer first opens calls chain in
    subst
    (λ (r : Result). NoneApplies (refusals (view (left first calls)) (call_made m)) → AnswerTo (call_made m) r.answer)
    (sym (g.next m meets))
    (g.one (call_made m)).answered

pub starts_and_plans : ForAnyCalls StartsAndPlans
starts_and_plans x answer first opens calls chain = (theorem x answer first opens calls chain).two
