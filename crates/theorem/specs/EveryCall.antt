-- What holds of any one call more, made to the station that any calls left.
use Rattle.rules.specs.Calls.{refusals, lent, step}
use Rattle.guarantee.specs.DemandOne.{NoneApplies, RefusedBy, AnswerTo}
use Rattle.guarantee.specs.DemandTwo.{DemandTwo}
use Rattle.station.specs.View.{view}
use Rattle.theorem.specs.Theorem.{Made, MeetsApply, call_made, given, left}
use Rattle.theorem.specs.AfterCalls.{About}

-- It is refused with a number exactly when that is the number of the first condition of its table that applies, and leaves then the station
-- and every list.
abbrev pub CallRefusedByTheTable : About
CallRefusedByTheTable x first calls =
    let s = view (left first calls) in
    (m : Made) → MeetsApply (left first calls) m → RefusedBy (refusals s (call_made m)) s (lent (call_made m)) (given m)

-- One of which no condition applies gets an answer of its own kind.
abbrev pub OthersAnswered : About
OthersAnswered x first calls =
    (m : Made)
    → MeetsApply (left first calls) m
    → NoneApplies (refusals (view (left first calls)) (call_made m))
    → AnswerTo (call_made m) (given m).answer

-- Which start a preview shows and a commit gives, which plans are taken, what a board shows and when an order can be withdrawn; `step` is what
-- a call gives (`next` of every_answer).
abbrev pub StartsAndPlans : About
StartsAndPlans x first calls = DemandTwo step (view (left first calls))
