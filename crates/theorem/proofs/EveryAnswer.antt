-- Of answers, lists and stations.
use Rattle.theorem.specs.AfterCalls.{ForAnyCalls}
use Rattle.theorem.specs.EveryAnswer.{AnswersByTheRules, NextByTheRules, StationsValid, OtherListsStay, RefusedLeavesTheStation}
use Rattle.theorem.proofs.Chains.{theorem}

pub answers_by_the_rules : ForAnyCalls AnswersByTheRules
answers_by_the_rules x answer first opens calls chain = (theorem x answer first opens calls chain).answers

pub next_by_the_rules : ForAnyCalls NextByTheRules
next_by_the_rules x answer first opens calls chain = (theorem x answer first opens calls chain).next

pub stations_valid : ForAnyCalls StationsValid
stations_valid x answer first opens calls chain =
    let g = theorem x answer first opens calls chain in
    (g.first_valid, g.valid)

pub other_lists_stay : ForAnyCalls OtherListsStay
other_lists_stay x answer first opens calls chain = (theorem x answer first opens calls chain).stays

pub refused_leaves : ForAnyCalls RefusedLeavesTheStation
refused_leaves x answer first opens calls chain = (theorem x answer first opens calls chain).unchanged
