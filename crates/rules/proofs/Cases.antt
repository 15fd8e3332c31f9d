-- All cases hold: the checker computes every answer.
use mathlib.Core.Path.{refl}
use Rattle.rules.specs.Load.{limited, within_site, balanced, sound}
use Rattle.rules.specs.Search.{earliest, first_unbalanced}
use Rattle.rules.specs.Candidate.{tested_by}
use Rattle.rules.specs.Priority.{fading, weights, weight_of, first_fit, picked}
use Rattle.rules.specs.Replan.{place_all, latest, place_on, round, rounds_from, by_lines}
use Rattle.rules.specs.Judgement.{judged}
use Rattle.rules.specs.Calls.{opening, previewing, committing, moving, offering, replanning_latest, replanning_lines, enquiring, boarding, withdrawing}
use Rattle.rules.specs.Cases.{CasesHold, StationCasesHold, CandidatesHold, OrderCandidatesHold}

pub cases_hold : CasesHold
unfolding CasesHold limited within_site balanced sound earliest first_unbalanced place_all latest fading weights weight_of first_fit picked place_on round rounds_from by_lines judged opening previewing committing moving offering replanning_latest replanning_lines enquiring boarding withdrawing
cases_hold = refl

pub stations_hold : StationCasesHold
unfolding StationCasesHold limited within_site balanced sound earliest previewing committing withdrawing
stations_hold = refl

pub candidates_hold : CandidatesHold
unfolding CandidatesHold limited within_site balanced tested_by
candidates_hold = refl

pub orders_hold : OrderCandidatesHold
unfolding OrderCandidatesHold limited within_site balanced sound earliest tested_by opening committing withdrawing
orders_hold = refl
