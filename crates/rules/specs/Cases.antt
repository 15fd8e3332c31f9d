-- The arrays of worked cases (docs/RULES.md, section 7), and the statements that the rules give what stands there.
use Rattle.std.specs.Prelude.{◌≡◌, List, ◌++◌, map}
use Rattle.rules.specs.Entry.{Case, computed}
use Rattle.rules.specs.CasesAToL.{cases_a_to_l}
use Rattle.rules.specs.CasesAtEdges.{cases_at_edges}
use Rattle.rules.specs.CasesInAHurry.{cases_in_a_hurry}
use Rattle.rules.specs.CasesPreviewed.{cases_previewed}
use Rattle.rules.specs.CasesOfTwoRates.{cases_of_two_rates}
use Rattle.rules.specs.CasesOfPriority.{cases_of_priority}
use Rattle.rules.specs.CasesOnBusyEvenings.{tested_in, cases_on_busy_evenings}
use Rattle.rules.specs.CasesOfCandidates.{order_tested_in, cases_of_candidates}
use Rattle.rules.specs.CasesOfTails.{cases_of_tails}
use Rattle.rules.specs.CasesOnTheBoard.{cases_on_the_board}
use Rattle.rules.specs.CasesOfWithdrawals.{cases_of_withdrawals}
use Rattle.rules.specs.CasesOfFeeders.{cases_of_feeders}
use Rattle.rules.specs.CasesFromStations.{answered, cases_from_stations}

-- one array of inputs and results: cases a to l, those at the edges, and those of each later rule
abbrev pub cases : List Case
cases = cases_a_to_l ++ cases_at_edges ++ cases_in_a_hurry ++ cases_previewed ++ cases_of_two_rates ++ cases_of_priority ++ cases_of_tails ++ cases_on_the_board ++ cases_of_withdrawals ++ cases_of_feeders

-- What the rules give for each entry is what stands in it: every answer, every lent list, and the minutes and queues at the end.
unfoldable pub CasesHold : Type 0
CasesHold = map computed cases ≡ cases

-- So it is for calls on the stations that are written down.
unfoldable pub StationCasesHold : Type 0
StationCasesHold = map answered cases_from_stations ≡ cases_from_stations

-- The test of a candidate start beside loads gives the verdict and the number of minutes that stand there. No call shows the number.
unfoldable pub CandidatesHold : Type 0
CandidatesHold = map tested_in cases_on_busy_evenings ≡ cases_on_busy_evenings

-- So does the test of a candidate start for an order on a station.
unfoldable pub OrderCandidatesHold : Type 0
OrderCandidatesHold = map order_tested_in cases_of_candidates ≡ cases_of_candidates
