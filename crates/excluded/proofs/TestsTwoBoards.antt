-- The test of each field of demand 2 for boards is true exactly where the field holds, and the fields one by one are what
-- demand 2 says of a board.
use Rattle.guarantee.specs.DemandTwo.{BoardShown}
use Rattle.excluded.specs.FieldsTwoBoards.{Field, answer, shown, same_station, Trial, call_of, result_of, answer_of, list_of, Holds}
use Rattle.excluded.specs.LawsOfFields.{BoardIsItsFields}
use Rattle.excluded.specs.LawsOfTests.{BoardsAreTested}
use Rattle.excluded.proofs.Tests.{free_tests}
use Rattle.excluded.proofs.Same.{same_list_lem, same_answer_lem, same_state_lem}

pub boards_tested : BoardsAreTested
boards_tested r answer = free_tests r.station (call_of r) (same_answer_lem (result_of r).answer (answer_of r))
boards_tested r shown = free_tests r.station (call_of r) (same_list_lem (result_of r).list (list_of r))
boards_tested r same_station = same_state_lem (result_of r).state r.station

-- The fields one by one

module _ (r : Trial) where
  abbrev Whole : Type 0
  Whole = BoardShown r.gives r.station r.asked r.list (result_of r)

  field_holds : Whole → (f : Field) → Holds r f
  field_holds o answer = o.answer
  field_holds o shown = o.shown
  field_holds o same_station = o.same_station

pub board_fields : BoardIsItsFields
board_fields r = (
  field_holds r,
  (λ h. record { answer = h answer; shown = h shown; same_station = h same_station }),
)
