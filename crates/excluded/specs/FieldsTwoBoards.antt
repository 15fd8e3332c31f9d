-- The fields of demand 2 for boards one by one, and a test of each that computes. It is true exactly where the field holds:
-- `boards_tested` in proofs/TestsTwoBoards.antt.
use Rattle.std.specs.Prelude.{◌≡◌, ℕ, Bool, List, [], ◌∷◌, map, leb, length}
use Rattle.rules.specs.Basics.{keep}
use Rattle.rules.specs.Site.{State, site_charges}
use Rattle.rules.specs.Calls.{Answer, looked, Result, Call, enquire, board, written}
use Rattle.guarantee.specs.Past.{Gives}
use Rattle.guarantee.specs.DemandTwo.{shown_by, highest}
use Rattle.excluded.specs.Same.{same_list, same_answer, same_state}
use Rattle.excluded.specs.Free.{Free, free}

-- of `BoardShown`
pub data Field : Type 0 where
  answer : Field
  shown : Field
  same_station : Field

abbrev pub fields : List Field
fields = answer ∷ shown ∷ same_station ∷ []

-- the place of a field in that list
abbrev pub place : Field → ℕ
place answer = 0
place shown = 1
place same_station = 2

-- a board on a station
pub record Trial : Type 0 where
  pub gives : Gives
  pub station : State
  pub asked : List ℕ
  pub list : List ℕ

abbrev pub call_of : Trial → Call
call_of r = board r.asked r.list

abbrev pub result_of : Trial → Result
result_of r = r.gives r.station (call_of r)

-- the answer and the list that demand 2 asks for
abbrev pub answer_of : Trial → Answer
answer_of r = looked (length (keep (λ c. leb c.ticket (highest r.asked)) (site_charges r.station)))

abbrev pub list_of : Trial → List ℕ
list_of r = written (map (λ t. shown_by (r.gives r.station (enquire t)).answer) r.asked) r.list

-- what a field says; all together they are what demand 2 says of a board (`board_fields` there)
abbrev pub Holds : Trial → Field → Type 0
Holds r answer = Free r.station (call_of r) ((result_of r).answer ≡ answer_of r)
Holds r shown = Free r.station (call_of r) ((result_of r).list ≡ list_of r)
Holds r same_station = (result_of r).state ≡ r.station

-- The tests

abbrev pub tested : Trial → Field → Bool
tested r answer = free r.station (call_of r) (same_answer (result_of r).answer (answer_of r))
tested r shown = free r.station (call_of r) (same_list (result_of r).list (list_of r))
tested r same_station = same_state (result_of r).state r.station
