-- The fields of demand 1 one by one, of a call or of an opening, and a test of each that computes. It is true exactly where
-- the field holds: `one_tested` in proofs/TestsOne.antt.
use Rattle.std.specs.Prelude.{◌↔◌, ◌≡◌, ℕ, Bool, true, cond, ◌&&◌, ◌||◌, List, [], ◌∷◌, map}
use Rattle.rules.specs.Site.{State}
use Rattle.rules.specs.Calls.{Asked, least, Answer, refused, opened, previewed, committed, moved, planned, waiting, charging, looked, withdrawn, Result, fresh, open_refusals, Call, preview, commit, move, offer, replan_latest, replan_lines, enquire, board, withdraw, lent, refusals}
use Rattle.guarantee.specs.Past.{Gives, is_refused}
use Rattle.guarantee.specs.DemandOne.{FirstIs, NoneApplies, AnswerTo}
use Rattle.excluded.specs.Same.{where_so, same_list, same_answer, number_in, same_state}
use Rattle.excluded.specs.Free.{none_applies}

pub data Field : Type 0 where
  number : Field
  same_station : Field
  same_list_lem : Field
  answered : Field

abbrev pub fields : List Field
fields = number ∷ same_station ∷ same_list_lem ∷ answered ∷ []

-- the place of a field in that list
abbrev pub place : Field → ℕ
place number = 0
place same_station = 1
place same_list_lem = 2
place answered = 3

-- one call to a station, or one opening
pub data Trial : Type 0 where
  called_on : Gives → State → Call → Trial
  opened_by : (Asked → Result) → Asked → Trial

-- the conditions, the station and the lent list before it, and what it gives
pub record Tried : Type 0 where
  pub rows : List (Bool × ℕ)
  pub station : State
  pub list : List ℕ
  pub result : Result

abbrev pub tried : Trial → Tried
tried (called_on gives s c) = record { rows = refusals s c; station = s; list = lent c; result = gives s c }
tried (opened_by opens x) =
    record { rows = open_refusals x; station = fresh least; list = []; result = opens x }

-- an answer of its own kind
abbrev pub OwnAnswer : Trial → Type 0
OwnAnswer (called_on gives s c) = AnswerTo c (gives s c).answer
OwnAnswer (opened_by opens x) = ((opens x).answer ≡ opened (map (λ g. g.bound) (fresh x).feeders)) × ((opens x).state ≡ fresh x)

-- what a field says; all together they are demand 1 (`one_fields`, `one_opening_fields` in proofs/FieldsOne.antt)
abbrev pub Holds : Trial → Field → Type 0
Holds r number = (k : ℕ) → ((tried r).result.answer ≡ refused k) ↔ FirstIs (tried r).rows k
Holds r same_station = is_refused (tried r).result.answer ≡ true → (tried r).result.state ≡ (tried r).station
Holds r same_list_lem = is_refused (tried r).result.answer ≡ true → (tried r).result.list ≡ (tried r).list
Holds r answered = NoneApplies (tried r).rows → OwnAnswer r

-- The tests

-- the number of a refusal, and that of the first condition that applies; none where there is none
abbrev pub refusal_in : Answer → List ℕ
refusal_in a = cond (is_refused a) (number_in 1 a ∷ []) []

abbrev pub first_in : List (Bool × ℕ) → List ℕ
first_in [] = []
first_in (row ∷ rows) = cond row.0 (row.1 ∷ []) (first_in rows)

-- an answer is of a kind when it is the one of that kind with its own numbers
abbrev pub answers_to : Call → Answer → Bool
answers_to (preview f line p d rate) a = same_answer a (previewed (number_in 1 a))
answers_to (commit f line p d rate shown) a = same_answer a (committed (number_in 1 a) shown)
answers_to (move target list) a = same_answer a (moved (number_in 1 a) (number_in 2 a))
answers_to (offer f ss) a = same_answer a (planned (number_in 1 a) (number_in 2 a) (number_in 3 a) (number_in 4 a))
answers_to (replan_latest f) a = same_answer a (planned (number_in 1 a) (number_in 2 a) (number_in 3 a) (number_in 4 a))
answers_to (replan_lines f allowance) a = same_answer a (planned (number_in 1 a) (number_in 2 a) (number_in 3 a) (number_in 4 a))
answers_to (enquire ticket) a =
    same_answer a (waiting (number_in 1 a) (number_in 2 a))
    || same_answer a (charging (number_in 1 a) (number_in 2 a) (number_in 3 a))
answers_to (board asked list) a = same_answer a (looked (number_in 1 a))
answers_to (withdraw ticket) a = same_answer a withdrawn

abbrev pub own_answer : Trial → Bool
own_answer (called_on gives s c) = answers_to c (gives s c).answer
own_answer (opened_by opens x) =
    same_answer (opens x).answer (opened (map (λ g. g.bound) (fresh x).feeders)) && same_state (opens x).state (fresh x)

abbrev pub tested : Trial → Field → Bool
tested r number = same_list (refusal_in (tried r).result.answer) (first_in (tried r).rows)
tested r same_station =
    where_so (is_refused (tried r).result.answer) (same_state (tried r).result.state (tried r).station)
tested r same_list_lem = where_so (is_refused (tried r).result.answer) (same_list (tried r).result.list (tried r).list)
tested r answered = where_so (none_applies (tried r).rows) (own_answer r)
