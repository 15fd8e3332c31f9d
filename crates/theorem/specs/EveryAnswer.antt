-- That every answer and every list is that of the rules, whatever was asked for and whatever calls were made.
use Rattle.std.specs.Prelude.{◌≡◌, true, map}
use Rattle.rules.specs.Basics.{Each}
use Rattle.rules.specs.Calls.{opening, run, step}
use Rattle.guarantee.specs.Past.{is_refused}
use Rattle.station.specs.View.{view, Valid}
use Rattle.calls.specs.Applied.{answer_of, lends, ListStays}
use Rattle.theorem.specs.Theorem.{Made, MeetsApply, call_made, given, left}
use Rattle.theorem.specs.AfterCalls.{About}

-- Every answer, every list and every station that is shown is that of the rules, one call after another.
abbrev pub AnswersByTheRules : About
AnswersByTheRules x first calls = map given calls ≡ run (opening x).state (map call_made calls)

-- And so is what any further call gives.
abbrev pub NextByTheRules : About
NextByTheRules x first calls =
    (m : Made) → MeetsApply (left first calls) m → given m ≡ step (view (left first calls)) (call_made m)

-- Every station is valid, the first one and each that a call leaves: the only thing that the next call asks is met.
abbrev pub StationsValid : About
StationsValid x first calls = Valid first × Each (λ m. Valid m.station) calls

-- A list that is lent for writing to a call that writes none stays as it was.
abbrev pub OtherListsStay : About
OtherListsStay x first calls = Each (λ m. ListStays (lends m.call) m.list m.written) calls

-- A call that is refused leaves the very station, every place of its arrays.
abbrev pub RefusedLeavesTheStation : About
RefusedLeavesTheStation x first calls =
    (m : Made) → MeetsApply (left first calls) m → is_refused (answer_of m.answer) ≡ true → m.station ≡ left first calls
