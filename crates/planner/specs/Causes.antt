-- The causes for keeping the held plan, by their numbers.
use Rattle.std.specs.Prelude.{ℕ, Result, Ok, Err}
use Rattle.planner.specs.declared.cause.Cause.{Cause}
use Rattle.planner.specs.declared.cause.Cause.TheVariants.{NoStart, AllowanceSpent, StartBelowClock, EndsLater, AboveLimit, AboveBound, LatenessNotSmaller}

abbrev pub number_of : Cause → ℕ
number_of NoStart = 1
number_of AllowanceSpent = 2
number_of StartBelowClock = 3
number_of EndsLater = 4
number_of AboveLimit = 5
number_of AboveBound = 6
number_of LatenessNotSmaller = 7

-- the number of the cause in an answer, 0 where there is none
abbrev pub cause_in : {A : Type 0} → Result A Cause → ℕ
cause_in (Ok value) = 0
cause_in (Err cause) = number_of cause
