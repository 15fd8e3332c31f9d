-- The refusals by their numbers, and the answers of calls that may be refused.
use Rattle.std.specs.Prelude.{ℕ, Result, Ok, Err}
use Rattle.rules.specs.Calls.{Answer, refused}
use Rattle.refusals.specs.declared.Refusal.{Refusal}
use Rattle.refusals.specs.declared.Refusal.TheVariants.{LimitOutOfRange, PercentAbove100, BoundZero, NoSuchLine, TimeOutOfRange, DueTooLate, TargetTooLate, ReportTooShort, StartsNotAsMany, AllowanceOutOfRange, TargetBelowClock, FeederFull, TicketsSpent, NotHeld, StartChanged, RateOutOfRange, RateTooLarge, TailAboveFive, ImageLength, ImageDamaged, ImageInvalid, TicketsNotRising, AnswersTooShort, AlreadyBegun, RestUnsound, FeederCountOutOfRange, SiteLimitOutOfRange, NoSuchFeeder}

abbrev pub number_of : Refusal → ℕ
number_of LimitOutOfRange = 1
number_of PercentAbove100 = 2
number_of BoundZero = 3
number_of NoSuchLine = 4
number_of TimeOutOfRange = 5
number_of DueTooLate = 6
number_of TargetTooLate = 8
number_of ReportTooShort = 9
number_of StartsNotAsMany = 10
number_of AllowanceOutOfRange = 11
number_of TargetBelowClock = 12
number_of FeederFull = 13
number_of TicketsSpent = 14
number_of NotHeld = 15
number_of StartChanged = 16
number_of RateOutOfRange = 17
number_of RateTooLarge = 18
number_of TailAboveFive = 19
number_of ImageLength = 20
number_of ImageDamaged = 21
number_of ImageInvalid = 22
number_of TicketsNotRising = 23
number_of AnswersTooShort = 24
number_of AlreadyBegun = 25
number_of RestUnsound = 26
number_of FeederCountOutOfRange = 27
number_of SiteLimitOutOfRange = 28
number_of NoSuchFeeder = 29

-- the number of the refusal in an answer, 0 where there is none
abbrev pub refusal_in : {A : Type 0} → Result A Refusal → ℕ
refusal_in (Ok value) = 0
refusal_in (Err refusal) = number_of refusal

-- the answer of the rules: what a call tells where it is not refused, or "its number alone"
abbrev pub answer_by : {A : Type 0} → (A → Answer) → Result A Refusal → Answer
answer_by told (Ok value) = told value
answer_by told (Err refusal) = refused (number_of refusal)
