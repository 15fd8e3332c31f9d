-- When a call is refused, and what it leaves then, in words.
use Rattle.std.specs.Prelude.{◌↔◌, ◌≡◌, ℕ}
use Rattle.rules.specs.Calls.{refused}
use Rattle.guarantee.specs.DemandOne.{FirstIs, NoneApplies, AnswerTo}
use Rattle.theorem.specs.Theorem.{call_made}
use Rattle.theorem.specs.Single.{OfEveryCall, answer_told, tests, IsRefused, FirstToHold}
use Rattle.theorem.specs.Conditions.{conditions}

-- A call is refused with a number exactly when that is the number of the first test of its table that holds.
abbrev pub RefusedByTheTable : Type 0
RefusedByTheTable = OfEveryCall (λ s m. (k : ℕ) → (answer_told m ≡ refused k) ↔ FirstIs (tests s m) k)

-- And that is the first of the conditions in words.
abbrev pub RefusedForTheFirst : Type 0
RefusedForTheFirst = OfEveryCall (λ s m. (k : ℕ) → (answer_told m ≡ refused k) ↔ FirstToHold (conditions s m) k)

-- A call of which no test holds gets an answer of its own kind.
abbrev pub OthersAreAnswered : Type 0
OthersAreAnswered = OfEveryCall (λ s m. NoneApplies (tests s m) → AnswerTo (call_made m) (answer_told m))

-- A refusal leaves the very station, every place of its arrays.
abbrev pub RefusalLeavesTheStation : Type 0
RefusalLeavesTheStation = OfEveryCall (λ s m. IsRefused m → m.station ≡ s)

-- And it leaves the list for writing.
abbrev pub RefusalLeavesTheList : Type 0
RefusalLeavesTheList = OfEveryCall (λ s m. IsRefused m → m.written ≡ m.list)
