-- The words in which single calls are spoken of: a call of a valid station, what it was told, and conditions with their numbers.
use Rattle.std.specs.Prelude.{◌⊎◌, ◌≡◌, ℕ, Bool, true, false, List, [], ◌∷◌}
use Rattle.rules.specs.Calls.{Answer, refusals, planned}
use Rattle.guarantee.specs.Past.{is_refused}
use Rattle.station.specs.declared.Station.{Station}
use Rattle.station.specs.View.{view, Valid}
use Rattle.calls.specs.Applied.{answer_of}
use Rattle.theorem.specs.Theorem.{Made, MeetsApply, call_made}

-- It holds of every call that is made to a valid station, whatever the call gave.
abbrev pub OfEveryCall : (Station → Made → Type 0) → Type 0
OfEveryCall Holds = (s : Station) (m : Made) → Valid s → MeetsApply s m → Holds s m

-- the answer, in the words of the rules
abbrev pub answer_told : Made → Answer
answer_told m = answer_of m.answer

abbrev pub IsRefused : Made → Type 0
IsRefused m = is_refused (answer_told m) ≡ true

abbrev pub IsGranted : Made → Type 0
IsGranted m = is_refused (answer_told m) ≡ false

-- the tests of the rules that refuse the call, in their order, each with its number
abbrev pub tests : Station → Made → List (Bool × ℕ)
tests s m = refusals (view s) (call_made m)

-- an offer or a replan is answered with this cause: 0 where its list is taken, or else the reason for keeping the old starts
abbrev pub HasCause : Made → ℕ → Type 0
HasCause m cause = (before : ℕ) × (after : ℕ) × (rounds : ℕ) × (answer_told m ≡ planned cause before after rounds)

-- the same, with the number of rounds that is answered: those made by a replan by lines, 0 for an offer and a replan by latest start
abbrev pub HasCauseAfter : Made → ℕ → ℕ → Type 0
HasCauseAfter m cause rounds = (before : ℕ) × (after : ℕ) × (answer_told m ≡ planned cause before after rounds)

-- it holds of some member of the list
abbrev pub OfSome {ℓ} : {A : Type ℓ} → (A → Type 0) → List A → Type 0
OfSome P [] = ⊥
OfSome P (a ∷ l) = P a ⊎ OfSome P l

-- A condition in words, and the number that it gives a call.
pub data Condition : Type 1 where
  when : Type 0 → ℕ → Condition

-- k is the number of a condition that holds, and no condition before it does.
abbrev pub FirstToHold : List Condition → ℕ → Type 0
FirstToHold [] k = ⊥
FirstToHold (when Holds n ∷ conditions) k = (Holds × (n ≡ k)) ⊎ ((Holds → ⊥) × FirstToHold conditions k)
