-- A call given as a value: the call of the rules that it is, and what applying it gives.
use Rattle.std.specs.Prelude.{◌≡◌, ℕ, List, [], Result}
use Rattle.rules.specs.Calls as rules
use Rattle.rules.specs.Site.{State}
use Rattle.rules.specs.Calls.{preview, commit, move, offer, replan_latest, replan_lines, enquire, board, withdraw, step, previewed, waiting, charging, looked, withdrawn}
use Rattle.refusals.specs.declared.Refusal.{Refusal}
use Rattle.refusals.specs.Refusals.{answer_by}
use Rattle.station.specs.declared.Station.{Station}
use Rattle.calls.specs.declared.Call.{Call}
use Rattle.calls.specs.declared.Call.TheVariants.{Preview, Commit, Move, Offer, ReplanLatest, ReplanLines, Enquire, Board, Withdraw}
use Rattle.calls.specs.declared.Answer.{Answer}
use Rattle.calls.specs.declared.Answer.TheVariants.{Previewed, Committed, Moved, Planned, Waiting, Charging, Looked, Withdrawn}
use Rattle.station.specs.Given.{Gives}
use Rattle.ordering.specs.Answers.{committed_of}
use Rattle.planning.specs.Answers.{planned_of}
use Rattle.site.specs.Answers.{moved_of}

-- the call of the rules, with the lists that are lent to it
abbrev pub call_of : Call → List ℕ → List ℕ → rules.Call
call_of (Preview o) numbers list = preview o.feeder o.line o.time o.due o.rate
call_of (Commit o shown) numbers list = commit o.feeder o.line o.time o.due o.rate shown
call_of (Move target) numbers list = move target list
call_of (Offer feeder) numbers list = offer feeder numbers
call_of (ReplanLatest feeder) numbers list = replan_latest feeder
call_of (ReplanLines feeder allowance) numbers list = replan_lines feeder allowance
call_of (Enquire ticket) numbers list = enquire ticket
call_of Board numbers list = board numbers list
call_of (Withdraw ticket) numbers list = withdraw ticket

-- Which of the two lists a call takes: none of them, the one that it reads, the one that it writes, or both.
pub data Lends : Type 0 where
  none : Lends
  reads : Lends
  writes : Lends
  both : Lends

abbrev pub lends : Call → Lends
lends (Preview o) = none
lends (Commit o shown) = none
lends (Move target) = writes
lends (Offer feeder) = reads
lends (ReplanLatest feeder) = none
lends (ReplanLines feeder allowance) = none
lends (Enquire ticket) = none
lends Board = both
lends (Withdraw ticket) = none

-- the list lent to the call, as the rules have it, afterwards: the one that it writes, or else the one that it reads
abbrev pub lent_of : Lends → List ℕ → List ℕ → List ℕ
lent_of none read written = []
lent_of reads read written = read
lent_of writes read written = written
lent_of both read written = written

abbrev pub list_after : Call → List ℕ → List ℕ → List ℕ
list_after call read written = lent_of (lends call) read written

-- a list for writing that the call does not take stays
abbrev pub ListStays : Lends → List ℕ → List ℕ → Type 0
ListStays none before after = after ≡ before
ListStays reads before after = after ≡ before
ListStays writes before after = Unit {0}
ListStays both before after = Unit {0}

-- what a call tells where it is not refused
abbrev pub told_of : Answer → rules.Answer
told_of (Previewed start) = previewed start
told_of (Committed c) = committed_of c
told_of (Moved m) = moved_of m
told_of (Planned p) = planned_of p
told_of (Waiting start rate) = waiting start rate
told_of (Charging start end rate) = charging start end rate
told_of (Looked n) = looked n
told_of Withdrawn = withdrawn

abbrev pub answer_of : Result Answer Refusal → rules.Answer
answer_of = answer_by told_of

-- one answer is handed on as another: in the words of the rules it is what it was, whatever words keep it where it is not refused
abbrev pub HandedOn : {A : Type 0} → (A → Answer → Type 0) → Result A Refusal → Result Answer Refusal → Type 0
HandedOn {A} told before after =
    (words : A → rules.Answer) → ((x : A) (y : Answer) → told x y → told_of y ≡ words x) → answer_of after ≡ answer_by words before

-- exactly what one step of the rules gives
pub record Applies (s : State) (call : Call) (numbers before after : List ℕ) (answer : Result Answer Refusal) (next : Station) : Type 0 where
  pub gives : Gives (step s (call_of call numbers before)) (answer_of answer) next (list_after call numbers after)
  pub stays : ListStays (lends call) before after
