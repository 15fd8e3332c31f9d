-- What an offer and both replans answer, and the test that they end with.
use Rattle.std.specs.Prelude.{◌≡◌, ℕ, ◌≤◌, length, take, Result, Ok, Err}
use Rattle.rules.specs.Charge.{lateness}
use Rattle.rules.specs.Judgement.{restarted, judged}
use Rattle.rules.specs.Replan.{Proposal, starts, none}
use Rattle.rules.specs.Calls.{Answer, planned}
use Rattle.refusals.specs.declared.Refusal.{Refusal}
use Rattle.refusals.specs.Refusals.{answer_by}
use Rattle.charges.specs.declared.Charges.{Charges}
use Rattle.charges.specs.Arrays.{charges_of, Holds}
use Rattle.charges.specs.Starts.{Starts}
use Rattle.planner.specs.declared.Beside.{Beside}
use Rattle.planner.specs.declared.cause.Cause.{Cause}
use Rattle.planner.specs.Causes.{number_of, cause_in}
use Rattle.planner.specs.Ready.{terms_of}
use Rattle.planning.specs.declared.Planned.{Planned}

-- "cause, lateness before and after, rounds used"
abbrev pub planned_of : Planned → Answer
planned_of p = planned (cause_in p.taken) p.before p.after p.rounds

abbrev pub plan_answer : Result Planned Refusal → Answer
plan_answer = answer_by planned_of

-- a start for each of n waiting charges, where there are starts; what follows them is not read
abbrev pub Enough : ℕ → Result Starts Cause → Type 0
Enough n (Ok list) = n ≤ length list
Enough n (Err cause) = Unit {0}

-- the first n starts, or the cause for having none
abbrev pub first_starts : ℕ → Result Starts Cause → Proposal
first_starts n (Ok list) = starts (take n list)
first_starts n (Err cause) = none (number_of cause)

-- the cause for keeping the held charges against what is proposed
abbrev pub cause_by : Beside → Charges → Proposal → ℕ
cause_by b held (starts ss) = judged (terms_of b) b.clock (charges_of held) ss
cause_by b held (none cause) = cause

-- "the waiting charges get these starts": without starts nothing is taken
abbrev pub Restarts : ℕ → Charges → Proposal → Charges → Type 0
Restarts clock held (starts ss) next = Holds (restarted clock (charges_of held) ss) next
Restarts clock held (none cause) next = ⊥

-- "Otherwise the station is unchanged."
abbrev pub LeftBy : ℕ → Charges → Proposal → Result (Unit {0}) Cause → Charges → Type 0
LeftBy clock held p (Ok done) next = Restarts clock held p next
LeftBy clock held p (Err cause) next = next ≡ held

-- "All three end with the same test": this is what it makes of a proposal for the charges of a feeder.
pub record Tests (b : Beside) (held : Charges) (rounds : ℕ) (p : Proposal) (answer : Planned) (next : Charges) : Type 0 where
  pub cause : cause_by b held p ≡ cause_in answer.taken
  pub before : lateness (charges_of held) ≡ answer.before
  pub after : lateness (charges_of next) ≡ answer.after
  pub made : rounds ≡ answer.rounds
  pub left : LeftBy b.clock held p answer.taken next
