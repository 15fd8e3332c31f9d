-- What follows from the rest, of every result, right or wrong: no station breaks one of these alone.
use Rattle.std.specs.Prelude.{◌↔◌, ◌≡◌, ℕ, suc, ◌≤◌, ◌<◌, false, List, ◌++◌, length, get_or}
use Rattle.rules.specs.Basics.{Each}
use Rattle.rules.specs.Charge.{Charge, without_ticket, lateness}
use Rattle.rules.specs.Replan.{Proposal, starts, none}
use Rattle.rules.specs.Judgement.{restarted}
use Rattle.rules.specs.Site.{State, charges_on, holding}
use Rattle.rules.specs.Valid.{IsFeeder, ValidState}
use Rattle.rules.specs.Calls.{Answer, refused, planned, withdrawn, Result, Call, board, enquire, refusals, feeder_with, step}
use Rattle.guarantee.specs.Past.{Gives, is_refused, past, staying_orders, start_of, times_reported}
use Rattle.guarantee.specs.DemandOne.{FirstIs, NoneApplies, AnswerTo}
use Rattle.guarantee.specs.DemandTwo.{Unbroken, Better, Taken, cause_of, shown_by, Waits}
use Rattle.guarantee.specs.DemandThree.{NoneMoved}

-- An answer of a call's own kind is no refusal.
abbrev pub OwnAnswersAreNoRefusals : Type 0
OwnAnswersAreNoRefusals = (c : Call) (a : Answer) → AnswerTo c a → is_refused a ≡ false

-- Every charge is unbroken: it has one start and one time.
abbrev pub ChargesAreUnbroken : Type 0
ChargesAreUnbroken = (cs : List Charge) → Each Unbroken cs

-- A plan that starts nothing before the clock starts nothing before its order minute.
abbrev pub NothingBeforeItsOrder : Type 0
NothingBeforeItsOrder =
    (s : State)
    → ValidState s
    → (f : ℕ)
    → IsFeeder s f
    → (ss : List ℕ)
    → Each (λ u. s.clock ≤ u) ss
    → Each (λ c. c.order_minute ≤ c.start) (restarted s.clock (charges_on s f) ss)

-- a list of starts that is better
abbrev pub BetterStarts : State → ℕ → Proposal → Type 0
BetterStarts s f p = (ss : List ℕ) × (p ≡ starts ss) × Better s f ss (restarted s.clock (charges_on s f) ss)

-- A plan is taken exactly where the call is not refused and its starts are better: this follows from the refusals and the cause.
abbrev pub TakingFollows : Type 0
TakingFollows =
    (s : State)
    → ValidState s
    → (f : ℕ) (call : Call)
    → (NoneApplies (refusals s call) → IsFeeder s f)
    → (p : Proposal)
    → (p ≡ none 0 → ⊥)
    → (rounds : ℕ) (r : Result)
    → ((k : ℕ) → (r.answer ≡ refused k) ↔ FirstIs (refusals s call) k)
    → (NoneApplies (refusals s call)
    → r.answer ≡ planned (cause_of s f p) (lateness (charges_on s f)) (lateness (charges_on r.state f)) rounds)
    → Taken r.answer ↔ (NoneApplies (refusals s call) × BetterStarts s f p)

-- A withdrawal leaves one charge fewer: this follows from what is held then.
abbrev pub FreePlaceFollows : Type 0
FreePlaceFollows =
    (s : State) (ticket : ℕ)
    → ValidState s
    → (r : Result)
    → (r.answer ≡ withdrawn → Waits s ticket)
    → (r.answer ≡ withdrawn
    → let f = feeder_with ticket 1 s.feeders in r.state ≡ holding s f (without_ticket ticket (charges_on s f)) s.next)
    → r.answer ≡ withdrawn
    → let f = feeder_with ticket 1 s.feeders in suc (length (charges_on r.state f)) ≡ length (charges_on s f)

-- No start before the clock has ever changed: this follows where after each first part of the list every order with such a start has
-- been reported once, since reports are only added.
abbrev pub ReportedStartsStay : Type 0
ReportedStartsStay =
    (gives : Gives) (s : State) (calls : List Call)
    → ((part rest : List Call)
    → calls ≡ part ++ rest
    → Each (λ o. start_of gives (past gives s part) o < (past gives s part).clock → times_reported (past gives s part).reports o.ticket ≡ 1)
    (staying_orders (past gives s part)))
    → NoneMoved gives s calls

-- On the board stands at the place of a ticket what an enquiry of it says.
abbrev pub BoardsShowEnquiries : Type 0
BoardsShowEnquiries =
    (s : State) (asked list : List ℕ) (i : ℕ)
    → NoneApplies (refusals s (board asked list))
    → i < length asked
    → get_or (step s (board asked list)).list i 0 ≡ shown_by (step s (enquire (get_or asked i 0))).answer
