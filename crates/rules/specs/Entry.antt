-- An entry of the array of cases, and what the rules give for it.
use Rattle.std.specs.Prelude.{ℕ, zero, suc, ◌-◌, List, [], ◌∷◌, ◌++◌, map, length, replicate}
use Rattle.rules.specs.Load.{count}
use Rattle.rules.specs.Charge.{Charge, loads_of, waiting_charges, without_ticket}
use Rattle.rules.specs.Replan.{by_latest_start}
use Rattle.rules.specs.Site.{State, charges_on}
use Rattle.rules.specs.Calls as calls
use Rattle.rules.specs.Calls.{settings, Asked, Answer, opened, committed, waiting, Result, opening, Call, enquire, run}

-- what a call gave: the answer, and the lent list whole
pub record Given : Type 0 where
  pub answer : Answer
  pub list : List ℕ

abbrev pub gives : Answer → Given
gives a = record { answer = a; list = [] }

abbrev pub gives_with : Answer → List ℕ → Given
gives_with a list = record { answer = a; list = list }

-- The counts of lines 1, 2 and 3 in one minute, without the charge of one ticket, on the station that the calls left.
pub record Minute : Type 0 where
  pub without : ℕ
  pub minute : ℕ
  pub one : ℕ
  pub two : ℕ
  pub three : ℕ

-- The tickets of a feeder's waiting charges, in the order in which a replan by latest start takes them, on the station that the calls left.
pub record Queue : Type 0 where
  pub feeder : ℕ
  pub tickets : List ℕ

-- an entry: what the opening asks for, the calls, and what they have to give; minutes to be counted, and queues, are those at the end
pub record Case : Type 0 where
  pub asked : Asked
  pub calls : List Call
  pub opening : Answer
  pub given : List Given
  pub minutes : List Minute
  pub queues : List Queue

-- what the rules give for an entry
abbrev pub gave : Result → Given
gave r = record { answer = r.answer; list = r.list }

-- the station that the last call left
abbrev pub state_after : State → List Result → State
state_after s [] = s
state_after s (r ∷ rs) = state_after r.state rs

abbrev pub counted_in : List Charge → Minute → Minute
counted_in cs m =
    let left : List Charge = without_ticket m.without cs in
    record {
      without = m.without;
      minute = m.minute;
      one = count (loads_of left) 1 m.minute;
      two = count (loads_of left) 2 m.minute;
      three = count (loads_of left) 3 m.minute;
    }

abbrev pub queued_on : State → Queue → Queue
queued_on s q =
    record {
      feeder = q.feeder;
      tickets = map (λ c. c.ticket) (by_latest_start (waiting_charges s.clock (charges_on s q.feeder)));
    }

-- The answers stand first because they are computed from the first call on; the last station by itself would be computed backwards, which
-- takes twenty times as long.
abbrev pub computed : Case → Case
computed e =
    let opened : Result = opening e.asked in
    let results : List Result = run opened.state e.calls in
    record {
      asked = e.asked;
      calls = e.calls;
      opening = opened.answer;
      given = map gave results;
      minutes = map (counted_in (charges_on (state_after opened.state results) 1)) e.minutes;
      queues = map (queued_on (state_after opened.state results)) e.queues;
    }

-- a report list of 360 places with a 7 in each
abbrev pub lent_list : List ℕ
lent_list = replicate 360 7

-- the answers of commits with these starts, with tickets from k on
abbrev pub starts_from : ℕ → List ℕ → List Given
starts_from k [] = []
starts_from k (s ∷ ss) = gives (committed k s) ∷ starts_from (suc k) ss

-- a clock move that writes xs to that list: "Places after them keep what they held."
abbrev pub reports : Answer → List ℕ → Given
reports a xs = gives_with a (xs ++ replicate (360 - length xs) 7)

-- enquiries for k tickets from i on
abbrev enquiries : ℕ → ℕ → List Call
enquiries zero i = []
enquiries (suc k) i = enquire i ∷ enquiries k (suc i)

-- One feeder under W 720, as before several feeders: its settings, the answer of its opening, and calls that name it

abbrev pub one_feeder : ℕ → ℕ → ℕ → Asked
one_feeder n c r = record { count = 1; site = 720; settings = settings n c r ∷ [] }

abbrev pub opened_one : ℕ → Answer
opened_one d = opened (d ∷ [])

abbrev pub preview : ℕ → ℕ → ℕ → ℕ → Call
preview line p d rate = calls.preview 1 line p d rate

abbrev pub commit : ℕ → ℕ → ℕ → ℕ → ℕ → Call
commit line p d rate shown = calls.commit 1 line p d rate shown

abbrev pub offer : List ℕ → Call
offer ss = calls.offer 1 ss

abbrev pub replan_latest : Call
replan_latest = calls.replan_latest 1

abbrev pub replan_lines : ℕ → Call
replan_lines allowance = calls.replan_lines 1 allowance

-- an opening alone, with r 0
abbrev pub opens : ℕ → ℕ → Answer → Case
opens n c a = record { asked = one_feeder n c 0; calls = []; opening = a; given = []; minutes = []; queues = [] }

-- Open N, c and r: D, and what the calls give.
abbrev pub case_with_tail : ℕ → ℕ → ℕ → ℕ → List Call → List Given → Case
case_with_tail n c r d calls given =
    record { asked = one_feeder n c r; calls = calls; opening = opened_one d; given = given; minutes = []; queues = [] }

abbrev pub case : ℕ → ℕ → ℕ → List Call → List Given → Case
case n c d calls given = case_with_tail n c 0 d calls given

-- Open 1, 100, orders that get the starts `held`, a replan, and the starts of all of them afterwards.
abbrev pub replanned : List Call → Call → List ℕ → Answer → List ℕ → Case
replanned orders replan held answer new =
    case 1 100 1
    (orders ++ (replan ∷ enquiries (length new) 1))
    (starts_from 1 held ++ (gives answer ∷ map (λ s. gives (waiting s 1)) new))
