-- The theorem about the program that is run. Read this file first: it says of which calls the rest is true.
--
-- A station is opened by `Station::open` (crates/station/src/open.rt) with any count, W and settings of feeders. Then calls are made through
-- `apply` or, where the station is lent, `make` (crates/calls/src/lib.rt), any calls with any numbers and any lists, each on the station
-- that the last one left. `MeetsOpen` below is the contract of `open`, and `MeetsApply` that of the other two: src/lib.rt calls them, and
-- the checker has proved there that what they give meets these. Nothing else is asked of the code.
--
-- What follows from it, sentence by sentence and with no record to open, stands in EveryMinute, EveryOrder, EveryTicket, EveryEnquiry,
-- EveryWithdrawal, EveryAnswer and EveryOpening: each sentence is a clause of a function in src/.
use Rattle.std.specs.Prelude.{◌≡◌, ℕ, true, List, [], ◌∷◌, map, Result}
use Rattle.rules.specs.Basics.{Each}
use Rattle.rules.specs.Calls as rules
use Rattle.rules.specs.Calls.{Asked, opening, run, step}
use Rattle.guarantee.specs.Past.{Past, beginning, extended, past, is_refused}
use Rattle.guarantee.specs.DemandOne.{DemandOne, DemandOneOpening}
use Rattle.guarantee.specs.DemandTwo.{DemandTwo}
use Rattle.guarantee.specs.DemandThree.{DemandThree}
use Rattle.refusals.specs.declared.Refusal.{Refusal}
use Rattle.station.specs.declared.Station.{Station}
use Rattle.station.specs.declared.bounds.Opened.{Opened}
use Rattle.calls.specs.declared.Call.{Call}
use Rattle.calls.specs.declared.Answer.{Answer}
use Rattle.station.specs.View.{view, Valid}
use Rattle.station.specs.Opened.{open_answer, Opens}
use Rattle.calls.specs.Applied.{call_of, list_after, answer_of, lends, ListStays, Applies}

-- One call made through `apply` or `make`: what was passed in, and what came back.
pub record Made : Type 0 where
  pub call : Call
  -- the list that an offer or a board reads
  pub numbers : List ℕ
  -- the list that a clock move or a board writes, before the call and after it
  pub list : List ℕ
  pub written : List ℕ
  pub answer : Result Answer Refusal
  pub station : Station

abbrev pub made : Call → List ℕ → List ℕ → List ℕ → Result Answer Refusal → Station → Made
made call numbers list written answer station =
    record {
      call = call;
      numbers = numbers;
      list = list;
      written = written;
      answer = answer;
      station = station;
    }

-- The contract of `open`: it asks nothing.
abbrev pub MeetsOpen : Asked → Result Opened Refusal → Station → Type 0
MeetsOpen x answer first = Opens (opening x) answer first

-- The contract of `apply` and of `make`: it asks a valid station.
abbrev pub MeetsApply : Station → Made → Type 0
MeetsApply s m =
    Valid s → Applies (view s) m.call m.numbers m.list m.written m.answer m.station

-- "Each call gets the station that the last one left, and nobody else writes it meanwhile."
abbrev pub Chain : Station → List Made → Type 0
Chain s [] = Unit {0}
Chain s (m ∷ ms) = MeetsApply s m × Chain m.station ms

-- a call in the words of the rules, with the list lent to it, and what it gave
abbrev pub call_made : Made → rules.Call
call_made m = call_of m.call m.numbers m.list

abbrev pub given : Made → rules.Result
given m =
    record {
      answer = answer_of m.answer;
      state = view m.station;
      list = list_after m.call m.numbers m.written;
    }

-- the station that the calls left
abbrev pub left : Station → List Made → Station
left s [] = s
left s (m ∷ ms) = left m.station ms

-- what is known after the calls, read off the calls, their answers and their lists
abbrev pub known : Past → List Made → Past
known h [] = h
known h (m ∷ ms) = known (extended h (call_made m) (given m)) ms

-- What is proved of an opening that asks for x and gave `answer` and `first`, and of the calls made then.
pub record Guaranteed (x : Asked) (answer : Result Opened Refusal) (first : Station) (calls : List Made) : Type 0 where
  -- the calls begin with the station that was asked for, or with the one beside a refusal
  pub began : view first ≡ (opening x).state
  -- every station of the chain is valid, so that what the next call asks is always met
  pub first_valid : Valid first
  pub valid : Each (λ m. Valid m.station) calls
  -- every answer and every list is that of the rules
  pub opened : open_answer answer ≡ (opening x).answer
  pub answers : map given calls ≡ run (opening x).state (map call_made calls)
  -- and a list for writing that a call does not take stays
  pub stays : Each (λ m. ListStays (lends m.call) m.list m.written) calls
  -- so is what any further call would give: `step` below is what the program does
  pub next : (m : Made) → MeetsApply (left first calls) m → given m ≡ step (view (left first calls)) (call_made m)
  -- and where it is refused, it leaves the very station, every place of its arrays
  pub unchanged :
      (m : Made) → MeetsApply (left first calls) m → is_refused (answer_of m.answer) ≡ true → m.station ≡ left first calls
  -- what is read off a list of calls of the rules is what was seen of these
  pub seen : known (beginning (view first)) calls ≡ past step (view first) (map call_made calls)
  -- what is refused, of the opening and of every call made to the station that is left
  pub one_opening : DemandOneOpening opening x
  pub one : (call : rules.Call) → DemandOne step (view (left first calls)) call
  -- which starts, plans, boards and withdrawals a call gives there
  pub two : DemandTwo step (view (left first calls))
  -- and what is promised of the whole list
  pub three : DemandThree step (view first) (map call_made calls)

abbrev pub Theorem : Type 0
Theorem =
    (x : Asked) (answer : Result Opened Refusal) (first : Station)
    → MeetsOpen x answer first
    → (calls : List Made)
    → Chain first calls
    → Guaranteed x answer first calls
