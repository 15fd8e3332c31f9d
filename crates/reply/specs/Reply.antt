-- What a request is answered: the station after it, and the text that is printed.
use Rattle.std.specs.Prelude.{ℕ, ◌≤◌, ◌≡◌, List, [], ◌++◌, length, take, Result as Outcome, Ok, Err}
use Rattle.rules.specs.Site.{State}
use Rattle.rules.specs.Calls.{Call, preview, commit, move, offer, replan_latest, replan_lines, enquire, board, withdraw, Result}
use Rattle.rules.specs.Calls as calls
use Rattle.requests.specs.Requests.{Asked, nothing, opening, call, error, read_request, lent_list}
use Rattle.requests.specs.declared.request.Request as declared
use Rattle.requests.specs.declared.request.Request.TheVariants as request
use Rattle.requests.specs.declared.request.Reason.{Reason}
use Rattle.requests.specs.Errors.{error_text}
use Rattle.answers.specs.Answers.{answer_text, listed_of}
use Rattle.station.specs.declared.Station.{Station}
use Rattle.station.specs.View.{view, Valid}
use Rattle.station.specs.Opened.{open_answer}
use Rattle.calls.specs.Applied.{answer_of}
use Rattle.reply.specs.declared.Said.{Said}
use Rattle.reply.specs.declared.Said.TheVariants as said

-- the station after a request, and its answer as bytes
pub record Told : Type 0 where
  pub state : State
  pub text : List ℕ

-- how many numbers a call is given to read
abbrev pub numbers_in : Call → ℕ
numbers_in (preview feeder line time due rate) = 0
numbers_in (commit feeder line time due rate shown) = 0
numbers_in (move target list) = 0
numbers_in (offer feeder starts) = length starts
numbers_in (replan_latest feeder) = 0
numbers_in (replan_lines feeder allowance) = 0
numbers_in (enquire ticket) = 0
numbers_in (board asked list) = length asked
numbers_in (withdraw ticket) = 0

-- what is told of a result, where so many numbers were read
abbrev pub told : ℕ → Result → Told
told numbers r = record { state = r.state; text = answer_text r.answer numbers r.list }

abbrev pub called : State → Call → Told
called s c = told (numbers_in c) (calls.step s c)

-- nothing to answer, an opening, a call, an error
abbrev pub reply : State → Asked → Told
reply s nothing = record { state = s; text = [] }
reply s (opening x) = told 0 (calls.opening x)
reply s (call c) = called s c
reply s (error reason) = record { state = s; text = error_text reason }

-- What a request is answered. An empty request and one that begins with `#` have no answer; one of more than 4,096 bytes is
-- answered `error line too long`, and leaves the station as it is (`read_request`).
unfoldable pub answered : State → List ℕ → Told
answered s request = reply s (read_request request)

-- what a call leaves at the front of the list that is lent for writing: a clock move and a board alone write
abbrev pub written_by : State → Call → List ℕ
written_by s (preview feeder line time due rate) = []
written_by s (commit feeder line time due rate shown) = []
written_by s (move target list) = (calls.step s (move target list)).list
written_by s (offer feeder starts) = []
written_by s (replan_latest feeder) = []
written_by s (replan_lines feeder allowance) = []
written_by s (enquire ticket) = []
written_by s (board asked list) = (calls.step s (board asked list)).list
written_by s (withdraw ticket) = []

abbrev pub request_written : State → Asked → List ℕ
request_written s nothing = []
request_written s (opening x) = []
request_written s (call c) = written_by s c
request_written s (error reason) = []

-- how many places a request asks for to be written to, and what it is lent: as it is filled before the call
abbrev pub places_of : declared.Request → ℕ
places_of request.Nothing = 0
places_of (request.Open x) = 0
places_of (request.Call c read places) = places

abbrev pub lent_by : declared.Request → List ℕ
lent_by r = lent_list (places_of r)

-- what is filled for a line of text: nothing where it asks for nothing
abbrev pub lent_to : Outcome declared.Request Reason → List ℕ
lent_to (Ok r) = lent_by r
lent_to (Err reason) = []

-- what is said, as it is printed with the list that was lent for writing
abbrev pub said_text : Said → List ℕ → List ℕ
said_text said.Nothing list = []
said_text (said.Opening a) list = answer_text (open_answer a) 0 []
said_text (said.Call a asked lent) list = answer_text (answer_of a) asked (take lent list)

-- So many bytes are room enough for any answer: 96, and 21 for each of the 1,440 numbers of a list that are printed at most.
abbrev pub longest_answer : ℕ
longest_answer = 30336

-- what is printed of the list stands in the places that were lent, and is not much
abbrev pub SaidFits : Said → ℕ → Type 0
SaidFits said.Nothing places = Unit {0}
SaidFits (said.Opening a) places = Unit {0}
SaidFits (said.Call a asked lent) places = (lent ≤ places) × ((listed_of (answer_of a) asked ≤ lent) × (listed_of (answer_of a) asked ≤ 1440))

-- This is said to a request, printed with this list, and the station beside it is valid.
pub record Says (t : Told) (station : Station) (s : Said) (list : List ℕ) : Type 0 where
  pub state_is : view station ≡ t.state
  pub valid : Valid station
  pub text_is : said_text s list ≡ t.text
  pub fits : SaidFits s (length list)

-- A request was answered so: this station, which is valid, and this text behind what was printed before.
pub record Replied (t : Told) (station : Station) (before after : List ℕ) : Type 0 where
  pub state_is : view station ≡ t.state
  pub valid : Valid station
  pub printed : after ≡ before ++ t.text
