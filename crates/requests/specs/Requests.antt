-- What a line of text asks for.
use Rattle.std.specs.Prelude.{ℕ, zero, suc, ◌-◌, ◌%◌, min, ◌≤◌, ◌≡◌, Bool, true, false, cond, List, [], ◌∷◌, ltb, eqb, length, get_or, take, drop, replicate, Option, Some, None, Result, Ok, Err, IfOk}
use Rattle.std.proofs.lemmas.List.Edits.{sets}
use Rattle.std.proofs.Math.Seq.{slice}
use Rattle.rules.specs.Calls as rules
use Rattle.rules.specs.Calls.{Call, preview, commit, move, offer, replan_latest, replan_lines, enquire, board, withdraw, not_held}
use Rattle.text.specs.Numbers.{number_of}
use Rattle.text.specs.Parts.{split}
use Rattle.text.specs.declared.number.NumberError.{NumberError}
use Rattle.requests.specs.Words.{named}
use Rattle.requests.specs.declared.request.Reason.{Reason}
use Rattle.requests.specs.declared.request.Reason.TheVariants.{UnknownCall, Number, MissingNumber, ExtraNumber, LineTooLong}
use Rattle.requests.specs.declared.word.CallName.{CallName}
use Rattle.requests.specs.declared.word.CallName.TheVariants.{Open, Preview, Commit, Move, Offer, Latest, Lines, Enquire, Board, Withdraw}
use Rattle.station.specs.Opened as opened
use Rattle.station.specs.Opened.{asked_of}
use Rattle.calls.specs.Applied as applied
use Rattle.calls.specs.declared.Call as declared_call
use Rattle.requests.specs.declared.request.ReadPlaces.{ReadPlaces}
use Rattle.requests.specs.declared.request.Request as declared
use Rattle.requests.specs.declared.request.Request.TheVariants as request
use Rattle.std.specs.declared.ops.RangeInclusive.{RangeInclusive}

-- What is asked for: nothing, an opening, a call of the station that stands; or why none of these.
pub data Asked : Type 0 where
  nothing : Asked
  opening : rules.Asked → Asked
  call : Call → Asked
  error : Reason → Asked

-- How many numbers a call takes, at least and at most. An opening takes the settings of one to four feeders. An offer and a board take as
-- many as a request can hold: after `offer` or `board` 4,091 bytes are left, and a number with the space before it has two at least. Those are 2,045, so that 2,048 are never passed.
abbrev pub takes : ℕ → ℕ → RangeInclusive ℕ
takes least most = record { start = least; end = most; exhausted = false }

abbrev pub taken : CallName → RangeInclusive ℕ
taken Open = takes 5 14
taken Preview = takes 5 5
taken Commit = takes 6 6
taken Move = takes 2 2
taken Offer = takes 1 2048
taken Latest = takes 1 1
taken Lines = takes 2 2
taken Enquire = takes 1 1
taken Board = takes 1 2048
taken Withdraw = takes 1 1

-- the number that a word says; why it says none is why the request is no call
abbrev pub as_reason : Result ℕ NumberError → Result ℕ Reason
as_reason (Ok n) = Ok n
as_reason (Err e) = Err (Number e)

abbrev pub read_word : List ℕ → Result ℕ Reason
read_word word = as_reason (number_of word)

-- a number in front of those that follow it; the first word that is wrong decides
abbrev pub followed : Result ℕ Reason → Result (List ℕ) Reason → Result (List ℕ) Reason
followed (Err reason) rest = Err reason
followed (Ok n) (Err reason) = Err reason
followed (Ok n) (Ok ns) = Ok (n ∷ ns)

-- at least `least` and at most `most` numbers, from the left
unfoldable pub read_numbers : ℕ → ℕ → List (List ℕ) → Result (List ℕ) Reason
read_numbers least most [] = cond (ltb 0 least) (Err MissingNumber) (Ok [])
read_numbers least zero (word ∷ words) = Err ExtraNumber
read_numbers least (suc most) (word ∷ words) = followed (read_word word) (read_numbers (least - 1) most words)

-- the numbers that stand in the list lent for them, at its front: those from the left, up to the first word that is none
abbrev pub before : Result ℕ Reason → List ℕ → List ℕ
before (Err reason) ns = []
before (Ok n) ns = n ∷ ns

unfoldable pub values_read : ℕ → List (List ℕ) → List ℕ
values_read most [] = []
values_read zero (word ∷ words) = []
values_read (suc most) (word ∷ words) = before (read_word word) (values_read most words)

-- the list that is lent to a move or a board: at most 4,096 places, each of which says at first that no ticket is held
abbrev pub lent_list : ℕ → List ℕ
lent_list places = replicate (min places 4096) not_held

-- the count, W, and the settings of four feeders: "feeders that are not given count as 0 0 0"
abbrev pub asked_from : List ℕ → rules.Asked
asked_from ns = opened.asked_from (get_or ns 0 0) (get_or ns 1 0) (drop 2 ns)

-- an opening with its numbers: the last feeder that is given has all three of its own
abbrev pub open_of : List ℕ → Asked
open_of ns = cond (eqb (length ns % 3) 2) (opening (asked_from ns)) (error MissingNumber)

-- the call of a name with its numbers
abbrev pub call_of : CallName → List ℕ → Asked
call_of Open ns = open_of ns
call_of Preview ns = call (preview (get_or ns 0 0) (get_or ns 1 0) (get_or ns 2 0) (get_or ns 3 0) (get_or ns 4 0))
call_of Commit ns = call (commit (get_or ns 0 0) (get_or ns 1 0) (get_or ns 2 0) (get_or ns 3 0) (get_or ns 4 0) (get_or ns 5 0))
call_of Move ns = call (move (get_or ns 0 0) (lent_list (get_or ns 1 0)))
call_of Offer ns = call (offer (get_or ns 0 0) (drop 1 ns))
call_of Latest ns = call (replan_latest (get_or ns 0 0))
call_of Lines ns = call (replan_lines (get_or ns 0 0) (get_or ns 1 0))
call_of Enquire ns = call (enquire (get_or ns 0 0))
call_of Board ns = call (board (drop 1 ns) (lent_list (get_or ns 0 0)))
call_of Withdraw ns = call (withdraw (get_or ns 0 0))

abbrev pub called : CallName → Result (List ℕ) Reason → Asked
called name (Ok ns) = call_of name ns
called name (Err reason) = error reason

unfoldable pub read_call : Option CallName → List (List ℕ) → Asked
read_call None words = error UnknownCall
read_call (Some name) words = called name (read_numbers (taken name).start (taken name).end words)

abbrev pub call_values : Option CallName → List (List ℕ) → List ℕ
call_values None words = []
call_values (Some name) words = values_read (taken name).end words

-- an empty text, or one that begins with `#`
abbrev pub passed_over : List ℕ → Bool
passed_over [] = true
passed_over (b ∷ bs) = eqb b 35

-- a line of text by its kind, its line feed left out: one that is too long, one to pass over, or a call by its name with its words
abbrev pub by_name : {A : Type 0} → A → (Option CallName → List (List ℕ) → A) → List (List ℕ) → A
by_name none of [] = none
by_name none of (word ∷ words) = of (named word) words

abbrev pub by_kind : {A : Type 0} → A → A → (Option CallName → List (List ℕ) → A) → List ℕ → A
by_kind long none of bytes =
    cond (ltb 4096 (length bytes)) long (cond (passed_over bytes) none (by_name none of (split 32 bytes)))

-- what a line of text asks for
unfoldable pub read_request : List ℕ → Asked
read_request bytes = by_kind (error LineTooLong) nothing read_call bytes

-- its numbers, as they are put into the list lent for them
unfoldable pub request_values : List ℕ → List ℕ
request_values bytes = by_kind [] [] call_values bytes

-- what the code's answers mean, with the list that was lent for the numbers
abbrev pub numbers_read : Result ℕ Reason → List ℕ → Result (List ℕ) Reason
numbers_read (Ok k) list = Ok (take k list)
numbers_read (Err reason) list = Err reason

abbrev pub meaning : declared.Request → List ℕ → Asked
meaning request.Nothing list = nothing
meaning (request.Open x) list = opening (asked_of x)
meaning (request.Call c read places) list = call (applied.call_of c (slice read.start read.end list) (lent_list places))

abbrev pub asked_by : Result declared.Request Reason → List ℕ → Asked
asked_by (Ok r) list = meaning r list
asked_by (Err reason) list = error reason

-- what is lent beside a call: numbers up to `until` to one that reads, places to one that writes, and to no other
abbrev pub Lent : applied.Lends → ℕ → ℕ → Type 0
Lent applied.none until places = (until ≡ 0) × (places ≡ 0)
Lent applied.reads until places = places ≡ 0
Lent applied.writes until places = until ≡ 0
Lent applied.both until places = Unit {0}

-- the numbers that a call reads are among the first k of the list
abbrev pub Fits : ℕ → declared.Request → Type 0
Fits k request.Nothing = Unit {0}
Fits k (request.Open x) = Unit {0}
Fits k (request.Call c read places) = (read.start ≤ read.end) × ((read.end ≤ k) × Lent (applied.lends c) read.end places)

-- no numbers, and those behind the first, by their places
abbrev pub no_numbers : ReadPlaces
no_numbers = record { start = 0; end = 0 }

abbrev pub behind_first : List ℕ → ReadPlaces
behind_first ns = record { start = min (length ns) 1; end = length ns }

-- A call with what is lent to it: those of its numbers that stand behind the first to one that reads; so many places to one that writes,
-- by its first number where it reads too.
abbrev pub with_lent : applied.Lends → declared_call.Call → List ℕ → declared.Request
with_lent applied.none c ns = request.Call c no_numbers 0
with_lent applied.reads c ns = request.Call c (behind_first ns) 0
with_lent applied.writes c ns = request.Call c no_numbers (get_or ns 1 0)
with_lent applied.both c ns = request.Call c (behind_first ns) (get_or ns 0 0)

-- The code's call of a name with its numbers: what it means, and what is lent beside it.
pub record Calls (name : CallName) (ns : List ℕ) (r : Result declared.Request Reason) : Type 0 where
  pub call_is : asked_by r ns ≡ call_of name ns
  pub call_fits : IfOk r (Fits (length ns))

-- Numbers were read so: what they are, that they are not too many, and the whole of the list lent for them.
pub record TakesNumbers (takes : RangeInclusive ℕ) (words : List (List ℕ)) (list after : List ℕ) (r : Result ℕ Reason) : Type 0 where
  pub numbers_are : numbers_read r after ≡ read_numbers takes.start takes.end words
  pub few : IfOk r (λ count. count ≤ takes.end)
  pub list_is : after ≡ sets list 0 (values_read takes.end words)

-- A request was read so: what it asks for, and the whole of the list lent for its numbers.
pub record Asks (asked : Asked) (values list after : List ℕ) (r : Result declared.Request Reason) : Type 0 where
  pub request_is : asked_by r after ≡ asked
  pub fits : IfOk r (Fits 2048)
  pub list_is : after ≡ sets list 0 values
