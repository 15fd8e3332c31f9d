-- The calls of a site, their refusals and answers (docs/RULES.md, sections 2 and 3).
use Rattle.std.specs.Prelude.{ℕ, zero, suc, ◌+◌, ◌-◌, ◌*◌, ◌/◌, ◌%◌, Bool, true, false, cond, not, ◌&&◌, ◌||◌, List, [], ◌∷◌, ◌++◌, map, ltb, leb, eqb, length, get_or, drop}
use Rattle.rules.specs.Basics.{tabulate, Found, at, nothing, first_of, keep, some, sorted_by}
use Rattle.rules.specs.Load.{Draw, sound}
use Rattle.rules.specs.Charge.{Charge, end_of, draw_of, seen, is_begun, waiting_charges, unfinished_charges, has_ticket, without_ticket, then_ticket, lateness}
use Rattle.rules.specs.Site.{places, Feeder, State, feeder_of, charges_on, site_charges, limits_of, with_charges, holding}
use Rattle.rules.specs.Search.{earliest}
use Rattle.rules.specs.Replan.{Proposal, starts, none, latest, Replanned, by_lines}
use Rattle.rules.specs.Judgement.{restarted, judged}

-- What a call answers.
pub data Answer : Type 0 where
  -- "A refusal returns its number alone"
  refused : ℕ → Answer
  -- an opening: the bound D of each feeder
  opened : List ℕ → Answer
  -- a preview: "the start it would give"
  previewed : ℕ → Answer
  -- a commit: "ticket and start"
  committed : ℕ → ℕ → Answer
  -- a clock move: "how many were reported, how many dropped"
  moved : ℕ → ℕ → Answer
  -- an offer or a replan: "cause, lateness before and after (equal when kept), rounds used"
  planned : ℕ → ℕ → ℕ → ℕ → Answer
  -- an enquiry: "waiting with its start, charging with start and end", and "enquiries show the rate", last
  waiting : ℕ → ℕ → Answer
  charging : ℕ → ℕ → ℕ → Answer
  -- a board: "answers how many it looked at"
  looked : ℕ → Answer
  -- a withdrawal that is not refused
  withdrawn : Answer

-- an answer, the next station, and the whole of the lent list afterwards (empty where none is lent)
pub record Result : Type 0 where
  pub answer : Answer
  pub state : State
  pub list : List ℕ

-- "A refusal returns its number alone; the station and every list stay."
abbrev pub answering : ℕ → State → List ℕ → Result → Result
answering zero s list r = r
answering (suc k) s list r = record { answer = refused (suc k); state = s; list = list }

-- Open

-- what an opening is given for each feeder: the limit N, the percentage c, and r: "Opening takes r, 0 to 5."
pub record Settings : Type 0 where
  pub limit : ℕ
  pub percent : ℕ
  pub tail : ℕ

abbrev pub settings : ℕ → ℕ → ℕ → Settings
settings n c r = record { limit = n; percent = c; tail = r }

-- x / 100, up where more than a half is left, and where exactly a half is, up from an odd number and down to an even one
abbrev pub nearest_hundreds : ℕ → ℕ
nearest_hundreds x =
    cond (ltb 50 (x % 100)) (x / 100 + 1) (cond (eqb (x % 100) 50) (x / 100 + x / 100 % 2) (x / 100))

-- "D becomes c × N / 100 rounded to the nearest whole number, an exact half to the even one."
abbrev pub bound_of : ℕ → ℕ → ℕ
bound_of n c = nearest_hundreds (c * n)

-- what an opening asks for: "feeder count", "W", and the settings of four feeders
pub record Asked : Type 0 where
  pub count : ℕ
  pub site : ℕ
  pub settings : List Settings

-- "settings past the count are not read", and feeders that are not given count as 0, 0, 0
abbrev pub settings_read : Asked → List Settings
settings_read a = tabulate (λ i. get_or a.settings i (settings 0 0 0)) a.count 0

abbrev pub fresh_feeder : Settings → Feeder
fresh_feeder x =
    record {
      limit = x.limit;
      percent = x.percent;
      bound = bound_of x.limit x.percent;
      tail = x.tail;
      charges = [];
    }

-- "A fresh station: clock 0, next ticket 1, no charges."
abbrev pub fresh : Asked → State
fresh a = record { feeders = map fresh_feeder (settings_read a); site = a.site; clock = 0; next = 1 }

-- "Refusals 1, 2, 3 and 19 are each given if any feeder up to the count meets the condition"
abbrev pub open_refusals : Asked → List (Bool × ℕ)
open_refusals a =
    -- "27, before 1, feeder count not 1 to 4"
    (ltb a.count 1 || ltb 4 a.count, 27)
    -- "N not 1 to 60"
    ∷ (some (λ x. ltb x.limit 1 || ltb 60 x.limit) (settings_read a), 1)
    -- "c above 100"
    ∷ (some (λ x. ltb 100 x.percent) (settings_read a), 2)
    -- "when this D is 0"
    ∷ (some (λ x. eqb (bound_of x.limit x.percent) 0) (settings_read a), 3)
    -- "after 3, r above 5"
    ∷ (some (λ x. ltb 5 x.tail) (settings_read a), 19)
    -- "28, after 19, W not 1 to 720"
    ∷ (ltb a.site 1 || ltb 720 a.site, 28)
    ∷ []

-- "Beside a refused opening stands the fresh station of 1, 100", "r is 0", and "one feeder and W 720".
abbrev pub least : Asked
least = record { count = 1; site = 720; settings = settings 1 100 0 ∷ [] }

unfoldable pub opening : Asked → Result
opening a =
    answering (first_of (open_refusals a)) (fresh least) []
    (record { answer = opened (map (λ g. g.bound) (fresh a).feeders); state = fresh a; list = [] })

-- The calls of a station that stands.
pub data Call : Type 0 where
  -- feeder, line, p, d, rate
  preview : ℕ → ℕ → ℕ → ℕ → ℕ → Call
  -- feeder, line, p, d, rate, the start shown
  commit : ℕ → ℕ → ℕ → ℕ → ℕ → ℕ → Call
  -- target, report list
  move : ℕ → List ℕ → Call
  -- feeder, starts
  offer : ℕ → List ℕ → Call
  -- feeder
  replan_latest : ℕ → Call
  -- feeder, allowance
  replan_lines : ℕ → ℕ → Call
  -- ticket
  enquire : ℕ → Call
  -- the tickets asked for, answer list
  board : List ℕ → List ℕ → Call
  -- ticket
  withdraw : ℕ → Call

-- the list that is lent to a call
abbrev pub lent : Call → List ℕ
lent (preview f line p d rate) = []
lent (commit f line p d rate shown) = []
lent (move target list) = list
lent (offer f ss) = ss
lent (replan_latest f) = []
lent (replan_lines f allowance) = []
lent (enquire ticket) = []
lent (board asked list) = list
lent (withdraw ticket) = []

-- An order, previewed or committed

-- "The order minute is the clock." It is active for its p and the feeder's r.
abbrev pub new_charge : State → ℕ → ℕ → ℕ → ℕ → ℕ → ℕ → Charge
new_charge s f line p d rate start =
    record {
      ticket = s.next;
      line = line;
      order_minute = s.clock;
      time = p;
      active_time = p + (feeder_of s f).tail;
      due = d;
      start = start;
      rate = rate;
    }

-- what an order draws, whenever it is due and wherever it starts
abbrev pub draw_for : State → ℕ → ℕ → ℕ → ℕ → Draw
draw_for s f line p rate = draw_of (new_charge s f line p 0 rate 0)

-- "The start is the smallest s not below the clock with which the held plan and this charge are sound together": "An order's
-- start must keep its feeder sound and the site within W."
abbrev pub start_for : State → ℕ → Draw → Found
start_for s f a = earliest (limits_of s f) s.clock (seen (limits_of s f) (charges_on s f)) a

-- whether the start shown is the one found
abbrev pub is_start : Found → ℕ → Bool
is_start (at start) shown = eqb start shown
is_start nothing shown = false

-- Refusals

-- "29, before 4, 10 and 11, no such feeder"
abbrev pub no_such_feeder : State → ℕ → Bool × ℕ
no_such_feeder s f = (ltb f 1 || ltb (length s.feeders) f, 29)

-- "Both meet the order's refusals". "Refusal 7 ends": no other condition gets this number.
abbrev pub order_refusals : State → ℕ → ℕ → ℕ → ℕ → ℕ → List (Bool × ℕ)
order_refusals s f line p d rate =
    no_such_feeder s f
    -- "line not 1 to 3"
    ∷ (ltb line 1 || ltb 3 line, 4)
    -- "p not 1 to 1,440"
    ∷ (ltb p 1 || ltb 1440 p, 5)
    -- "after 5, rate not 1 or 2"
    ∷ (ltb rate 1 || ltb 2 rate, 17)
    -- "after 17, rate above N or above D", and "Refusal 18 also covers a rate above W"
    ∷ (ltb (feeder_of s f).limit rate || ltb (feeder_of s f).bound rate || ltb s.site rate, 18)
    -- "d above 2,000,000"
    ∷ (ltb 2000000 d, 6)
    -- "180 charges held": "Refusals 10 and 13 look at the feeder"
    ∷ (leb places (length (charges_on s f)), 13)
    -- "65,535 tickets given"
    ∷ (ltb 65535 s.next, 14)
    ∷ []

-- the number of the feeder that holds a ticket, the first of them being number i; the one behind them where none does
abbrev pub feeder_with : ℕ → ℕ → List Feeder → ℕ
feeder_with ticket i [] = i
feeder_with ticket i (g ∷ gs) = cond (some (has_ticket ticket) g.charges) i (feeder_with ticket (suc i) gs)

-- the plan of feeder f is sound without the charge of a ticket
abbrev pub sound_without : State → ℕ → ℕ → Bool
sound_without s f ticket =
    sound (limits_of s f) s.clock (seen (limits_of s f) (without_ticket ticket (charges_on s f)))

-- "strictly rising": no number is below a, and each is above the one before it
abbrev pub rises_from : ℕ → List ℕ → Bool
rises_from a [] = true
rises_from a (x ∷ xs) = leb a x && rises_from (suc x) xs

-- "The board asks for up to 180 tickets at a time."
abbrev pub asked_at_most : ℕ
asked_at_most = 180

-- "Where several apply": the first of the call's table, for a refusal's "stated place goes before its number".
abbrev pub refusals : State → Call → List (Bool × ℕ)
refusals s (preview f line p d rate) = order_refusals s f line p d rate
refusals s (commit f line p d rate shown) =
    order_refusals s f line p d rate
    -- "after 14, commit whose shown start is not the earliest start at that moment"
    ++ ((not (is_start (start_for s f (draw_for s f line p rate)) shown), 16) ∷ [])
refusals s (move target list) =
    -- "target above 1,000,000"
    (ltb 1000000 target, 8)
    -- "report list under 360 places": "Refusal 9 requires 360 places for each feeder"
    ∷ (ltb (length list) (2 * places * length s.feeders), 9)
    -- "target below the clock"
    ∷ (ltb target s.clock, 12)
    ∷ []
refusals s (offer f ss) =
    no_such_feeder s f
    -- "list length is not the number of waiting charges"
    ∷ (not (eqb (length ss) (length (waiting_charges s.clock (charges_on s f)))), 10)
    ∷ []
refusals s (replan_latest f) = no_such_feeder s f ∷ []
refusals s (replan_lines f allowance) =
    no_such_feeder s f
    -- "allowance not 1 to 1,000"
    ∷ (ltb allowance 1 || ltb 1000 allowance, 11)
    ∷ []
refusals s (enquire ticket) =
    -- "no held charge has this ticket"
    (not (some (has_ticket ticket) (site_charges s)), 15) ∷ []
refusals s (board asked list) =
    -- "tickets not strictly rising or more than 180"
    (not (rises_from 0 asked) || ltb asked_at_most (length asked), 23)
    -- "answer list shorter than the ticket list"
    ∷ (ltb (length list) (length asked), 24)
    ∷ []
refusals s (withdraw ticket) =
    -- "no held charge has this ticket"
    (not (some (has_ticket ticket) (site_charges s)), 15)
    -- "after 15, the charge has begun"
    ∷ (some (λ c. has_ticket ticket c && is_begun s.clock c) (site_charges s), 25)
    -- "after 25, the rest would not be sound": the feeder's
    ∷ (not (sound_without s (feeder_with ticket 1 s.feeders) ticket), 26)
    ∷ []

-- Preview

-- "a preview that answers the start it would give and changes nothing". A sound plan always leaves a start (`earliest_found`),
-- so `nothing` is never met.
abbrev pub previewed_at : State → Found → Result
previewed_at s (at start) = record { answer = previewed start; state = s; list = [] }
previewed_at s nothing = record { answer = refused 0; state = s; list = [] }

unfoldable pub previewing : State → ℕ → ℕ → ℕ → ℕ → ℕ → Result
previewing s f line p d rate = previewed_at s (start_for s f (draw_for s f line p rate))

-- Commit

-- "No other start moves. .. Tickets rise by one."
abbrev pub taking : State → ℕ → Charge → State
taking s f c = holding s f (charges_on s f ++ (c ∷ [])) (suc s.next)

-- "The commit gives a ticket and exactly that start."
unfoldable pub committing : State → ℕ → ℕ → ℕ → ℕ → ℕ → ℕ → Result
committing s f line p d rate shown =
    record { answer = committed s.next shown; state = taking s f (new_charge s f line p d rate shown); list = [] }

-- Move the clock

-- "Charges with start at or above the old clock and below the target are reported"
abbrev pub is_passed : ℕ → ℕ → Charge → Bool
is_passed clock target c = leb clock c.start && ltb c.start target

-- "ordered by start, then ticket"
abbrev pub start_before : Charge → Charge → Bool
start_before a b = then_ticket a.start b.start a b

abbrev pub reported : ℕ → ℕ → List Charge → List Charge
reported clock target cs = sorted_by start_before (keep (is_passed clock target) cs)

-- "ticket, start, ticket, start"
abbrev pub pairs : List Charge → List ℕ
pairs [] = []
pairs (c ∷ cs) = c.ticket ∷ c.start ∷ pairs cs

-- "Places after them keep what they held."
abbrev pub written : List ℕ → List ℕ → List ℕ
written xs list = xs ++ drop (length xs) list

-- "Then finished charges are dropped", on every feeder.
abbrev pub moved_to : State → ℕ → State
moved_to s target =
    record {
      feeders = map (λ g. with_charges g (unfinished_charges target g.charges)) s.feeders;
      site = s.site;
      clock = target;
      next = s.next;
    }

-- "Answer: how many were reported, how many dropped."
unfoldable pub moving : State → ℕ → List ℕ → Result
moving s target list =
    let report : List Charge = reported s.clock target (site_charges s) in
    record {
      answer = moved (length report) (length (site_charges s) - length (site_charges (moved_to s target)));
      state = moved_to s target;
      list = written (pairs report) list;
    }

-- Offer and both replans

-- "Otherwise the station is unchanged. Answer: cause, lateness before and after (equal when kept), rounds used"
abbrev pub kept : State → ℕ → ℕ → ℕ → List ℕ → Result
kept s f cause rounds list =
    record { answer = planned cause (lateness (charges_on s f)) (lateness (charges_on s f)) rounds; state = s; list = list }

-- "Cause 0 means taken: the waiting charges get these starts." "A replan touches one feeder".
abbrev pub decided : State → ℕ → ℕ → List ℕ → List ℕ → ℕ → Result
decided s f rounds ss list zero =
    let new : List Charge = restarted s.clock (charges_on s f) ss in
    record {
      answer = planned 0 (lateness (charges_on s f)) (lateness new) rounds;
      state = holding s f new s.next;
      list = list;
    }
decided s f rounds ss list (suc k) = kept s f (suc k) rounds list

-- "All three end with the same test."
abbrev pub tested : State → ℕ → ℕ → Proposal → List ℕ → Result
tested s f rounds (starts ss) list = decided s f rounds ss list (judged (limits_of s f) s.clock (charges_on s f) ss)
tested s f rounds (none cause) list = kept s f cause rounds list

unfoldable pub offering : State → ℕ → List ℕ → Result
offering s f ss = tested s f 0 (starts ss) ss

-- "rounds used (0 but by lines)"
unfoldable pub replanning_latest : State → ℕ → Result
replanning_latest s f = tested s f 0 (latest (limits_of s f) s.clock (charges_on s f)) []

unfoldable pub replanning_lines : State → ℕ → ℕ → Result
replanning_lines s f allowance =
    let r : Replanned = by_lines (limits_of s f) s.clock allowance (charges_on s f) in
    tested s f r.rounds r.proposal []

-- Enquire

-- "waiting with its start, charging with start and end, or refusal 15". The end is s + p: in its tail a charge is still held,
-- and charging with an end at or below the clock.
abbrev pub told : ℕ → List Charge → ℕ → Answer
told clock [] ticket = refused 15
told clock (c ∷ cs) ticket =
    cond (eqb c.ticket ticket)
    (cond (is_begun clock c) (charging c.start (end_of c) c.rate) (waiting c.start c.rate))
    (told clock cs ticket)

unfoldable pub enquiring : State → ℕ → Result
enquiring s ticket = record { answer = told s.clock (site_charges s) ticket; state = s; list = [] }

-- Board

-- "writes the start of each to another such list, or 4,294,967,295 for one not held"
abbrev pub not_held : ℕ
not_held = 4294967295

abbrev pub start_or_not_held : List Charge → ℕ → ℕ
start_or_not_held [] ticket = not_held
start_or_not_held (c ∷ cs) ticket = cond (eqb c.ticket ticket) c.start (start_or_not_held cs ticket)

-- "those with a ticket not above the highest asked": not above the highest is not above one of them, and where none is asked
-- there is none, "0 for an empty list"
abbrev pub is_looked_at : List ℕ → Charge → Bool
is_looked_at asked c = some (leb c.ticket) asked

-- "Later places of the answer list are kept."
unfoldable pub boarding : State → List ℕ → List ℕ → Result
boarding s asked list =
    record {
      answer = looked (length (keep (is_looked_at asked) (site_charges s)));
      state = s;
      list = written (map (start_or_not_held (site_charges s)) asked) list;
    }

-- Withdraw

-- "A waiting charge is removed, and its place is free .. no other start moves." The next ticket stays, so its own is not given
-- again.
unfoldable pub withdrawing : State → ℕ → Result
withdrawing s ticket =
    let f : ℕ = feeder_with ticket 1 s.feeders in
    record { answer = withdrawn; state = holding s f (without_ticket ticket (charges_on s f)) s.next; list = [] }

-- One call

-- what comes of a call that is not refused
abbrev pub granted : State → Call → Result
granted s (preview f line p d rate) = previewing s f line p d rate
granted s (commit f line p d rate shown) = committing s f line p d rate shown
granted s (move target list) = moving s target list
granted s (offer f ss) = offering s f ss
granted s (replan_latest f) = replanning_latest s f
granted s (replan_lines f allowance) = replanning_lines s f allowance
granted s (enquire ticket) = enquiring s ticket
granted s (board asked list) = boarding s asked list
granted s (withdraw ticket) = withdrawing s ticket

-- "Each gets its number and changes neither the station nor any lent list. No other call is refused, and every call returns."
abbrev pub step : State → Call → Result
step s c = answering (first_of (refusals s c)) s (lent c) (granted s c)

-- "Each call gets the station that the last one left"
abbrev pub run : State → List Call → List Result
run s [] = []
run s (c ∷ cs) = let r : Result = step s c in r ∷ run r.state cs
