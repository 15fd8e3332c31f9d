-- What is known after a list of calls, read off the calls, their answers and the lists afterwards
-- (docs/RULES.md, section 6).
use Rattle.std.specs.Prelude.{◌≡◌, ℕ, zero, suc, ◌+◌, ◌-◌, Bool, true, false, cond, not, List, [], ◌∷◌, ◌++◌, map, eqb, get_or}
use Rattle.rules.specs.Basics.{keep, some}
use Rattle.rules.specs.Load.{draw, Load, load_from, count, drawn}
use Rattle.rules.specs.Charge.{Charge, begun_charges}
use Rattle.rules.specs.Site.{Feeder, State, site_charges}
use Rattle.rules.specs.Calls.{Answer, refused, opened, previewed, committed, moved, planned, waiting, charging, looked, withdrawn, Result, Call, preview, commit, move, offer, replan_latest, replan_lines, enquire, board, withdraw}

-- An accepted order: its ticket is that of the answer. "Its order minute is the clock at that moment; its line and p are
-- those passed in", and so are its feeder and its rate.
pub record Order : Type 0 where
  pub ticket : ℕ
  pub feeder : ℕ
  pub line : ℕ
  pub minute : ℕ
  pub time : ℕ
  pub rate : ℕ

-- one pair of a report list: "ticket, start"
pub record Report : Type 0 where
  pub ticket : ℕ
  pub start : ℕ

-- What an answer says

-- whether it refuses, the ticket where it gives one, how many were reported, the start where an enquiry gives one
-- (0 where it does not)
pub record Said : Type 0 where
  pub refuses : Bool
  pub tickets : List ℕ
  pub reported : ℕ
  pub start : ℕ

abbrev says : Bool → List ℕ → ℕ → ℕ → Said
says refuses tickets reported start =
    record { refuses = refuses; tickets = tickets; reported = reported; start = start }

abbrev pub said : Answer → Said
said (refused k) = says true [] 0 0
said (opened d) = says false [] 0 0
said (previewed s) = says false [] 0 0
said (committed t s) = says false (t ∷ []) 0 0
said (moved n m) = says false [] n 0
said (planned c b a n) = says false [] 0 0
said (waiting s rate) = says false [] 0 s
said (charging s e rate) = says false [] 0 s
said (looked n) = says false [] 0 0
said withdrawn = says false [] 0 0

abbrev pub is_refused : Answer → Bool
is_refused a = (said a).refuses

abbrev pub ticket_in : Answer → List ℕ
ticket_in a = (said a).tickets

abbrev pub reported_in : Answer → ℕ
reported_in a = (said a).reported

abbrev pub start_in : Answer → ℕ
start_in a = (said a).start

-- What one call adds

-- the first n pairs of a list
abbrev pub first_pairs : ℕ → List ℕ → List Report
first_pairs zero l = []
first_pairs (suc n) [] = []
first_pairs (suc n) (t ∷ []) = []
first_pairs (suc n) (t ∷ s ∷ l) = record { ticket = t; start = s } ∷ first_pairs n l

-- the clock after a call, the order that it accepted, the ticket that it withdrew, and what it reported
pub record Learnt : Type 0 where
  pub clock : ℕ
  pub orders : List Order
  pub withdrawn : List ℕ
  pub reports : List Report

abbrev pub nothing_new : ℕ → Learnt
nothing_new clock = record { clock = clock; orders = []; withdrawn = []; reports = [] }

-- "The clock is the target of the last move not refused." "An order is accepted when it is answered with a ticket":
-- "an order is accepted at its commit". A call with its answer and its list afterwards, made at some clock.
abbrev pub learnt : ℕ → Call → Answer → List ℕ → Learnt
learnt clock (preview f line p d rate) a list = nothing_new clock
learnt clock (commit f line p d rate shown) a list =
    record {
      clock = clock;
      orders = map (λ t. record { ticket = t; feeder = f; line = line; minute = clock; time = p; rate = rate }) (ticket_in a);
      withdrawn = [];
      reports = [];
    }
learnt clock (move target lent) a list =
    record { clock = cond (is_refused a) clock target; orders = []; withdrawn = []; reports = first_pairs (reported_in a) list }
learnt clock (offer f ss) a list = nothing_new clock
learnt clock (replan_latest f) a list = nothing_new clock
learnt clock (replan_lines f allowance) a list = nothing_new clock
learnt clock (enquire ticket) a list = nothing_new clock
learnt clock (board asked lent) a list = nothing_new clock
-- an order is withdrawn by a withdrawal of its ticket that is not refused
learnt clock (withdraw ticket) a list =
    record { clock = clock; orders = []; withdrawn = cond (is_refused a) [] (ticket ∷ []); reports = [] }

-- What is known after a list of calls

-- what a call to a station gives: `step` of the rules, and something else in the wrong stations of specs/
abbrev pub Gives : Type 0
Gives = State → Call → Result

-- r of each feeder as it was opened with, the clock, all accepted orders, all tickets withdrawn and all reports, in the order of the calls, behind
-- what the station held at the beginning;
-- the station left serves for the next call and for enquiries only
pub record Past : Type 0 where
  pub tails : List ℕ
  pub clock : ℕ
  pub orders : List Order
  pub withdrawn : List ℕ
  pub reports : List Report
  pub station : State

-- the order that a charge of feeder f stands for, and the pair that reports it
abbrev pub order_of : ℕ → Charge → Order
order_of f c = record { ticket = c.ticket; feeder = f; line = c.line; minute = c.order_minute; time = c.time; rate = c.rate }

-- those of some feeders, the first of them being number i
abbrev pub orders_from : ℕ → List Feeder → List Order
orders_from i [] = []
orders_from i (g ∷ gs) = map (order_of i) g.charges ++ orders_from (suc i) gs

abbrev pub orders_of : State → List Order
orders_of s = orders_from 1 s.feeders

abbrev pub report_of : Charge → Report
report_of c = record { ticket = c.ticket; start = c.start }

-- An opening gives clock "0 before one" and no charges, so that nothing is known before the first call. A list of calls may begin
-- with another station, "with the charges it holds counted too, their lines, times and rates, and the starts of those begun,
-- as it has them".
abbrev pub beginning : State → Past
beginning s =
    record {
      tails = map (λ g. g.tail) s.feeders;
      clock = s.clock;
      orders = orders_of s;
      withdrawn = [];
      reports = map report_of (begun_charges s.clock (site_charges s));
      station = s;
    }

abbrev pub extended : Past → Call → Result → Past
extended h c r =
    let new : Learnt = learnt h.clock c r.answer r.list in
    record {
      tails = h.tails;
      clock = new.clock;
      orders = h.orders ++ new.orders;
      withdrawn = h.withdrawn ++ new.withdrawn;
      reports = h.reports ++ new.reports;
      station = r.state;
    }

-- "Each call gets the station that the last one left"
abbrev pub after : Gives → Past → List Call → Past
after gives h [] = h
after gives h (c ∷ calls) = after gives (extended h c (gives h.station c)) calls

abbrev pub past : Gives → State → List Call → Past
past gives s calls = after gives (beginning s) calls

-- Orders that stay

abbrev pub is_withdrawn : List ℕ → Order → Bool
is_withdrawn ws o = some (eqb o.ticket) ws

-- the orders whose tickets are not withdrawn
abbrev pub staying : List ℕ → List Order → List Order
staying ws os = keep (λ o. not (is_withdrawn ws o)) os

-- "someone who stays"
abbrev pub staying_orders : Past → List Order
staying_orders h = staying h.withdrawn h.orders

abbrev pub withdrawn_orders : Past → List Order
withdrawn_orders h = keep (is_withdrawn h.withdrawn) h.orders

-- the orders that name feeder f
abbrev pub on_feeder : ℕ → List Order → List Order
on_feeder f os = keep (λ o. eqb o.feeder f) os

-- Reports, starts and counts

abbrev pub times_reported : List Report → ℕ → ℕ
times_reported [] t = 0
times_reported (r ∷ rs) t = cond (eqb r.ticket t) 1 0 + times_reported rs t

-- the start reported with ticket t, s where there is none
abbrev pub reported_start : List Report → ℕ → ℕ → ℕ
reported_start [] t s = s
reported_start (r ∷ rs) t s = cond (eqb r.ticket t) r.start (reported_start rs t s)

-- what an enquiry would answer
abbrev pub enquiry : Gives → Past → ℕ → Answer
enquiry gives h t = (gives h.station (enquire t)).answer

-- "the start of an order is the one reported by the clock move that passed it, and until then the one that an enquiry would give"
-- (0 where neither gives one; the fields `reported` and `waits` of demand 3 leave no order so that stays; a withdrawn order has no start, and nothing may count it)
abbrev pub start_of : Gives → Past → Order → ℕ
start_of gives h o = reported_start h.reports o.ticket (start_in (enquiry gives h o.ticket))

-- "Its end is this start + p."
abbrev pub end_of : Gives → Past → Order → ℕ
end_of gives h o = start_of gives h o + o.time

-- r of an order: that of its feeder
abbrev pub tail_of : List ℕ → Order → ℕ
tail_of tails o = get_or tails (o.feeder - 1) 0

-- s + p + r, from which on it draws nothing: it "is finished when s + p + r is at or below the clock"
abbrev pub active_until : Gives → Past → Order → ℕ
active_until gives h o = end_of gives h o + tail_of h.tails o

-- "each active from its start as above", unbroken for its full time and "for r minutes after its end"
abbrev pub load_of : Gives → Past → Order → Load
load_of gives h o = load_from (draw o.line (o.time + tail_of h.tails o) o.rate) (start_of gives h o)

-- "A line's count in a minute takes all accepted orders of the list, dropped ones too", each with its rate: "What members were
-- promised for every minute is from then on a promise about these weighted counts." "A withdrawn order has no charge".
-- The lines are those of feeder f.
abbrev pub count_in : Gives → Past → ℕ → ℕ → ℕ → ℕ
count_in gives h f l t = count (map (load_of gives h) (on_feeder f (staying_orders h))) l t

-- "the weighted count of all lines in a minute", of all feeders
abbrev pub site_in : Gives → Past → ℕ → ℕ
site_in gives h t = drawn (map (load_of gives h) (staying_orders h)) t

-- "tickets are 1, 2, 3 and so on in the order of acceptance": here from i on
abbrev pub Numbered : ℕ → List Order → Type 0
Numbered i [] = Unit {0}
Numbered i (o ∷ os) = (o.ticket ≡ i) × Numbered (suc i) os

-- "the charging times of all accepted orders": "The ceiling on ends gains r for each accepted order", that of its feeder. Of a withdrawn order "its time
-- still counts in the ceiling on ends".
abbrev pub total_time : List ℕ → List Order → ℕ
total_time tails [] = 0
total_time tails (o ∷ os) = o.time + tail_of tails o + total_time tails os

-- "the order minute of the last accepted order", m without one
abbrev pub last_minute : ℕ → List Order → ℕ
last_minute m [] = m
last_minute m (o ∷ os) = last_minute o.minute os
