-- The rules before N7, written out where they say when a charge is active and when it is finished: "It is active in minutes s to
-- s + p − 1", "A charge whose end is at or below the clock is finished", and no opening takes r. All else is the rules' own,
-- calls that came later too.
-- (docs/RULES.md, section 1)
use Rattle.std.specs.Prelude.{◌≡◌, ℕ, ◌-◌, Bool, not, ◌||◌, List, [], ◌∷◌, ◌++◌, map, ltb, leb, eqb, length}
use Rattle.rules.specs.Basics.{Found, first_of, keep, some, Each}
use Rattle.rules.specs.Load.{Load, draw, load_from, elsewhere, Limits, limits}
use Rattle.rules.specs.Charge.{Charge, end_of}
use Rattle.rules.specs.Search.{earliest}
use Rattle.rules.specs.Site.{Feeder, State, feeder_of, charges_on, site_charges, others_of, with_charges}
use Rattle.rules.specs.Calls.{Asked, settings_read, committed, moved, opened, Result, answering, bound_of, fresh, least, Call, preview, commit, move, offer, replan_latest, replan_lines, enquire, board, withdraw, lent, is_start, order_refusals, refusals, previewed_at, taking, reported, pairs, written, offering, replanning_latest, replanning_lines, enquiring, boarding, withdrawing}

-- Charges

-- "It is active in minutes s to s + p − 1."
abbrev pub load_before : Charge → Load
load_before c = load_from (draw c.line c.time c.rate) c.start

abbrev pub loads_before : List Charge → List Load
loads_before cs = map load_before cs

-- "A charge whose end is at or below the clock is finished."
abbrev pub unfinished_before : ℕ → List Charge → List Charge
unfinished_before clock cs = keep (λ c. not (leb (end_of c) clock)) cs

-- the same charge, active for another time
abbrev pub active_for : ℕ → Charge → Charge
active_for k c =
    record {
      ticket = c.ticket;
      line = c.line;
      order_minute = c.order_minute;
      time = c.time;
      active_time = k;
      due = c.due;
      start = c.start;
      rate = c.rate;
    }

-- The site in which each charge is active for its p alone. Offers and replans read of a charge's minutes nothing but its load:
-- `load_before` on this site (`load_then` in proofs/Untailed.antt).
abbrev pub feeder_before : Feeder → Feeder
feeder_before g = with_charges g (map (λ c. active_for c.time c) g.charges)

abbrev pub station_before : State → State
station_before s = record { feeders = map feeder_before s.feeders; site = s.site; clock = s.clock; next = s.next }

-- The calls

abbrev pub new_charge_before : State → ℕ → ℕ → ℕ → ℕ → ℕ → Charge
new_charge_before s line p d rate start =
    record {
      ticket = s.next;
      line = line;
      order_minute = s.clock;
      time = p;
      active_time = p;
      due = d;
      start = start;
      rate = rate;
    }

abbrev pub limits_before : State → ℕ → Limits
limits_before s f =
    limits (feeder_of s f).limit (feeder_of s f).bound s.site (map elsewhere (loads_before (others_of s f)))

-- "The start is the smallest s not below the clock with which the held plan and this charge are sound together."
abbrev pub start_for_before : State → ℕ → ℕ → ℕ → ℕ → Found
start_for_before s f line p rate =
    earliest (limits_before s f) s.clock ((limits_before s f).others ++ loads_before (charges_on s f)) (draw line p rate)

abbrev pub refusals_before : State → Call → List (Bool × ℕ)
refusals_before s (preview f line p d rate) = order_refusals s f line p d rate
refusals_before s (commit f line p d rate shown) =
    order_refusals s f line p d rate ++ ((not (is_start (start_for_before s f line p rate) shown), 16) ∷ [])
refusals_before s (move target list) = refusals s (move target list)
refusals_before s (offer f ss) = refusals s (offer f ss)
refusals_before s (replan_latest f) = refusals s (replan_latest f)
refusals_before s (replan_lines f allowance) = refusals s (replan_lines f allowance)
refusals_before s (enquire ticket) = refusals s (enquire ticket)
refusals_before s (board asked list) = refusals s (board asked list)
refusals_before s (withdraw ticket) = refusals s (withdraw ticket)

-- "Then finished charges are dropped."
abbrev pub moved_before : State → ℕ → State
moved_before s target =
    record {
      feeders = map (λ g. with_charges g (unfinished_before target g.charges)) s.feeders;
      site = s.site;
      clock = target;
      next = s.next;
    }

abbrev pub moving_before : State → ℕ → List ℕ → Result
moving_before s target list =
    let report : List Charge = reported s.clock target (site_charges s) in
    record {
      answer = moved (length report) (length (site_charges s) - length (site_charges (moved_before s target)));
      state = moved_before s target;
      list = written (pairs report) list;
    }

abbrev pub granted_before : State → Call → Result
granted_before s (preview f line p d rate) = previewed_at s (start_for_before s f line p rate)
granted_before s (commit f line p d rate shown) =
    record { answer = committed s.next shown; state = taking s f (new_charge_before s line p d rate shown); list = [] }
granted_before s (move target list) = moving_before s target list
granted_before s (offer f ss) = offering (station_before s) f ss
granted_before s (replan_latest f) = replanning_latest (station_before s) f
granted_before s (replan_lines f allowance) = replanning_lines (station_before s) f allowance
granted_before s (enquire ticket) = enquiring s ticket
granted_before s (board asked list) = boarding s asked list
granted_before s (withdraw ticket) = withdrawing s ticket

abbrev pub step_before : State → Call → Result
step_before s c = answering (first_of (refusals_before s c)) s (lent c) (granted_before s c)

abbrev pub run_before : State → List Call → List Result
run_before s [] = []
run_before s (c ∷ cs) = let r : Result = step_before s c in r ∷ run_before r.state cs

-- Openings: without refusal 19

abbrev pub open_refusals_before : Asked → List (Bool × ℕ)
open_refusals_before a =
    (ltb a.count 1 || ltb 4 a.count, 27)
    ∷ (some (λ x. ltb x.limit 1 || ltb 60 x.limit) (settings_read a), 1)
    ∷ (some (λ x. ltb 100 x.percent) (settings_read a), 2)
    ∷ (some (λ x. eqb (bound_of x.limit x.percent) 0) (settings_read a), 3)
    ∷ (ltb a.site 1 || ltb 720 a.site, 28)
    ∷ []

abbrev pub opening_before : Asked → Result
opening_before a =
    answering (first_of (open_refusals_before a)) (fresh least) []
    (record { answer = opened (map (λ g. g.bound) (fresh a).feeders); state = fresh a; list = [] })

-- What was there then

-- an opening that asks for r 0 on each feeder
abbrev pub AsksNoTail : Asked → Type 0
AsksNoTail a = Each (λ x. x.tail ≡ 0) (settings_read a)

-- a site without r, in which each charge is active for its p
pub record WithoutTails (s : State) : Type 0 where
  pub none : Each (λ g. g.tail ≡ 0) s.feeders
  pub active : Each (λ c. c.active_time ≡ c.time) (site_charges s)
