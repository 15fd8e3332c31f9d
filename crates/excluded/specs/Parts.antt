-- The rules in parts, so that a wrong station can be said as the rules with one thing changed.
use Rattle.std.specs.Prelude.{ℕ, suc, Bool, not, cond, List, [], map, eqb}
use Rattle.rules.specs.Basics.{Found, first_of, keep}
use Rattle.rules.specs.Load.{Draw}
use Rattle.rules.specs.Charge.{Charge, starting}
use Rattle.rules.specs.Site.{Feeder, State, with_charges}
use Rattle.rules.specs.Calls.{Answer, refused, Result, answering, Call, preview, commit, move, offer, replan_latest, replan_lines, enquire, board, withdraw, lent, draw_for, is_start, refusals, previewed_at, previewing, committing, moving, offering, replanning_latest, replanning_lines, enquiring, boarding, withdrawing}
use Rattle.guarantee.specs.Past.{Gives}

-- the refusals, and what comes of each kind of call that is not refused
pub record Parts : Type 0 where
  pub refuses : State → Call → List (Bool × ℕ)
  pub previews : State → ℕ → ℕ → ℕ → ℕ → ℕ → Result
  pub commits : State → ℕ → ℕ → ℕ → ℕ → ℕ → ℕ → Result
  pub moves : State → ℕ → List ℕ → Result
  pub offers : State → ℕ → List ℕ → Result
  pub replans_latest : State → ℕ → Result
  pub replans_lines : State → ℕ → ℕ → Result
  pub enquiries : State → ℕ → Result
  pub boards : State → List ℕ → List ℕ → Result
  pub withdrawals : State → ℕ → Result

abbrev granted_by : Parts → State → Call → Result
granted_by p s (preview f line time d rate) = p.previews s f line time d rate
granted_by p s (commit f line time d rate shown) = p.commits s f line time d rate shown
granted_by p s (move target list) = p.moves s target list
granted_by p s (offer f ss) = p.offers s f ss
granted_by p s (replan_latest f) = p.replans_latest s f
granted_by p s (replan_lines f allowance) = p.replans_lines s f allowance
granted_by p s (enquire ticket) = p.enquiries s ticket
granted_by p s (board asked list) = p.boards s asked list
granted_by p s (withdraw ticket) = p.withdrawals s ticket

-- the station with these parts
abbrev made : Parts → Gives
made p s c = answering (first_of (p.refuses s c)) s (lent c) (granted_by p s c)

abbrev parts :
    (State → Call → List (Bool × ℕ))
    → (State → ℕ → ℕ → ℕ → ℕ → ℕ → Result)
    → (State → ℕ → ℕ → ℕ → ℕ → ℕ → ℕ → Result)
    → (State → ℕ → List ℕ → Result)
    → (State → ℕ → List ℕ → Result)
    → (State → ℕ → Result)
    → (State → ℕ → ℕ → Result)
    → (State → ℕ → Result)
    → (State → List ℕ → List ℕ → Result)
    → (State → ℕ → Result)
    → Parts
parts refuses previews commits moves offers latest lines enquiries boards withdrawals =
    record {
      refuses = refuses;
      previews = previews;
      commits = commits;
      moves = moves;
      offers = offers;
      replans_latest = latest;
      replans_lines = lines;
      enquiries = enquiries;
      boards = boards;
      withdrawals = withdrawals;
    }

-- One part changed

abbrev pub with_refusals : (State → Call → List (Bool × ℕ)) → Gives
with_refusals r = made (parts r previewing committing moving offering replanning_latest replanning_lines enquiring boarding withdrawing)

abbrev pub with_previews : (State → ℕ → ℕ → ℕ → ℕ → ℕ → Result) → Gives
with_previews f = made (parts refusals f committing moving offering replanning_latest replanning_lines enquiring boarding withdrawing)

abbrev pub with_commits : (State → ℕ → ℕ → ℕ → ℕ → ℕ → ℕ → Result) → Gives
with_commits f = made (parts refusals previewing f moving offering replanning_latest replanning_lines enquiring boarding withdrawing)

abbrev pub with_moves : (State → ℕ → List ℕ → Result) → Gives
with_moves m = made (parts refusals previewing committing m offering replanning_latest replanning_lines enquiring boarding withdrawing)

abbrev pub with_offers : (State → ℕ → List ℕ → Result) → Gives
with_offers f = made (parts refusals previewing committing moving f replanning_latest replanning_lines enquiring boarding withdrawing)

abbrev pub with_replans_latest : (State → ℕ → Result) → Gives
with_replans_latest a = made (parts refusals previewing committing moving offering a replanning_lines enquiring boarding withdrawing)

abbrev pub with_replans_lines : (State → ℕ → ℕ → Result) → Gives
with_replans_lines b = made (parts refusals previewing committing moving offering replanning_latest b enquiring boarding withdrawing)

abbrev pub with_enquiries : (State → ℕ → Result) → Gives
with_enquiries e = made (parts refusals previewing committing moving offering replanning_latest replanning_lines e boarding withdrawing)

abbrev pub with_boards : (State → List ℕ → List ℕ → Result) → Gives
with_boards b = made (parts refusals previewing committing moving offering replanning_latest replanning_lines enquiring b withdrawing)

abbrev pub with_withdrawals : (State → ℕ → Result) → Gives
with_withdrawals w = made (parts refusals previewing committing moving offering replanning_latest replanning_lines enquiring boarding w)

-- Orders

-- a condition that is not looked at
abbrev pub unnumbered : ℕ → List (Bool × ℕ) → List (Bool × ℕ)
unnumbered k rows = keep (λ row. not (eqb row.1 k)) rows

-- previews, commits that look at the start shown themselves, and moves
abbrev orders :
    (State → ℕ → ℕ → ℕ → ℕ → ℕ → Result) → (State → ℕ → ℕ → ℕ → ℕ → ℕ → ℕ → Result) → (State → ℕ → List ℕ → Result) → Gives
orders f g m =
    made
    (parts (λ s c. unnumbered 16 (refusals s c)) f g m offering replanning_latest replanning_lines enquiring boarding withdrawing)

-- commits that do not look at the start shown
abbrev pub with_untested : (State → ℕ → ℕ → ℕ → ℕ → ℕ → ℕ → Result) → Gives
with_untested g = orders previewing g moving

-- a commit with a start for which the test holds is taken, any other refused
abbrev taken_where : (State → ℕ → Draw → ℕ → Bool) → State → ℕ → ℕ → ℕ → ℕ → ℕ → ℕ → Result
taken_where test s f line p d rate shown =
    cond (test s f (draw_for s f line p rate) shown) (committing s f line p d rate shown)
    (record { answer = refused 16; state = s; list = [] })

-- another test of the start shown
abbrev pub with_test : (State → ℕ → Draw → ℕ → Bool) → Gives
with_test test = with_untested (taken_where test)

-- another search, which previews show and commits compare with, and other moves
abbrev pub with_search_and_moves : (State → ℕ → Draw → Found) → (State → ℕ → List ℕ → Result) → Gives
with_search_and_moves find m =
    orders (λ s f line p d rate. previewed_at s (find s f (draw_for s f line p rate))) (taken_where (λ s f a shown. is_start (find s f a) shown)) m

abbrev pub with_search : (State → ℕ → Draw → Found) → Gives
with_search find = with_search_and_moves find moving

-- Results, stations and charges with one thing changed

abbrev pub saying : Answer → Result → Result
saying a r = record { answer = a; state = r.state; list = r.list }

abbrev pub leaving : State → Result → Result
leaving s r = record { answer = r.answer; state = s; list = r.list }

abbrev pub writing : List ℕ → Result → Result
writing list r = record { answer = r.answer; state = r.state; list = list }

abbrev pub ticketing : ℕ → State → State
ticketing t s = record { feeders = s.feeders; site = s.site; clock = s.clock; next = t }

abbrev pub clocking : ℕ → State → State
clocking k s = record { feeders = s.feeders; site = s.site; clock = k; next = s.next }

-- every feeder by itself
abbrev pub feeders_by : (Feeder → Feeder) → State → State
feeders_by h s = record { feeders = map h s.feeders; site = s.site; clock = s.clock; next = s.next }

-- with the bound that is made of a feeder
abbrev pub bounding : (Feeder → ℕ) → State → State
bounding d =
    feeders_by
    (λ g. record { limit = g.limit; percent = g.percent; bound = d g; tail = g.tail; charges = g.charges })

abbrev pub put_off : Charge → Charge
put_off c = starting c (suc c.start)

-- the same charge on another line, for another time, active for another time, and at another rate
abbrev drawing : ℕ → ℕ → ℕ → ℕ → Charge → Charge
drawing line time active_time rate c =
    record {
      ticket = c.ticket;
      line = line;
      order_minute = c.order_minute;
      time = time;
      active_time = active_time;
      due = c.due;
      start = c.start;
      rate = rate;
    }

abbrev pub of_line : ℕ → Charge → Charge
of_line line c = drawing line c.time c.active_time c.rate c

abbrev pub at_rate : ℕ → Charge → Charge
at_rate rate c = drawing c.line c.time c.active_time rate c

-- without its tail, and with the tail taken for charging time
abbrev pub without_tail : Charge → Charge
without_tail c = drawing c.line c.time c.time c.rate c

abbrev pub tail_charged : Charge → Charge
tail_charged c = drawing c.line c.active_time c.active_time c.rate c

abbrev pub charges_by : (Charge → Charge) → State → State
charges_by h = feeders_by (λ g. with_charges g (map h g.charges))
