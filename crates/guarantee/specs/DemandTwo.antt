-- Demand 2: when a plan is taken, the start that an order is shown and gets, what offers and replans leave, what the board
-- shows, and when an order can be withdrawn.
use Rattle.std.specs.Prelude.{◌↔◌, ◌≡◌, ℕ, suc, ◌+◌, max, ◌≤◌, ◌<◌, true, cond, ◌&&◌, List, [], ◌∷◌, map, leb, length}
use Rattle.rules.specs.Basics.{keep, some, Each}
use Rattle.rules.specs.Load.{Load, Draw, active, count, drawn, last_until, IsLine}
use Rattle.rules.specs.Charge.{Charge, starting, active_until, load_of, loads_of, is_waiting, begun_charges, waiting_charges, has_ticket, without_ticket, lateness}
use Rattle.rules.specs.Search.{added}
use Rattle.rules.specs.Replan.{Proposal, starts, none, latest, by_lines}
use Rattle.rules.specs.Judgement.{restarted, judged}
use Rattle.rules.specs.Site.{State, feeder_of, charges_on, site_charges, others_of, limits_of, holding}
use Rattle.rules.specs.Calls.{Answer, refused, previewed, committed, planned, looked, withdrawn, Result, Call, preview, commit, offer, replan_latest, replan_lines, enquire, board, withdraw, lent, new_charge, draw_for, refusals, feeder_with, taking, written, not_held}
use Rattle.guarantee.specs.Past.{Gives, is_refused, start_in}
use Rattle.guarantee.specs.DemandOne.{NoneApplies}

-- Constraints III and IV in every minute from the clock on, with the lines as parameters. "Soundness is compared with this D
-- and no longer with the paper's formula (2); the other constraints still come from the paper": III is the paper's formula
-- (1); its (2) asks that two counts differ by at most c × N / 100, and D is that number rounded, up or down (`bound_of`).
-- The loads are those of feeder f.
pub record SoundPlan (s : State) (f : ℕ) (xs : List Load) : Type 0 where
  -- III: "each count is at most N"
  pub limit : (l t : ℕ) → IsLine l → s.clock ≤ t → count xs l t ≤ (feeder_of s f).limit
  -- IV: "each two counts differ by at most D"
  pub balance : (l m t : ℕ) → IsLine l → IsLine m → s.clock ≤ t → count xs l t ≤ count xs m t + (feeder_of s f).bound
  -- "a site limit W on the weighted count of all lines in a minute", with what the other feeders hold
  pub site : (t : ℕ) → s.clock ≤ t → drawn (loads_of (others_of s f)) t + drawn xs t ≤ s.site

-- constraint II: a charge is active from its start to its end and the r minutes of its tail, and in no other minute. It holds
-- of every charge, since a charge has one start and one time: a list of starts cannot ask for a break. It says that the
-- minutes which `count` takes are these. That answers show no break is `charges` of demand 3: an enquiry gives one start and
-- one end at every clock from its start until it is finished.
abbrev pub Unbroken : Charge → Type 0
Unbroken c = (t : ℕ) → (active (load_of c) t ≡ true) ↔ ((c.start ≤ t) × (t < active_until c))

-- What demand 2 asks of a list of starts for feeder f; `new` is its held charges, the waiting ones with these starts.
pub record Better (s : State) (f : ℕ) (ss : List ℕ) (new : List Charge) : Type 0 where
  -- "it starts nothing before the clock,"
  pub not_before_clock : Each (λ u. s.clock ≤ u) ss
  -- "meets constraints I to IV of the published paper,": I to III as the paper has them, IV with D for its formula (2)
  -- I: follows from the field above, since order minutes are not above the clock and begun charges keep their starts
  -- (`none_before_order` in proofs/Taking.antt)
  pub not_before_order : Each (λ c. c.order_minute ≤ c.start) new
  -- II
  pub unbroken : Each Unbroken new
  -- III and IV
  pub sound : SoundPlan s f (loads_of new)
  -- "ends no later than the held plan": "the largest s + p + r of the site"
  pub no_later : max (last_until (loads_of (others_of s f))) (last_until (loads_of new)) ≤ last_until (loads_of (site_charges s))
  -- "and is less late"
  pub less_late : lateness new < lateness (charges_on s f)

-- "Cause 0 means taken"
abbrev pub Taken : Answer → Type 0
Taken a = (before : ℕ) × (after : ℕ) × (rounds : ℕ) × (a ≡ planned 0 before after rounds)

-- "the waiting charges get these starts", and nothing else is changed: "A replan touches one feeder"
pub record GivenStarts (s : State) (f : ℕ) (ss : List ℕ) (next : State) : Type 0 where
  pub waiting_starts : map (λ (c : Charge). c.start) (waiting_charges s.clock (charges_on next f)) ≡ ss
  pub begun_same : begun_charges s.clock (charges_on next f) ≡ begun_charges s.clock (charges_on s f)
  -- but for the starts
  pub charges_same : map (λ c. starting c 0) (charges_on next f) ≡ map (λ c. starting c 0) (charges_on s f)
  pub station_same : next ≡ holding s f (charges_on next f) s.next

-- the cause for keeping the old plan, "first that applies", and 0 for taking the new one
abbrev pub cause_of : State → ℕ → Proposal → ℕ
cause_of s f (starts ss) = judged (limits_of s f) s.clock (charges_on s f) ss
cause_of s f (none cause) = cause

-- "All three end with the same test." The result of a call that comes with a list of starts, or with none, after some rounds.
pub record Tested (s : State) (f : ℕ) (call : Call) (proposal : Proposal) (rounds : ℕ) (r : Result) : Type 0 where
  -- "taken exactly when": not refused, and its list is better. It follows from demand 1 and `answer` (`taken_follows` in
  -- proofs/Taking.antt), and says when the cause is 0 in the demand's own words.
  pub taken :
      Taken r.answer
      ↔ (NoneApplies (refusals s call)
      × ((ss : List ℕ) × (proposal ≡ starts ss) × Better s f ss (restarted s.clock (charges_on s f) ss)))
  pub given : (ss : List ℕ) → proposal ≡ starts ss → Taken r.answer → GivenStarts s f ss r.state
  -- "Otherwise the station is unchanged."
  pub unchanged : (Taken r.answer → ⊥) → r.state ≡ s
  -- "Answer: cause, lateness before and after (equal when kept), rounds used"
  pub answer :
      NoneApplies (refusals s call)
      → r.answer ≡ planned (cause_of s f proposal) (lateness (charges_on s f)) (lateness (charges_on r.state f)) rounds
  pub same_list_lem : r.list ≡ lent call

-- "the earliest start that these constraints allow with no other start moved", of what an order draws
pub record EarliestStart (s : State) (f : ℕ) (a : Draw) (start : ℕ) : Type 0 where
  -- constraint I: the order minute is the clock
  pub not_early : s.clock ≤ start
  pub sound : SoundPlan s f (added (loads_of (charges_on s f)) a start)
  pub earliest : (u : ℕ) → s.clock ≤ u → SoundPlan s f (added (loads_of (charges_on s f)) a u) → start ≤ u

-- "a preview that answers the start it would give and changes nothing", whether it is refused or not
pub record PreviewStart (s : State) (f line p d rate : ℕ) (r : Result) : Type 0 where
  pub answer :
      NoneApplies (refusals s (preview f line p d rate))
      → (start : ℕ) × (r.answer ≡ previewed start) × EarliestStart s f (draw_for s f line p rate) start
  pub same_station : r.state ≡ s
  pub same_list_lem : r.list ≡ lent (preview f line p d rate)

-- "An order gets the earliest start", of a commit whose order is not refused; `shown` is any start that was passed in
pub record CommitStart (s : State) (f line p d rate shown : ℕ) (r : Result) : Type 0 where
  -- "The commit gives a ticket and exactly that start", exactly when it is the earliest
  pub answer : (r.answer ≡ committed s.next shown) ↔ EarliestStart s f (draw_for s f line p rate) shown
  -- "commit whose shown start is not the earliest start at that moment"
  pub refusal : (EarliestStart s f (draw_for s f line p rate) shown → ⊥) → r.answer ≡ refused 16
  -- `taking` puts the new charge behind the held ones, which stay as they are
  pub others_same : EarliestStart s f (draw_for s f line p rate) shown → r.state ≡ taking s f (new_charge s f line p d rate shown)

-- what the board shows of a ticket where an enquiry of it has this answer: "the start of each .., or 4,294,967,295 for one not
-- held"
abbrev pub shown_by : Answer → ℕ
shown_by a = cond (is_refused a) not_held (start_in a)

-- "the highest asked", 0 where none is
abbrev pub highest : List ℕ → ℕ
highest [] = 0
highest (t ∷ ts) = max t (highest ts)

-- N10's board, for the tickets asked and an answer list
pub record BoardShown (gives : Gives) (s : State) (asked list : List ℕ) (r : Result) : Type 0 where
  -- "those with a ticket not above the highest asked, so never more than are held; 0 for an empty list": no ticket is 0
  pub answer :
      NoneApplies (refusals s (board asked list))
      → r.answer ≡ looked (length (keep (λ c. leb c.ticket (highest asked)) (site_charges s)))
  -- what an enquiry of each ticket says, and "Later places of the answer list are kept."
  pub shown :
      NoneApplies (refusals s (board asked list))
      → r.list ≡ written (map (λ t. shown_by (gives s (enquire t)).answer) asked) list
  -- refused or not
  pub same_station : r.state ≡ s

-- a waiting charge has this ticket
abbrev pub Waits : State → ℕ → Type 0
Waits s ticket = some (λ c. has_ticket ticket c && is_waiting s.clock c) (site_charges s) ≡ true

-- "A waiting charge is removed, and its place is free, exactly when the remaining plan is sound; no other start moves."
-- The plan is that of the feeder f which holds the ticket.
pub record Withdrawal (s : State) (f ticket : ℕ) (r : Result) : Type 0 where
  pub removed : (r.answer ≡ withdrawn) ↔ (Waits s ticket × SoundPlan s f (loads_of (without_ticket ticket (charges_on s f))))
  -- all others stay as they are, and so does the next ticket
  pub others_same : r.answer ≡ withdrawn → r.state ≡ holding s f (without_ticket ticket (charges_on s f)) s.next
  pub place_free : r.answer ≡ withdrawn → suc (length (charges_on r.state f)) ≡ length (charges_on s f)
  pub unchanged : (r.answer ≡ withdrawn → ⊥) → r.state ≡ s

-- `gives` is what a call to a station gives
pub record DemandTwo (gives : Gives) (s : State) : Type 0 where
  pub previews : (f line p d rate : ℕ) → PreviewStart s f line p d rate (gives s (preview f line p d rate))
  -- "Both meet the order's refusals": a commit comes to the start shown where a preview would show one
  pub commits :
      (f line p d rate shown : ℕ)
      → NoneApplies (refusals s (preview f line p d rate))
      → CommitStart s f line p d rate shown (gives s (commit f line p d rate shown))
  pub offers : (f : ℕ) (ss : List ℕ) → Tested s f (offer f ss) (starts ss) 0 (gives s (offer f ss))
  -- "replans follow the paper as document 01 fixes it": `latest` and `by_lines` are its definitions;
  -- "rounds used (0 but by lines)"
  pub replans_latest :
      (f : ℕ) → Tested s f (replan_latest f) (latest (limits_of s f) s.clock (charges_on s f)) 0 (gives s (replan_latest f))
  pub replans_lines :
      (f allowance : ℕ)
      → Tested s f (replan_lines f allowance)
      (by_lines (limits_of s f) s.clock allowance (charges_on s f)).proposal
      (by_lines (limits_of s f) s.clock allowance (charges_on s f)).rounds
      (gives s (replan_lines f allowance))
  -- "One call takes a rising list of 32-bit numbers and writes the start of each to another such list"
  pub boards : (asked list : List ℕ) → BoardShown gives s asked list (gives s (board asked list))
  pub withdrawals : (ticket : ℕ) → Withdrawal s (feeder_with ticket 1 s.feeders) ticket (gives s (withdraw ticket))
