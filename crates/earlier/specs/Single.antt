-- The rules before N14, written out where they read a feeder's plan: a station had one feeder, calls named none, and there was no W. All
-- else is the rules' own. The station is that of feeder 1, the only one.
-- (docs/RULES.md, section 2)
use Rattle.std.specs.Prelude.{◌≡◌, ℕ, suc, ◌+◌, ◌-◌, Bool, cond, not, ◌&&◌, ◌||◌, List, [], ◌∷◌, ◌++◌, map, ltb, leb, eqb, length}
use Rattle.rules.specs.Basics.{throughout, Found, at, nothing, first, first_of, keep, some}
use Rattle.rules.specs.Load.{Load, Draw, count, counts, last_until, limited, balanced, from_on}
use Rattle.rules.specs.Charge.{Charge, draw_of, loads_of, begun_charges, waiting_charges, unfinished_charges, is_begun, has_ticket, without_ticket, last_end, lateness}
use Rattle.rules.specs.Search.{added, Caps}
use Rattle.rules.specs.Priority.{Fitting}
use Rattle.rules.specs.Replan.{by_latest_start, Proposal, starts, none, Placed, all, stuck, place_all, starts_in, proposed, place_lines, largest_line, smallest_line, placed_active, Outcome, ends, lowers, Replanned, rounds_from}
use Rattle.rules.specs.Judgement.{restarted}
use Rattle.rules.specs.Site.{places, Feeder, State, feeder_of, charges_on, with_charges, holding}
use Rattle.rules.specs.Calls.{settings, fresh_feeder, bound_of, opened, moved, looked, withdrawn, Result, answering, Call, preview, commit, move, offer, replan_latest, replan_lines, enquire, board, withdraw, lent, draw_for, is_start, refusals, previewed_at, committing, reported, pairs, written, kept, decided, told, start_or_not_held, is_looked_at}

-- a site of one feeder under W 720
abbrev pub alone : Feeder → ℕ → ℕ → State
alone g clock next = record { feeders = g ∷ []; site = 720; clock = clock; next = next }

-- Soundness and the searches

-- "A plan is sound when in every minute from the clock on each count is at most N and each two counts differ by at most D."
abbrev pub sound_before : Feeder → ℕ → List Load → Bool
sound_before g clock xs = from_on clock xs (λ t. limited g.limit (counts xs t) && balanced g.bound (counts xs t))

abbrev pub earliest_before : Feeder → ℕ → List Load → Draw → Found
earliest_before g clock xs a = first (λ s. sound_before g clock (added xs a s)) (suc (last_until xs - clock)) clock

-- "with the line's count, itself included, at or below the cap in all its minutes"
abbrev pub fits_before : Caps → Fitting
fits_before cap xs s c = throughout (λ t. leb (count xs c.line t + c.rate) (cap c.line t)) c.active_time s

abbrev pub unbalanced_before : Feeder → ℕ → List Load → Found
unbalanced_before g clock xs = first (λ t. not (balanced g.bound (counts xs t))) (last_until xs - clock) clock

-- The replans

abbrev pub latest_before : Feeder → ℕ → Proposal
latest_before g clock =
    proposed (waiting_charges clock g.charges)
    (place_all (λ placed c. earliest_before g clock (loads_of (begun_charges clock g.charges) ++ loads_of placed) (draw_of c)) []
    (by_latest_start (waiting_charges clock g.charges)))

abbrev pub asked_before : Feeder → List Load → List Charge → ℕ → Outcome
asked_before g begun placed t =
    let f : ℕ → ℕ = counts (begun ++ loads_of placed) t in
    cond (placed_active placed (largest_line f) t) (lowers (largest_line f) t (f (smallest_line f) + g.bound)) (ends (none 1))

abbrev pub after_before : Feeder → ℕ → Placed → Outcome
after_before g clock stuck = ends (none 1)
after_before g clock (all placed) =
    let begun : List Load = loads_of (begun_charges clock g.charges) in
    elim (unbalanced_before g clock (begun ++ loads_of placed)) [
      | nothing ↦ ends (starts (starts_in placed (waiting_charges clock g.charges)))
      | at t ↦ asked_before g begun placed t
    ]

abbrev pub round_before : Feeder → ℕ → Caps → Outcome
round_before g clock cap =
    after_before g clock
    (place_lines (fits_before cap) clock (loads_of (begun_charges clock g.charges)) (waiting_charges clock g.charges) 3)

abbrev pub by_lines_before : Feeder → ℕ → ℕ → Replanned
by_lines_before g clock allowance = rounds_from (round_before g clock) (allowance - 1) 1 (λ l t. g.limit)

-- The test of a plan

abbrev pub judged_before : Feeder → ℕ → List ℕ → ℕ
judged_before g clock ss =
    let new : List Charge = restarted clock g.charges ss in
    first_of
    ((some (λ s. ltb s clock) ss, 3)
    -- "Cause 4 compares s + p"
    ∷ (ltb (last_end g.charges) (last_end new), 4)
    ∷ (not (from_on clock (loads_of new) (λ t. limited g.limit (counts (loads_of new) t))), 5)
    ∷ (not (from_on clock (loads_of new) (λ t. balanced g.bound (counts (loads_of new) t))), 6)
    ∷ (not (ltb (lateness new) (lateness g.charges)), 7)
    ∷ [])

abbrev pub tested_before : State → ℕ → Proposal → List ℕ → Result
tested_before s rounds (starts ss) list = decided s 1 rounds ss list (judged_before (feeder_of s 1) s.clock ss)
tested_before s rounds (none cause) list = kept s 1 cause rounds list

-- The calls

abbrev pub start_for_before : State → ℕ → ℕ → ℕ → Found
start_for_before s line p rate =
    earliest_before (feeder_of s 1) s.clock (loads_of (charges_on s 1)) (draw_for s 1 line p rate)

abbrev pub order_refusals_before : State → ℕ → ℕ → ℕ → ℕ → List (Bool × ℕ)
order_refusals_before s line p d rate =
    (ltb line 1 || ltb 3 line, 4)
    ∷ (ltb p 1 || ltb 1440 p, 5)
    ∷ (ltb rate 1 || ltb 2 rate, 17)
    -- "rate above N or above D"
    ∷ (ltb (feeder_of s 1).limit rate || ltb (feeder_of s 1).bound rate, 18)
    ∷ (ltb 2000000 d, 6)
    ∷ (leb places (length (charges_on s 1)), 13)
    ∷ (ltb 65535 s.next, 14)
    ∷ []

abbrev pub refusals_before : State → Call → List (Bool × ℕ)
refusals_before s (preview f line p d rate) = order_refusals_before s line p d rate
refusals_before s (commit f line p d rate shown) =
    order_refusals_before s line p d rate ++ ((not (is_start (start_for_before s line p rate) shown), 16) ∷ [])
refusals_before s (move target list) =
    -- "report list under 360 places"
    (ltb 1000000 target, 8) ∷ (ltb (length list) 360, 9) ∷ (ltb target s.clock, 12) ∷ []
refusals_before s (offer f ss) =
    (not (eqb (length ss) (length (waiting_charges s.clock (charges_on s 1)))), 10) ∷ []
refusals_before s (replan_latest f) = []
refusals_before s (replan_lines f allowance) = (ltb allowance 1 || ltb 1000 allowance, 11) ∷ []
refusals_before s (enquire ticket) = (not (some (has_ticket ticket) (charges_on s 1)), 15) ∷ []
refusals_before s (board asked list) = refusals s (board asked list)
refusals_before s (withdraw ticket) =
    (not (some (has_ticket ticket) (charges_on s 1)), 15)
    ∷ (some (λ c. has_ticket ticket c && is_begun s.clock c) (charges_on s 1), 25)
    ∷ (not (sound_before (feeder_of s 1) s.clock (loads_of (without_ticket ticket (charges_on s 1)))), 26)
    ∷ []

-- "Then finished charges are dropped."
abbrev pub moving_before : State → ℕ → List ℕ → Result
moving_before s target list =
    let report : List Charge = reported s.clock target (charges_on s 1) in
    let left : List Charge = unfinished_charges target (charges_on s 1) in
    record {
      answer = moved (length report) (length (charges_on s 1) - length left);
      state = record { feeders = with_charges (feeder_of s 1) left ∷ []; site = s.site; clock = target; next = s.next };
      list = written (pairs report) list;
    }

abbrev pub granted_before : State → Call → Result
granted_before s (preview f line p d rate) = previewed_at s (start_for_before s line p rate)
granted_before s (commit f line p d rate shown) = committing s 1 line p d rate shown
granted_before s (move target list) = moving_before s target list
granted_before s (offer f ss) = tested_before s 0 (starts ss) ss
granted_before s (replan_latest f) = tested_before s 0 (latest_before (feeder_of s 1) s.clock) []
granted_before s (replan_lines f allowance) =
    let r : Replanned = by_lines_before (feeder_of s 1) s.clock allowance in
    tested_before s r.rounds r.proposal []
granted_before s (enquire ticket) = record { answer = told s.clock (charges_on s 1) ticket; state = s; list = [] }
granted_before s (board asked list) =
    record {
      answer = looked (length (keep (is_looked_at asked) (charges_on s 1)));
      state = s;
      list = written (map (start_or_not_held (charges_on s 1)) asked) list;
    }
granted_before s (withdraw ticket) =
    record { answer = withdrawn; state = holding s 1 (without_ticket ticket (charges_on s 1)) s.next; list = [] }

abbrev pub step_before : State → Call → Result
step_before s c = answering (first_of (refusals_before s c)) s (lent c) (granted_before s c)

abbrev pub run_before : State → List Call → List Result
run_before s [] = []
run_before s (c ∷ cs) = let r : Result = step_before s c in r ∷ run_before r.state cs

-- Openings: N, c and r, and refusals 1 to 3 and 19

abbrev pub open_refusals_before : ℕ → ℕ → ℕ → List (Bool × ℕ)
open_refusals_before n c r =
    (ltb n 1 || ltb 60 n, 1) ∷ (ltb 100 c, 2) ∷ (eqb (bound_of n c) 0, 3) ∷ (ltb 5 r, 19) ∷ []

-- the fresh station of N, c and r
abbrev pub fresh_before : ℕ → ℕ → ℕ → State
fresh_before n c r = alone (fresh_feeder (settings n c r)) 0 1

abbrev pub opening_before : ℕ → ℕ → ℕ → Result
opening_before n c r =
    answering (first_of (open_refusals_before n c r)) (fresh_before 1 100 0) []
    (record { answer = opened (bound_of n c ∷ []); state = fresh_before n c r; list = [] })

-- What was there then

-- a call that names the one feeder, or none
abbrev pub NamesOne : Call → Type 0
NamesOne (preview f line p d rate) = f ≡ 1
NamesOne (commit f line p d rate shown) = f ≡ 1
NamesOne (move target list) = Unit {0}
NamesOne (offer f ss) = f ≡ 1
NamesOne (replan_latest f) = f ≡ 1
NamesOne (replan_lines f allowance) = f ≡ 1
NamesOne (enquire ticket) = Unit {0}
NamesOne (board asked list) = Unit {0}
NamesOne (withdraw ticket) = Unit {0}
