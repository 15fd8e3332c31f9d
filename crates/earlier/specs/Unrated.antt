-- The rules before N4, written out where they read a count: "The count of a line in a minute is the number of its active
-- charges", and no order states a rate. All else is the rules' own, the priority of N5 and calls that came later too.
-- (docs/RULES.md, section 1)
use Rattle.std.specs.Prelude.{◌≡◌, ℕ, suc, ◌+◌, ◌-◌, Bool, cond, not, ◌&&◌, ◌||◌, List, [], ◌∷◌, ◌++◌, ltb, leb, eqb, length}
use Rattle.rules.specs.Basics.{throughout, Found, at, nothing, first, first_of, keep, some, Each}
use Rattle.rules.specs.Load.{Load, Draw, active, last_until, Limits, limited, balanced, whole_of, within_site, sound_counts, from_on}
use Rattle.rules.specs.Charge.{Charge, draw_of, loads_of, seen, waiting_charges, lateness}
use Rattle.rules.specs.Search.{added, Caps}
use Rattle.rules.specs.Priority.{Fitting}
use Rattle.rules.specs.Replan.{by_latest_start, Proposal, starts, none, Placed, all, stuck, place_all, starts_in, proposed, standing, place_lines, largest_line, smallest_line, placed_active, Outcome, ends, lowers, Replanned, rounds_from}
use Rattle.rules.specs.Judgement.{restarted}
use Rattle.rules.specs.Site.{places, State, charges_on, limits_of}
use Rattle.rules.specs.Calls.{Result, answering, Call, preview, commit, move, offer, replan_latest, replan_lines, enquire, board, withdraw, lent, draw_for, is_start, no_such_feeder, refusals, previewed_at, committing, moving, kept, decided, enquiring, boarding, withdrawing}

-- Counts

abbrev pub number_active : List Load → ℕ → ℕ → ℕ
number_active xs l t = length (keep (λ x. eqb x.line l && active x t) xs)

abbrev pub numbers : List Load → ℕ → ℕ → ℕ
numbers xs t l = number_active xs l t

abbrev pub sound_before : Limits → ℕ → List Load → Bool
sound_before y clock xs = from_on clock xs (λ t. sound_counts y (numbers xs t))

-- The searches

abbrev pub earliest_before : Limits → ℕ → List Load → Draw → Found
earliest_before y clock xs a = first (λ s. sound_before y clock (added xs a s)) (suc (last_until xs - clock)) clock

-- a charge that is put in counts one more, on its line and for the site
abbrev pub fits_before : ℕ → Caps → Fitting
fits_before w cap xs s c =
    throughout (λ t. leb (number_active xs c.line t + 1) (cap c.line t) && leb (whole_of (numbers xs t) + 1) w) c.active_time s

abbrev pub unbalanced_before : Limits → ℕ → List Load → Found
unbalanced_before y clock xs = first (λ t. not (balanced y.bound (numbers xs t))) (last_until xs - clock) clock

-- The replans

abbrev pub latest_before : Limits → ℕ → List Charge → Proposal
latest_before y clock held =
    proposed (waiting_charges clock held)
    (place_all (λ placed c. earliest_before y clock (standing y clock held ++ loads_of placed) (draw_of c)) []
    (by_latest_start (waiting_charges clock held)))

abbrev pub asked_before : Limits → List Load → List Charge → ℕ → Outcome
asked_before y base placed t =
    let f : ℕ → ℕ = numbers (base ++ loads_of placed) t in
    cond (placed_active placed (largest_line f) t) (lowers (largest_line f) t (f (smallest_line f) + y.bound)) (ends (none 1))

abbrev pub after_before : Limits → ℕ → List Charge → Placed → Outcome
after_before y clock held stuck = ends (none 1)
after_before y clock held (all placed) =
    elim (unbalanced_before y clock (standing y clock held ++ loads_of placed)) [
      | nothing ↦ ends (starts (starts_in placed (waiting_charges clock held)))
      | at t ↦ asked_before y (standing y clock held) placed t
    ]

abbrev pub round_before : Limits → ℕ → List Charge → Caps → Outcome
round_before y clock held cap =
    after_before y clock held (place_lines (fits_before y.site cap) clock (standing y clock held) (waiting_charges clock held) 3)

abbrev pub by_lines_before : Limits → ℕ → ℕ → List Charge → Replanned
by_lines_before y clock allowance held = rounds_from (round_before y clock held) (allowance - 1) 1 (λ l t. y.limit)

-- The test of a plan

abbrev pub judged_before : Limits → ℕ → List Charge → List ℕ → ℕ
judged_before y clock held ss =
    let new : List Load = seen y (restarted clock held ss) in
    first_of
    ((some (λ s. ltb s clock) ss, 3)
    ∷ (ltb (last_until (seen y held)) (last_until new), 4)
    ∷ (not (from_on clock new (λ t. limited y.limit (numbers new t) && within_site y.site (numbers new t))), 5)
    ∷ (not (from_on clock new (λ t. balanced y.bound (numbers new t))), 6)
    ∷ (not (ltb (lateness (restarted clock held ss)) (lateness held)), 7)
    ∷ [])

abbrev pub tested_before : State → ℕ → ℕ → Proposal → List ℕ → Result
tested_before s f rounds (starts ss) list =
    decided s f rounds ss list (judged_before (limits_of s f) s.clock (charges_on s f) ss)
tested_before s f rounds (none cause) list = kept s f cause rounds list

-- The calls

abbrev pub start_for_before : State → ℕ → ℕ → ℕ → ℕ → Found
start_for_before s f line p rate =
    earliest_before (limits_of s f) s.clock (seen (limits_of s f) (charges_on s f)) (draw_for s f line p rate)

abbrev pub order_refusals_before : State → ℕ → ℕ → ℕ → ℕ → List (Bool × ℕ)
order_refusals_before s f line p d =
    no_such_feeder s f
    ∷ (ltb line 1 || ltb 3 line, 4)
    ∷ (ltb p 1 || ltb 1440 p, 5)
    ∷ (ltb 2000000 d, 6)
    ∷ (leb places (length (charges_on s f)), 13)
    ∷ (ltb 65535 s.next, 14)
    ∷ []

abbrev pub refusals_before : State → Call → List (Bool × ℕ)
refusals_before s (preview f line p d rate) = order_refusals_before s f line p d
refusals_before s (commit f line p d rate shown) =
    order_refusals_before s f line p d ++ ((not (is_start (start_for_before s f line p rate) shown), 16) ∷ [])
refusals_before s (move target list) = refusals s (move target list)
refusals_before s (offer f ss) = refusals s (offer f ss)
refusals_before s (replan_latest f) = refusals s (replan_latest f)
refusals_before s (replan_lines f allowance) = refusals s (replan_lines f allowance)
refusals_before s (enquire ticket) = refusals s (enquire ticket)
refusals_before s (board asked list) = refusals s (board asked list)
refusals_before s (withdraw ticket) = refusals s (withdraw ticket)

abbrev pub granted_before : State → Call → Result
granted_before s (preview f line p d rate) = previewed_at s (start_for_before s f line p rate)
granted_before s (commit f line p d rate shown) = committing s f line p d rate shown
granted_before s (move target list) = moving s target list
granted_before s (offer f ss) = tested_before s f 0 (starts ss) ss
granted_before s (replan_latest f) = tested_before s f 0 (latest_before (limits_of s f) s.clock (charges_on s f)) []
granted_before s (replan_lines f allowance) =
    let r : Replanned = by_lines_before (limits_of s f) s.clock allowance (charges_on s f) in
    tested_before s f r.rounds r.proposal []
granted_before s (enquire ticket) = enquiring s ticket
granted_before s (board asked list) = boarding s asked list
granted_before s (withdraw ticket) = withdrawing s ticket

abbrev pub step_before : State → Call → Result
step_before s c = answering (first_of (refusals_before s c)) s (lent c) (granted_before s c)

abbrev pub run_before : State → List Call → List Result
run_before s [] = []
run_before s (c ∷ cs) = let r : Result = step_before s c in r ∷ run_before r.state cs

-- What was there then

-- every charge of rate 1
abbrev pub AtRateOne : List Charge → Type 0
AtRateOne cs = Each (λ c. c.rate ≡ 1) cs

-- a call that states no other rate
abbrev pub StatesOne : Call → Type 0
StatesOne (preview f line p d rate) = rate ≡ 1
StatesOne (commit f line p d rate shown) = rate ≡ 1
StatesOne (move target list) = Unit {0}
StatesOne (offer f ss) = Unit {0}
StatesOne (replan_latest f) = Unit {0}
StatesOne (replan_lines f allowance) = Unit {0}
StatesOne (enquire ticket) = Unit {0}
StatesOne (board asked list) = Unit {0}
StatesOne (withdraw ticket) = Unit {0}
