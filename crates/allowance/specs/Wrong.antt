-- Wrong rules for replan by lines, each with one thing changed.
use Rattle.std.specs.Prelude.{ℕ, cond, List, [], ◌∷◌, ◌++◌, leb, replicate}
use Rattle.rules.specs.Basics.{Found, at, nothing, keep}
use Rattle.rules.specs.Load.{Load, counts, draw}
use Rattle.rules.specs.Charge.{Charge, loads_of, waiting_charges}
use Rattle.rules.specs.Search.{Caps, fits_under, first_unbalanced}
use Rattle.rules.specs.Priority.{Fitting, fits_at}
use Rattle.rules.specs.Replan.{none, Placed, all, stuck, standing, place_lines, largest_line, placed_active, Outcome, ends, lowers, lowered, after_round, Replanned, by_lines}
use Rattle.rules.specs.Site.{State, feeder_of, charges_on, limits_of}
use Rattle.rules.specs.Calls.{settings, commit, move, opening, kept, tested, step}
use Rattle.rules.specs.Entry.{one_feeder}
use Rattle.guarantee.specs.Past.{past}
use Rattle.allowance.specs.Allowance.{Replans, Plays}

-- Rounds

-- what stands, and the waiting charges of feeder f placed where they fit
abbrev base : State → ℕ → List Load
base s f = standing (limits_of s f) s.clock (charges_on s f)

abbrev placed_by : Fitting → State → ℕ → Placed
placed_by fits s f = place_lines fits s.clock (base s f) (waiting_charges s.clock (charges_on s f)) 3

abbrev played_by : (Caps → Fitting) → Plays
played_by fits s f cap = after_round (limits_of s f) s.clock (charges_on s f) (placed_by (fits cap) s f)

-- a charge's minutes under the cap end at s + p, where its tail begins
abbrev pub tail_left_out : Plays
tail_left_out s f cap = played_by (λ cap xs u c. fits_under s.site cap xs (draw c.line c.time c.rate) u) s f cap

-- a new round goes on from the last placement, and places nothing anew under the lowered caps
abbrev pub not_placed_anew : Plays
not_placed_anew s f cap = played_by (λ cap. fits_at s.site (λ l t. (feeder_of s f).limit)) s f cap

-- a cap is lowered to the line's count itself
abbrev lowers_to : State → ℕ → List Charge → ℕ → Outcome
lowers_to s f placed t =
    let g : ℕ → ℕ = counts (base s f ++ loads_of placed) t in
    cond (placed_active placed (largest_line g) t) (lowers (largest_line g) t (g (largest_line g))) (ends (none 1))

abbrev lowered_from : State → ℕ → List Charge → Found → Outcome
lowered_from s f placed (at t) = lowers_to s f placed t
lowered_from s f placed nothing = ends (none 1)

abbrev lowered_after : State → ℕ → Placed → Outcome
lowered_after s f stuck = ends (none 1)
lowered_after s f (all placed) =
    lowered_from s f placed (first_unbalanced (limits_of s f) s.clock (base s f ++ loads_of placed))

abbrev pub lowered_to_the_count : Plays
lowered_to_the_count s f cap = lowered_after s f (placed_by (fits_at s.site cap) s f)

-- Allowances

-- the allowance also limits which charges are placed: only the first ones are looked at
abbrev pub charges_limited : Replans
charges_limited s f a =
    let r : Replanned = by_lines (limits_of s f) s.clock a (keep (λ c. leb c.ticket a) (charges_on s f)) in
    tested s f r.rounds r.proposal []

-- as many rounds are told as the allowance has
abbrev pub rounds_told : Replans
rounds_told s f a = kept s f 7 a []

-- Stations

-- N 2, D 1 and r 2, at clock 1: the charges on lines 2 and 3 draw up to minute 12. In the first round both of line 1 go to 1 and
-- draw up to minute 13: minute 12 counts 2, 0, 0.
abbrev pub with_tails : State
with_tails =
    (past step (opening (one_feeder 2 50 2)).state
    (commit 1 2 10 60 1 0 ∷ commit 1 3 10 60 1 0 ∷ move 1 (replicate 360 7) ∷ commit 1 1 10 60 1 1 ∷ commit 1 1 10 60 1 13 ∷ [])
    ).station

-- the caps before the first round there, and those after it
abbrev pub first_caps : Caps
first_caps l t = 2

abbrev pub second_caps : Caps
second_caps = lowered first_caps 1 12 1

-- case h
abbrev pub station_h : State
station_h = (past step (opening (one_feeder 1 100 0)).state (commit 1 1 10 60 1 0 ∷ commit 1 1 10 15 1 10 ∷ [])).station

-- case k
abbrev pub station_k : State
station_k = (past step (opening (one_feeder 2 50 0)).state (commit 1 1 10 60 1 0 ∷ commit 1 1 10 60 1 10 ∷ [])).station

-- case k on the first of two feeders under W, beside a charge of 10 minutes on the other
abbrev pub beside_another : ℕ → State
beside_another w =
    (past step (opening (record { count = 2; site = w; settings = settings 2 50 0 ∷ settings 1 100 0 ∷ [] })).state
    (commit 2 1 10 60 1 0 ∷ commit 1 1 10 60 1 0 ∷ commit 1 1 10 60 1 10 ∷ [])
    ).station
