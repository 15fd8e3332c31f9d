-- Both replanners (docs/RULES.md, sections 4 and 5).
use Rattle.std.specs.Prelude.{ℕ, zero, suc, ◌+◌, ◌-◌, min, Bool, cond, ◌&&◌, List, [], ◌∷◌, ◌++◌, map, leb, eqb, length}
use Rattle.rules.specs.Basics.{Found, at, nothing, keep, some, sorted_by}
use Rattle.rules.specs.Load.{Load, active, counts, Limits, on_lines}
use Rattle.rules.specs.Charge.{Charge, starting, draw_of, load_of, loads_of, seen, begun_charges, waiting_charges, latest_start_before}
use Rattle.rules.specs.Search.{earliest, Caps, first_unbalanced}
use Rattle.rules.specs.Priority.{crowd_of, Pick, chosen, nobody, Fitting, fits_at, picked, without_ticket}

abbrev pub by_latest_start : List Charge → List Charge
by_latest_start cs = sorted_by latest_start_before cs

-- What a replan hands to the test of a plan: a start for each waiting charge, in ticket order, or the cause for having none.
pub data Proposal : Type 0 where
  starts : List ℕ → Proposal
  none : ℕ → Proposal

-- the charges placed one after another; `stuck` where one has no start
pub data Placed : Type 0 where
  all : List Charge → Placed
  stuck : Placed

-- Each charge in turn gets the start that `find` gives it after those placed so far.
unfoldable pub place_all : (List Charge → Charge → Found) → List Charge → List Charge → Placed
place_all find placed [] = all placed
place_all find placed (c ∷ cs) =
    elim (find placed c) [ at s ↦ place_all find (placed ++ (starting c s ∷ [])) cs | nothing ↦ stuck ]

-- the start of a ticket among the placed charges
abbrev pub start_in : List Charge → ℕ → ℕ
start_in [] t = 0
start_in (c ∷ cs) t = cond (eqb c.ticket t) c.start (start_in cs t)

-- the starts of the placed charges in the order of the waiting ones
abbrev pub starts_in : List Charge → List Charge → List ℕ
starts_in placed waiting = map (λ c. start_in placed c.ticket) waiting

-- cause 1: "no start found"
abbrev pub proposed : List Charge → Placed → Proposal
proposed waiting (all placed) = starts (starts_in placed waiting)
proposed waiting stuck = none 1

-- "Give each the smallest start, not below the clock, after which the begun charges and those placed so far,
-- itself included, are sound in every minute from the clock on."
abbrev pub sound_start : Limits → ℕ → List Load → List Charge → Charge → Found
sound_start y clock base placed c = earliest y clock (base ++ loads_of placed) (draw_of c)

-- what stands while a replan places: "other feeders' charges, all begun ones"
abbrev pub standing : Limits → ℕ → List Charge → List Load
standing y clock held = seen y (begun_charges clock held)

-- Replan by latest start: "Keep the begun charges. Take the waiting ones by d − p, then ticket."
unfoldable pub latest : Limits → ℕ → List Charge → Proposal
latest y clock held =
    proposed (waiting_charges clock held)
    (place_all (sound_start y clock (standing y clock held)) [] (by_latest_start (waiting_charges clock held)))

-- One charge after another, as many as `k`: the one that `pick` takes of those left, with its start.
unfoldable pub place_on : (List Charge → List Charge → Pick) → ℕ → List Charge → List Charge → Placed
place_on pick zero placed left = all placed
place_on pick (suc k) placed left =
    elim (pick placed left) [
      | chosen c ↦ place_on pick k (placed ++ (c ∷ [])) (without_ticket c.ticket left)
      | nobody ↦ stuck
    ]

abbrev pub of_line : ℕ → List Charge → List Charge
of_line l cs = keep (λ c. eqb c.line l) cs

-- "In a line, replan by lines now finds the smallest start at which any unplaced charge fits, and among those that fit there
-- takes the one .."; n and P are those of the line's waiting charges "when the round begins", before any of them is placed.
abbrev pub place_line : Fitting → ℕ → List Load → List Charge → ℕ → Placed → Placed
place_line fits clock base waiting l stuck = stuck
place_line fits clock base waiting l (all before) =
    place_on (λ placed left. picked fits clock (base ++ loads_of placed) (crowd_of (of_line l waiting)) left)
    (length (of_line l waiting))
    before
    (of_line l waiting)

-- "with no waiting charge placed, for each line, 1 to 3 in turn": the first l lines
abbrev pub place_lines : Fitting → ℕ → List Load → List Charge → ℕ → Placed
place_lines fits clock base waiting zero = all []
place_lines fits clock base waiting (suc l) =
    place_line fits clock base waiting (suc l) (place_lines fits clock base waiting l)

-- the lowest line at which f holds, 3 where it holds on neither of the others
abbrev pub lowest_line : (ℕ → Bool) → ℕ
lowest_line f = cond (f 1) 1 (cond (f 2) 2 3)

-- "i is the line with the largest count in t and j the one with the smallest, lowest line first among equals"
abbrev pub largest_line : (ℕ → ℕ) → ℕ
largest_line f = lowest_line (λ l. on_lines (λ m. leb (f m) (f l)))

abbrev pub smallest_line : (ℕ → ℕ) → ℕ
smallest_line f = lowest_line (λ l. on_lines (λ m. leb (f l) (f m)))

-- "i's cap from t on becomes the smaller of itself and" v
abbrev pub lowered : Caps → ℕ → ℕ → ℕ → Caps
lowered cap i t v l u = cond (eqb l i && leb t u) (min (cap l u) v) (cap l u)

-- a placed charge of line i is active in t
abbrev pub placed_active : List Charge → ℕ → ℕ → Bool
placed_active placed i t = some (λ c. eqb c.line i && active (load_of c) t) placed

-- What came of a round: it ends the replan, or line i's cap has to be lowered from t on to v.
pub data Outcome : Type 0 where
  ends : Proposal → Outcome
  lowers : ℕ → ℕ → ℕ → Outcome

-- "If no placed charge of i is active in t: cause 1. Else .. i's cap from t on becomes the smaller of itself and
-- j's count in t plus D."
abbrev pub unbalanced_in : Limits → List Load → List Charge → ℕ → Outcome
unbalanced_in y base placed t =
    let f : ℕ → ℕ = counts (base ++ loads_of placed) t in
    cond (placed_active placed (largest_line f) t) (lowers (largest_line f) t (f (smallest_line f) + y.bound)) (ends (none 1))

-- "Then find the first minute t in which two counts differ by more than D, from the clock on. None: done."
abbrev pub after_round : Limits → ℕ → List Charge → Placed → Outcome
after_round y clock held stuck = ends (none 1)
after_round y clock held (all placed) =
    elim (first_unbalanced y clock (standing y clock held ++ loads_of placed)) [
      | nothing ↦ ends (starts (starts_in placed (waiting_charges clock held)))
      | at t ↦ unbalanced_in y (standing y clock held) placed t
    ]

-- "One round: with no waiting charge placed, for each line, 1 to 3 in turn .."
unfoldable pub round : Limits → ℕ → List Charge → Caps → Outcome
round y clock held cap =
    after_round y clock held (place_lines (fits_at y.site cap) clock (standing y clock held) (waiting_charges clock held) 3)

-- a proposal, and the rounds made for it
pub record Replanned : Type 0 where
  pub proposal : Proposal
  pub rounds : ℕ

-- after a round: `again` goes on with the lowered cap
abbrev pub go_on : ℕ → (Caps → Replanned) → Caps → Outcome → Replanned
go_on made again cap (ends p) = record { proposal = p; rounds = made }
go_on made again cap (lowers i t v) = again (lowered cap i t v)

-- "if the rounds made equal the allowance: cause 2 .. Else a new round begins." `made` counts this round too,
-- `left` is what the allowance has beyond it.
unfoldable pub rounds_from : (Caps → Outcome) → ℕ → ℕ → Caps → Replanned
rounds_from play zero made cap = go_on made (λ c. record { proposal = none 2; rounds = made }) cap (play cap)
rounds_from play (suc left) made cap = go_on made (rounds_from play left (suc made)) cap (play cap)

-- Replan by lines: "Each line has a cap for every minute, N at first."
unfoldable pub by_lines : Limits → ℕ → ℕ → List Charge → Replanned
by_lines y clock allowance held = rounds_from (round y clock held) (allowance - 1) 1 (λ l t. y.limit)
