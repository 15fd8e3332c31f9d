-- The priority of replan by lines: the smallest start at which a charge of the line fits, and the charge that takes it
-- (docs/RULES.md, section 5).
use Rattle.std.specs.Prelude.{ℕ, zero, suc, ◌+◌, ◌-◌, ◌*◌, ◌/◌, ◌^◌, Bool, cond, not, ◌&&◌, ◌||◌, List, [], ◌∷◌, ltb, leb, eqb, length, get_or}
use Rattle.rules.specs.Basics.{throughout, tabulate, Found, at, nothing, first, keep, some}
use Rattle.rules.specs.Load.{Load, last_until}
use Rattle.rules.specs.Charge.{Charge, starting, draw_of, latest_start_before}
use Rattle.rules.specs.Search.{Caps, fits_under}

-- The weights

-- "E(0) is 2^30, and E(k + 1) is E(k) × 63 / 64 rounded down"
unfoldable pub fading : ℕ → ℕ
fading zero = 1073741824
fading (suc k) = fading k * 63 / 64

-- "E stands as a table for k from 0 to 511"
unfoldable pub weights : List ℕ
weights = tabulate fading 512 0

-- ", and the weight is 0 beyond"
unfoldable pub weight_of : ℕ → ℕ
weight_of k = get_or weights k 0

-- The rule of a table, as a test of each place: "E(0) is 2^30, and E(k + 1) is E(k) × 63 / 64 rounded down"
abbrev pub steps_at : List ℕ → ℕ → Bool
steps_at table k = eqb (get_or table (suc k) 0) (get_or table k 0 * 63 / 64)

-- "E(k) × 64^k ≤ 2^30 × 63^k < (E(k) + 64) × 64^k"
abbrev pub bound_at : List ℕ → ℕ → Bool
bound_at table k =
    leb (get_or table k 0 * 64 ^ k) (2 ^ 30 * 63 ^ k) && ltb (2 ^ 30 * 63 ^ k) ((get_or table k 0 + 64) * 64 ^ k)

-- "Shown over the whole table": 512 numbers that keep it. proofs/Weights.antt turns this test into the rule at each k.
abbrev pub keeps_the_rule : List ℕ → Bool
keeps_the_rule table =
    (eqb (length table) 512 && eqb (get_or table 0 0) 1073741824)
    && (throughout (steps_at table) 511 0 && throughout (bound_at table) 512 0)

-- The order of the charges that fit

-- "n and P the number and summed p of the line's waiting charges when the round begins"
pub record Crowd : Type 0 where
  pub number : ℕ
  pub total : ℕ

abbrev pub total_time : List Charge → ℕ
total_time [] = 0
total_time (c ∷ cs) = c.time + total_time cs

abbrev pub crowd_of : List Charge → Crowd
crowd_of cs = record { number = length cs; total = total_time cs }

-- "m = max(0, d − start − p)": a difference of natural numbers is 0 where it would be below
abbrev pub slack : ℕ → Charge → ℕ
slack s c = c.due - (s + c.time)

-- "The weight is E(k), k being 256 × m × n / P rounded down"
abbrev pub urgency : Crowd → ℕ → Charge → ℕ
urgency q s c = weight_of (256 * slack s c * q.number / q.total)

-- "the largest weight/p, unrounded, then the smaller d − p, then the smaller ticket": a's weight is u and b's v, and each is
-- multiplied by the other's p
abbrev pub heavier : ℕ → ℕ → Charge → Charge → Bool
heavier u v a b = ltb (v * a.time) (u * b.time) || (eqb (u * b.time) (v * a.time) && latest_start_before a b)

abbrev pub taken_before : Crowd → ℕ → Charge → Charge → Bool
taken_before q s a b = heavier (urgency q s a) (urgency q s b) a b

-- The charge that is taken

-- a charge, or none
pub data Pick : Type 0 where
  chosen : Charge → Pick
  nobody : Pick

-- of a charge and the foremost of some others, the one that comes before
abbrev pub better : (Charge → Charge → Bool) → Charge → Pick → Pick
better before c nobody = chosen c
better before c (chosen d) = chosen (cond (before d c) d c)

-- the one that comes before all others
abbrev pub foremost : (Charge → Charge → Bool) → List Charge → Pick
foremost before [] = nobody
foremost before (c ∷ cs) = better before c (foremost before cs)

-- the charge with this start
abbrev pub taken_at : ℕ → Pick → Pick
taken_at s nobody = nobody
taken_at s (chosen c) = chosen (starting c s)

-- a test whether a charge fits at a start, beside loads that are drawn already
abbrev pub Fitting : Type 0
Fitting = List Load → ℕ → Charge → Bool

-- "with the line's count, itself included, at or below the cap in all its minutes", and the site within w
abbrev pub fits_at : ℕ → Caps → Fitting
fits_at w cap xs s c = fits_under w cap xs (draw_of c) s

-- "the smallest start at which any unplaced charge fits"
unfoldable pub first_fit : Fitting → ℕ → List Load → List Charge → Found
first_fit fits clock xs left = first (λ s. some (fits xs s) left) (suc (last_until xs - clock)) clock

-- "and among those that fit there takes the one with the largest weight/p, .."
unfoldable pub picked : Fitting → ℕ → List Load → Crowd → List Charge → Pick
picked fits clock xs q left =
    elim (first_fit fits clock xs left) [
      | at s ↦ taken_at s (foremost (taken_before q s) (keep (fits xs s) left))
      | nothing ↦ nobody
    ]

-- the charges that are left when this ticket is placed
abbrev pub without_ticket : ℕ → List Charge → List Charge
without_ticket t cs = keep (λ c. not (eqb c.ticket t)) cs
