-- The rounds of replan by lines end: each takes something from the room above D under the caps, over the lines and the minutes in
-- which a round can place.
use mathlib.Core.Path.{◌≡◌, refl}
use Prim.Native.Nat.{ℕ, zero, suc, ◌+◌, ◌-◌, ◌*◌, min, max, ◌≤◌, ◌<◌}
use mathlib.Core.Bool.{Bool, true, false, cond}
use mathlib.Core.List.{List, ◌++◌, append-nil}
use native.Mathlib.Omega.{arith}
use Rattle.rules.specs.Basics.{Found, at, nothing}
use Rattle.rules.specs.Load.{counts, last_until, Limits}
use Rattle.rules.specs.Charge.{Charge, loads_of, waiting_charges}
use Rattle.rules.specs.Search.{Caps, first_unbalanced}
use Rattle.rules.specs.Priority.{fits_at}
use Rattle.rules.specs.Replan.{starts, none, Placed, all, stuck, standing, place_lines, largest_line, lowered, placed_active, Outcome, ends, lowers, after_round, round, go_on, rounds_from, by_lines}
use Rattle.rules.proofs.Searches.{unbalanced_first}
use Rattle.rules.proofs.Rounds.{AtLeast, lowered_at_least}
use Rattle.allowance.specs.Allowance.{drawn_time, minutes_ahead}
use Rattle.allowance.proofs.Sums.{sum_over, sum_same, sum_lower, sum_less}
use Rattle.allowance.proofs.Drawing.{under_until}
use Rattle.allowance.proofs.Lowerings.{Lowers, round_lowers, lowered_below, lowered_most}

-- The room under the caps

-- above d, in the k minutes from the clock on, over the three lines
abbrev pub room : ℕ → Caps → ℕ → ℕ → ℕ
room d cap k clock = sum_over (λ l. sum_over (λ u. cap l u - d) k clock) 3 1

-- The rounds

module _ (y : Limits) (clock : ℕ) (held : List Charge) where
  -- no cap is lowered below it
  least : ℕ
  least = min y.limit y.bound

  abbrev left_of_lem : Caps → ℕ
  left_of_lem cap = room least cap (minutes_ahead y clock held) clock

  caps_stay :
      (cap : Caps) (i t v : ℕ)
      → AtLeast least cap
      → round y clock held cap ≡ lowers i t v
      → AtLeast least (lowered cap i t v)
  unfolding least
  caps_stay cap i t v c e =
      lowered_at_least least cap i t v (omega (arith, (round_lowers y clock held cap i t v e).low)) c

  -- each lowering takes something from the room
  room_less :
      (cap : Caps) (i t v : ℕ)
      → AtLeast least cap
      → round y clock held cap ≡ lowers i t v
      → left_of_lem (lowered cap i t v) < left_of_lem cap
  room_less cap i t v c e =
      let r : Lowers y clock held cap i t v = round_lowers y clock held cap i t v e in
      let f = unbalanced_first y clock (standing y clock held ++ loads_of r.plan) t r.found in
      let far = under_until r.placed.under in
      sum_less (λ l. sum_over (λ u. cap l u - least) (minutes_ahead y clock held) clock)
      (λ l. sum_over (λ u. lowered cap i t v l u - least) (minutes_ahead y clock held) clock) 3 1 i
      (λ l. sum_lower (λ u. cap l u - least) (λ u. lowered cap i t v l u - least) (minutes_ahead y clock held) clock (less l))
      r.line.low
      (omega (arith, r.line.high))
      (sum_less (λ u. cap i u - least) (λ u. lowered cap i t v i u - least) (minutes_ahead y clock held) clock t
      (less i)
      f.low
      (within t (last_until (standing y clock held ++ loads_of r.plan)) (drawn_time r.plan) f.high f.low r.placed.drawn
      (rw (append-nil (standing y clock held)) at far))
      (omega (arith, lowered_below y clock held cap i t v e, caps_stay cap i t v c e i t)))
    where
      less : (l u : ℕ) → lowered cap i t v l u - least ≤ cap l u - least
      less l u = omega (arith, lowered_most cap i t v l u)

      within :
          (t u d : ℕ)
          → t < clock + (u - clock)
          → clock ≤ t
          → d ≤ drawn_time (waiting_charges clock held)
          → u + 0 ≤ max clock (last_until (standing y clock held)) + d
          → t < clock + minutes_ahead y clock held
      within t u d a b c e = omega arith

  -- a round does not end with the allowance spent
  abbrev NotSpent : Outcome → Type 0
  NotSpent (ends (starts ss)) = Unit {0}
  NotSpent (ends (none cause)) = cause ≡ 1
  NotSpent (lowers i t v) = Unit {0}

  round_not_spent : (cap : Caps) → NotSpent (round y clock held cap)
  unfolding round
  round_not_spent cap =
      placed (place_lines (fits_at y.site cap) clock (standing y clock held) (waiting_charges clock held) 3)
    where
      unbalanced : (b : Bool) (i t v : ℕ) → NotSpent (cond b (lowers i t v) (ends (none 1)))
      unbalanced true i t v = tt
      unbalanced false i t v = refl

      placed : (p : Placed) → NotSpent (after_round y clock held p)
      placed stuck = refl
      placed (all plan) = searched (first_unbalanced y clock (standing y clock held ++ loads_of plan)) refl
        where
          searched :
              (o : Found)
              → first_unbalanced y clock (standing y clock held ++ loads_of plan) ≡ o
              → NotSpent (after_round y clock held (all plan))
          searched nothing e = rw (e, after_round) tt
          searched (at t) e =
              rw (e, after_round)
              (unbalanced (placed_active plan (largest_line (counts (standing y clock held ++ loads_of plan) t)) t) _ t _)

  -- each further round takes something from the room
  rounds_most :
      (left made : ℕ) (cap : Caps)
      → AtLeast least cap
      → (rounds_from (round y clock held) left made cap).rounds ≤ made + left_of_lem cap
  unfolding rounds_from
  rounds_most zero made cap c = go (round y clock held cap)
    where
      go : (o : Outcome) → (go_on made (λ c. record { proposal = none 2; rounds = made }) cap o).rounds ≤ made + left_of_lem cap
      go (ends p) = omega arith
      go (lowers i t v) = omega arith
  rounds_most (suc left) made cap c =
      go (round y clock held cap) refl (λ lower a. rounds_most left (suc made) lower a)
    where
      go :
          (o : Outcome)
          → round y clock held cap ≡ o
          → ((lower : Caps)
          → AtLeast least lower
          → (rounds_from (round y clock held) left (suc made) lower).rounds ≤ suc made + left_of_lem lower)
          → (go_on made (rounds_from (round y clock held) left (suc made)) cap o).rounds ≤ made + left_of_lem cap
      go (ends p) e again = omega arith
      go (lowers i t v) e again =
          omega (arith, again (lowered cap i t v) (caps_stay cap i t v c e), room_less cap i t v c e)

  rounds_end :
      (left made : ℕ) (cap : Caps)
      → AtLeast least cap
      → left_of_lem cap ≤ left
      → (rounds_from (round y clock held) left made cap).proposal ≡ none 2
      → ⊥
  unfolding rounds_from
  rounds_end zero made cap c h = go (round y clock held cap) refl (round_not_spent cap)
    where
      go :
          (o : Outcome)
          → round y clock held cap ≡ o
          → NotSpent o
          → (go_on made (λ c. record { proposal = none 2; rounds = made }) cap o).proposal ≡ none 2
          → ⊥
      go (ends (starts ss)) e n q = let z : ◌≡◌ {A = ℕ} 0 1 = cc in omega arith
      go (ends (none cause)) e n q = let z : cause ≡ 2 = cc in omega arith
      go (lowers i t v) e n q = omega (arith, room_less cap i t v c e)
  rounds_end (suc left) made cap c h =
      go (round y clock held cap) refl (round_not_spent cap) (λ lower a j. rounds_end left (suc made) lower a j)
    where
      go :
          (o : Outcome)
          → round y clock held cap ≡ o
          → NotSpent o
          → ((lower : Caps)
          → AtLeast least lower
          → left_of_lem lower ≤ left
          → (rounds_from (round y clock held) left (suc made) lower).proposal ≡ none 2
          → ⊥)
          → (go_on made (rounds_from (round y clock held) left (suc made)) cap o).proposal ≡ none 2
          → ⊥
      go (ends (starts ss)) e n again q = let z : ◌≡◌ {A = ℕ} 0 1 = cc in omega arith
      go (ends (none cause)) e n again q = let z : cause ≡ 2 = cc in omega arith
      go (lowers i t v) e n again q =
          again (lowered cap i t v) (caps_stay cap i t v c e) (omega (arith, room_less cap i t v c e)) q

  -- N in every minute at first
  first_caps_lem : AtLeast least (λ l t. y.limit)
  unfolding least
  first_caps_lem l t = omega arith

  first_room : left_of_lem (λ l t. y.limit) ≡ 3 * ((y.limit - y.bound) * minutes_ahead y clock held)
  unfolding least
  first_room =
      let e : sum_over (λ t. y.limit - least) (minutes_ahead y clock held) clock ≡ (y.limit - least) * minutes_ahead y clock held
      = sum_same (y.limit - least) (minutes_ahead y clock held) clock in
      let d : y.limit - least ≡ y.limit - y.bound = omega arith in
      rw (e, d) (omega arith)

  pub few_rounds :
      (a : ℕ) → (by_lines y clock a held).rounds ≤ 1 + 3 * ((y.limit - y.bound) * minutes_ahead y clock held)
  unfolding by_lines
  few_rounds a = rw (← first_room) (rounds_most (a - 1) 1 (λ l t. y.limit) first_caps_lem)

  -- an allowance of so many is not spent
  pub never_spent :
      (a : ℕ)
      → 3 * ((y.limit - y.bound) * minutes_ahead y clock held) < a
      → (by_lines y clock a held).proposal ≡ none 2
      → ⊥
  unfolding by_lines
  never_spent a h = rounds_end (a - 1) 1 (λ l t. y.limit) first_caps_lem (rw first_room (omega arith))
