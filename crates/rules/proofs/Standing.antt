-- What stands while a plan of a feeder is made, and that a start is left for each of its waiting charges: "Begun charges and the other
-- feeders' charges alone keep within W, so every waiting charge still finds a start under the caps."
use mathlib.Core.Path.{◌≡◌, refl}
use Prim.Native.Nat.{ℕ, ◌+◌, ◌-◌, min, ◌≤◌}
use mathlib.Core.Bool.{Bool, true, false, cond}
use mathlib.Core.List.{List, [], ◌∷◌, ◌++◌}
use native.Mathlib.Omega.{arith}
use Rattle.rules.specs.Basics.{Each, Found, at, nothing, keep}
use Rattle.rules.specs.Load.{Load, Limits, drawn, counts, whole_of, IsLine}
use Rattle.rules.specs.Charge.{Charge, loads_of, seen, is_begun, is_waiting, begun_charges, waiting_charges}
use Rattle.rules.specs.Search.{Caps, first_unbalanced}
use Rattle.rules.specs.Priority.{fits_at}
use Rattle.rules.specs.Replan.{none, Placed, all, stuck, standing, place_lines, placed_active, Outcome, ends, lowers, after_round, round, rounds_from, by_lines}
use Rattle.rules.specs.Site.{State, feeder_of, charges_on, others_of, limits_of}
use Rattle.rules.specs.Valid.{ValidCharge, IsFeeder, ValidState}
use Rattle.rules.specs.laws.Placing.{AtLeast}
use Rattle.rules.specs.laws.Rounds.{CapsOf, whole, after, RoundPlacesAll}
use Rattle.rules.proofs.Lists.{each_map, keep_each}
use Rattle.rules.proofs.Rounding.{bound_at_most}
use Rattle.rules.proofs.Rounds.{lowered_at_least, LeavesIn, rounds_played}
use Rattle.rules.proofs.Counts.{sound_from_lem}
use Rattle.rules.proofs.Sites.{whole_beside, lines_own}
use Rattle.rules.proofs.Holding.{lines_valid}
use Rattle.rules.proofs.Picking.{lines_whole, round_places}

-- some of the charges draw no more than all
drawn_kept : (f : Charge → Bool) (cs : List Charge) (t : ℕ) → drawn (loads_of (keep f cs)) t ≤ drawn (loads_of cs) t
drawn_kept f [] t = omega arith
drawn_kept f (c ∷ cs) t = go (f c) (drawn_kept f cs t)
  where
    go :
        (b : Bool)
        → drawn (loads_of (keep f cs)) t ≤ drawn (loads_of cs) t
        → drawn (loads_of (cond b (c ∷ keep f cs) (keep f cs))) t ≤ drawn (loads_of (c ∷ cs)) t
    go true h = omega arith
    go false h = omega arith

pub caps_at_least : (y : Limits) → y.bound ≤ y.limit → (cap : Caps) → CapsOf y cap → AtLeast y.bound cap
caps_at_least y n top whole = λ l t. n
caps_at_least y n top (after {cap = lower} c i u count) =
    lowered_at_least y.bound lower i u (count + y.bound) (omega arith) (caps_at_least y n lower c)

-- a round with such caps ends the replan, or leaves such caps
round_leaves :
    (y : Limits) (clock : ℕ) (held : List Charge) (cap : Caps) → CapsOf y cap → LeavesIn (CapsOf y) cap (round y clock held cap)
unfolding round
round_leaves y clock held cap c =
    after (place_lines (fits_at y.site cap) clock (standing y clock held) (waiting_charges clock held) 3)
  where
    lowering : (b : Bool) (i t count : ℕ) → LeavesIn (CapsOf y) cap (cond b (lowers i t (count + y.bound)) (ends (none 1)))
    lowering true i t count = CapsOf.after c i t count
    lowering false i t count = tt

    searched :
        (placed : List Charge)
        → (o : Found)
        → first_unbalanced y clock (standing y clock held ++ loads_of placed) ≡ o
        → LeavesIn (CapsOf y) cap (after_round y clock held (all placed))
    searched placed nothing e = rw (e, after_round) tt
    searched placed (at t) e = rw (e, after_round) (lowering (placed_active placed _ t) _ t _)

    after : (p : Placed) → LeavesIn (CapsOf y) cap (after_round y clock held p)
    after stuck = tt
    after (all placed) = searched placed (first_unbalanced y clock (standing y clock held ++ loads_of placed)) refl

-- A feeder of a valid site, by its number
module _ (s : State) (v : ValidState s) (f : ℕ) (h : IsFeeder s f) where
  -- what stands while a plan of the feeder is made, and the charges that are given a start
  abbrev base : List Load
  base = standing (limits_of s f) s.clock (charges_on s f)

  abbrev waiting : List Charge
  waiting = waiting_charges s.clock (charges_on s f)

  lines : Each (λ c. IsLine c.line) (charges_on s f)
  lines = lines_valid (feeder_of s f) s.site s.clock s.next (charges_on s f) (v.plan f h).each

  beside :
      (t : ℕ) (cs : List Charge)
      → Each (λ c. IsLine c.line) cs
      → whole_of (counts (seen (limits_of s f) cs) t) ≡ drawn (loads_of (others_of s f)) t + drawn (loads_of cs) t
  beside t cs e = whole_beside (loads_of (others_of s f)) (loads_of cs) t (lines_own cs e)

  -- "Begun charges and the other feeders' charges alone keep within W"
  pub standing_within : (t : ℕ) → s.clock ≤ t → whole_of (counts base t) ≤ s.site
  standing_within t j =
      let held = sound_from_lem (limits_of s f) s.clock (seen (limits_of s f) (charges_on s f)) (v.sound_on f h) t j in
      omega (
        arith,
        beside t (begun_charges s.clock (charges_on s f))
            (keep_each (λ c. IsLine c.line) (is_begun s.clock) (charges_on s f) lines),
        beside t (charges_on s f) lines,
        drawn_kept (is_begun s.clock) (charges_on s f) t,
        held.site,
      )

  bound_within : (feeder_of s f).bound ≤ (feeder_of s f).limit
  bound_within =
      let g = v.settings f h in
      rw g.bound_is (bound_at_most (feeder_of s f).limit (feeder_of s f).percent g.percent_high)

  -- "every waiting charge still finds a start under the caps": a round places the charges of all lines, which are all that wait
  pub round_complete : (cap : Caps) → CapsOf (limits_of s f) cap → RoundPlacesAll s f cap
  round_complete cap c =
      let least : ℕ = min (feeder_of s f).bound s.site in
      record {
        lines =
            round_places least s.site cap s.clock base (charges_on s f)
            (omega arith)
            (λ l t. omega (arith, caps_at_least (limits_of s f) bound_within cap c l t))
            (each_map (ValidCharge (feeder_of s f) s.site s.clock s.next) (λ c. c.rate ≤ least)
            (λ c p. omega (arith, p.within_bound, p.within_site_lem))
            (charges_on s f)
            (v.plan f h).each)
            (v.plan f h).rising;
        all_lines = lines_whole waiting (keep_each (λ c. IsLine c.line) (is_waiting s.clock) (charges_on s f) lines);
      }

  -- and in every round that a replan by lines plays: a play that does as `round` wherever every waiting charge has a start gives the
  -- same replan, so no other round is played
  pub rounds_complete :
      (play : Caps → Outcome)
      → ((cap : Caps) → RoundPlacesAll s f cap → round (limits_of s f) s.clock (charges_on s f) cap ≡ play cap)
      → (allowance : ℕ)
      → by_lines (limits_of s f) s.clock allowance (charges_on s f)
      ≡ rounds_from play (allowance - 1) 1 (λ l t. (feeder_of s f).limit)
  unfolding by_lines
  rounds_complete play same allowance =
      rounds_played (CapsOf (limits_of s f)) (round (limits_of s f) s.clock (charges_on s f)) play
      (round_leaves (limits_of s f) s.clock (charges_on s f))
      (λ cap c. same cap (round_complete cap c))
      (allowance - 1)
      1
      (λ l t. (feeder_of s f).limit)
      whole
