-- A larger allowance changes nothing that was reached, each lowering is strict, and the rounds end.
use mathlib.Core.Path.{◌≡◌, refl}
use Prim.Native.Nat.{ℕ, ◌+◌, ◌-◌, ◌*◌, ◌≤◌, ◌<◌}
use mathlib.Core.Bool.{Bool, true, false, cond, not}
use mathlib.Core.List.{List, [], ◌∷◌}
use native.Mathlib.Omega.{arith}
use native.Mathlib.Nat.{mul-le-mul}
use lib.Dec.{ltb}
use lib.ListN.{length}
use borrow.Author.Tests.{ltb-true, ltb-false, le-ltb}
use Rattle.rules.specs.Basics.{Each}
use Rattle.rules.specs.Load.{last_until}
use Rattle.rules.specs.Charge.{Charge, loads_of, is_begun, begun_charges, waiting_charges}
use Rattle.rules.specs.Replan.{none, by_lines}
use Rattle.rules.specs.Site.{State, feeder_of, charges_on, others_of, limits_of}
use Rattle.rules.specs.Calls.{replan_lines, refusals, replanning_lines}
use Rattle.rules.specs.Valid.{ValidCharge, ValidSettings, ValidPlan}
use Rattle.rules.proofs.Ranges.{or_left, or-none}
use Rattle.rules.proofs.Tables.{none_first_of}
use Rattle.rules.proofs.Sites.{until_append, last_seen}
use Rattle.guarantee.specs.DemandOne.{NoneApplies}
use Rattle.guarantee.proofs.Each.{each_in}
use Rattle.restarts.specs.Restarts.{stands}
use Rattle.allowance.specs.Allowance.{drawn_time, minutes_ahead, Everywhere, LargestYard, WhereverItStands}
use Rattle.allowance.proofs.Lowerings.{lowered_below, lowered_most, by_lines_same}
use Rattle.allowance.proofs.Endings.{few_rounds, never_spent}

-- an allowance from 1 to 1,000 is not refused where the feeder is not
allowed :
    (s : State) (f a b : ℕ)
    → NoneApplies (refusals s (replan_lines f a))
    → 1 ≤ b
    → b ≤ 1000
    → NoneApplies (refusals s (replan_lines f b))
allowed s f a b q h j = (q.0, (or-none (ltb b 1) (ltb 1000 b) (le-ltb b 1 h) (le-ltb 1000 b j), tt))

pub everywhere : Everywhere
unfolding replanning_lines
everywhere s f =
    record {
      same =
          λ a b q h j n.
          let low : 1 ≤ a = ltb-false a 1 (or_left (ltb a 1) (ltb 1000 a) q.1.0) in
          let p : (by_lines (limits_of s f) s.clock a (charges_on s f)).proposal ≡ none 2 → ⊥
          = λ e. n (rw (none_first_of (refusals s (replan_lines f a)) q, e) (_, _, _, refl)) in
          rw (
            none_first_of (refusals s (replan_lines f a)) q,
            none_first_of (refusals s (replan_lines f b)) (allowed s f a b q (omega arith) j),
            by_lines_same (limits_of s f) s.clock a b (charges_on s f) (omega (arith, h)) p,
          );
      lower = λ cap i t v e. omega (arith, lowered_below (limits_of s f) s.clock (charges_on s f) cap i t v e);
      nowhere_higher = lowered_most;
      few_rounds = few_rounds (limits_of s f) s.clock (charges_on s f);
      never_spent = never_spent (limits_of s f) s.clock (charges_on s f);
    }

pub wherever : WhereverItStands
wherever x events f = everywhere (stands x events) f

-- The largest yard

-- begun charges reach less far than they draw in all, and each of the others draws 1,445 minutes at most
ahead_most :
    (clock : ℕ) (cs : List Charge)
    → Each (λ c. c.active_time ≤ 1445) cs
    → last_until (loads_of (begun_charges clock cs)) ≤ clock + 1445 * length cs - drawn_time (waiting_charges clock cs)
    × (drawn_time (waiting_charges clock cs) ≤ 1445 * length cs)
ahead_most clock [] e = (omega arith, omega arith)
ahead_most clock (c ∷ cs) e = go (is_begun clock c) refl (ahead_most clock cs e.1)
  where
    go :
        (b : Bool)
        → is_begun clock c ≡ b
        → last_until (loads_of (begun_charges clock cs)) ≤ clock + 1445 * length cs - drawn_time (waiting_charges clock cs)
        × (drawn_time (waiting_charges clock cs) ≤ 1445 * length cs)
        → last_until (loads_of (cond b (c ∷ begun_charges clock cs) (begun_charges clock cs)))
        ≤ clock + 1445 * length (c ∷ cs) - drawn_time (cond (not b) (c ∷ waiting_charges clock cs) (waiting_charges clock cs))
        × (drawn_time (cond (not b) (c ∷ waiting_charges clock cs) (waiting_charges clock cs)) ≤ 1445 * length (c ∷ cs))
    go true p ih =
        let begun : c.start < clock = ltb-true c.start clock p in
        (omega (arith, e.0, ih.0, ih.1), omega (arith, ih.1))
    go false p ih = (omega (arith, e.0, ih.0, ih.1), omega (arith, e.0, ih.1))

pub largest_yard : LargestYard
largest_yard s f v h =
    let g : ValidSettings (feeder_of s f) = v.settings f h in
    let p : ValidPlan s.site s.clock s.next (feeder_of s f) = v.plan f h in
    let ahead = ahead_most s.clock (charges_on s f)
    (each_in (λ c (w : ValidCharge (feeder_of s f) s.site s.clock s.next c). omega (arith, w.active, w.time_high, g.tail_high)) (charges_on s f) p.each) in
    let m : minutes_ahead (limits_of s f) s.clock (charges_on s f) ≤ 260100 + (last_until (loads_of (others_of s f)) - s.clock)
    = rw (last_seen (others_of s f) (begun_charges s.clock (charges_on s f)), until_append (others_of s f) (begun_charges s.clock (charges_on s f)))
    (omega (arith, ahead.0, ahead.1, p.few)) in
    let n : (feeder_of s f).limit - (feeder_of s f).bound ≤ 59 = omega (arith, g.limit_high, g.bound_low) in
    omega (arith, mul-le-mul n m)
