-- Held charges as loads: begun and waiting ones, and that a profile takes them.
use mathlib.Core.Path.{◌≡◌, refl, ap}
use Prim.Native.Nat.{ℕ, suc, ◌+◌, ◌≤◌}
use mathlib.Core.Bool.{Bool, true, false, cond, not}
use mathlib.Core.List.{List, [], ◌∷◌, ◌++◌}
use native.Mathlib.Omega.{arith}
use lib.ListN.{length}
use Rattle.rules.specs.Basics.{Each}
use Rattle.rules.specs.Load.{IsRate, last_until}
use Rattle.rules.specs.Charge.{Charge, active_until, load_of, loads_of, is_begun, begun_charges, waiting_charges}
use Rattle.rules.proofs.Lists.{map-append, each_tabulate}
use Rattle.rules.proofs.Ends.{until_each, until_kept}
use Rattle.charges.specs.declared.Charges.{Charges}
use Rattle.charges.specs.Arrays.{charge_at, charges_of}
use Rattle.charges.specs.Held.{Listed}
use Rattle.planner.specs.Others.{Plannable}
use Rattle.planner.specs.Ready.{Profiled}

pub length_loads_of : (cs : List Charge) → length (loads_of cs) ≡ length cs
length_loads_of [] = refl
length_loads_of (c ∷ cs) = ap suc (length_loads_of cs)

pub loads_append : (xs ys : List Charge) → loads_of (xs ++ ys) ≡ loads_of xs ++ loads_of ys
loads_append xs ys = map-append load_of xs ys

-- Begun and waiting charges are all

pub begun_and_waiting_lem :
    (clock : ℕ) (cs : List Charge) → length (begun_charges clock cs) + length (waiting_charges clock cs) ≡ length cs
begun_and_waiting_lem clock [] = refl
begun_and_waiting_lem clock (c ∷ cs) = go (is_begun clock c) (begun_and_waiting_lem clock cs)
  where
    go :
        (b : Bool)
        → length (begun_charges clock cs) + length (waiting_charges clock cs) ≡ length cs
        → length (cond b (c ∷ begun_charges clock cs) (begun_charges clock cs))
        + length (cond (not b) (c ∷ waiting_charges clock cs) (waiting_charges clock cs))
        ≡ suc (length cs)
    go true e = omega arith
    go false e = omega arith

-- "No held time reaches 100,000,000": nothing is drawn behind it, but for one charging time and its tail
pub held_end_most : {c : Charges} → Listed c → last_until (loads_of (charges_of c)) ≤ 100001445
held_end_most {c} h =
    until_each 100001445 (charges_of c)
    (each_tabulate (λ x. active_until x ≤ 100001445) (charge_at c) c.held 0
    (λ i p q.
    let s = h.small i (omega arith) in
    omega (arith, s.start_most, s.active_most)))

pub begun_end_most : {c : Charges} → Listed c → (clock : ℕ) → last_until (loads_of (begun_charges clock (charges_of c))) ≤ 100001445
begun_end_most {c} h clock = omega (arith, held_end_most h, until_kept (is_begun clock) (charges_of c))

-- charges with a rate that end by then go into a profile
pub plannable : (cs : List Charge) → Each (λ c. IsRate c.rate) cs → Each (λ c. active_until c ≤ 100001445) cs → Each Plannable (loads_of cs)
plannable [] r e = tt
plannable (c ∷ cs) r e = (
  record { drawable = record { is_rate = r.0; ends_fit = omega (arith, e.0) }; below = omega (arith, e.0) },
  plannable cs r.1 e.1,
)

pub listed_profiled : {c : Charges} → Listed c → Profiled c
listed_profiled {c} h =
    record {
      plannable =
          plannable (charges_of c)
          (each_tabulate (λ x. IsRate x.rate) (charge_at c) c.held 0 (λ i p q. (h.small i (omega arith)).is_rate))
          (each_tabulate (λ x. active_until x ≤ 100001445) (charge_at c) c.held 0
          (λ i p q.
          let s = h.small i (omega arith) in
          omega (arith, s.start_most, s.active_most)));
    }
