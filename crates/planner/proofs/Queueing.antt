-- The waiting charges in the order in which they are taken: tickets are distinct, and the profile has room for all.
use mathlib.Core.Logic.{◌⊎◌, inl, inr}
use mathlib.Core.Path.{◌≡◌, ap}
use Prim.Native.Nat.{ℕ, ◌+◌, ◌≤◌, ◌<◌}
use mathlib.Core.List.{List, map}
use native.Mathlib.Omega.{arith}
use lib.ListN.{length, get_or, drop}
use Rattle.std.proofs.lemmas.List.{length-map}
use Rattle.rules.specs.Site.{places as most}
use Rattle.rules.specs.Charge.{Charge, latest_start_before, waiting_charges}
use Rattle.rules.specs.Replan.{by_latest_start}
use Rattle.rules.proofs.Ranges.{below_or_not}
use Rattle.rules.proofs.Lists.{length_tabulate}
use Rattle.charges.specs.declared.Charges.{Charges}
use Rattle.charges.specs.Arrays.{charge_at, charges_of}
use Rattle.charges.specs.Held.{Listed}
use Rattle.queues.specs.Queues.{PlacesIn, Ordered}
use Rattle.charges.proofs.TicketOrder.{rising_all}
use Rattle.rules.proofs.Sorting.{length-sorted}
use Rattle.planner.specs.Ready.{begun_of}
use Rattle.planner.proofs.Showing.{begun_and_waiting_lem}

-- the charge at the k-th place
abbrev pub charge_in : Charges → List ℕ → ℕ → Charge
charge_in c q k = charge_at c (get_or q k 0)

-- the charges to be taken after the first k
abbrev pub queue_from : Charges → List ℕ → ℕ → List Charge
queue_from c q k = map (charge_at c) (drop k q)

-- the waiting charges in their order, none of them twice, which leave room for the begun ones
pub record Queue (clock : ℕ) (c : Charges) (q : List ℕ) : Type 0 where
  pub charges : queue_from c q 0 ≡ by_latest_start (waiting_charges clock (charges_of c))
  pub places : PlacesIn c q
  pub room : length (begun_of clock c) + length q ≤ most

-- charges at different places have different tickets
pub places_apart :
    {c : Charges} → Listed c → (i j : ℕ) → i < c.held → j < c.held → (i ≡ j → ⊥) → (charge_at c i).ticket ≡ (charge_at c j).ticket → ⊥
places_apart {c} r i j h l ne e = go (below_or_not i j) (below_or_not j i)
  where
    go : (i < j) ⊎ (j ≤ i) → (j < i) ⊎ (i ≤ j) → ⊥
    go (inl p) q = omega (arith, rising_all c r.rising i j p l)
    go (inr p) (inl q) = omega (arith, rising_all c r.rising j i q h)
    go (inr p) (inr q) = ne (omega arith)

pub queue_latest_start :
    {clock : ℕ} {c : Charges} {q lent : List ℕ} → Listed c → lent ≡ q → Ordered c (by_latest_start (waiting_charges clock (charges_of c))) q → Queue clock c lent
queue_latest_start {clock} {c} {q} h e o =
    rw e
    (record {
      charges = o.charges;
      places = o.places;
      room =
          omega (
            arith,
            begun_and_waiting_lem clock (charges_of c),
            length-sorted latest_start_before (waiting_charges clock (charges_of c)),
            length_tabulate (charge_at c) c.held 0,
            ap length o.charges,
            length-map q (charge_at c),
            c.few,
          );
    })
