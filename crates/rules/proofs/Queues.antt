-- Charges sorted by a number, then ticket: each charge once, and any two in their order.
use mathlib.Core.Path.{◌≡◌, sym}
use Prim.Native.Nat.{ℕ, suc, ◌≤◌}
use mathlib.Core.Bool.{Bool, false}
use mathlib.Core.List.{List, [], ◌∷◌}
use native.Mathlib.Omega.{arith}
use Rattle.rules.specs.Basics.{Each, sorted_by}
use Rattle.rules.specs.Charge.{Charge, latest_start_before}
use Rattle.rules.specs.Calls.{start_before}
use Rattle.rules.specs.Valid.{Rising}
use Rattle.rules.specs.laws.Orders.{LatestStartsAreInOrder}
use Rattle.rules.proofs.Lists.{each_map}
use Rattle.rules.proofs.Tickets.{rising_from}
use Rattle.rules.proofs.Sorting.{sorted_rearranged, InOrder, in_order_rearranged, Sorted, SortedRearrangement, Ordering, sorted_sorted}
use Rattle.rules.proofs.ThenTicket.{ThenTicket, ticket_decides, start_ordering}
use Rattle.rules.proofs.LatestStarts.{LatestStartBefore, latest_start_ordering, latest_start_decides}

-- no two charges have the same ticket
abbrev pub Distinct : List Charge → Type 0
Distinct cs = InOrder (λ a b. a.ticket ≡ b.ticket → ⊥) cs

-- rising tickets differ
pub rising_other : (i : ℕ) (cs : List Charge) → Rising i cs → Distinct cs
rising_other i [] r = tt
rising_other i (c ∷ cs) r = (
  each_map (λ d. suc c.ticket ≤ d.ticket) (λ d. c.ticket ≡ d.ticket → ⊥) (λ d h e. omega arith) cs
      (rising_from (suc c.ticket) cs r.1),
  rising_other (suc c.ticket) cs r.1,
)

-- an order that decides between any two tickets, as R
module _
    (before : Charge → Charge → Bool) (R : Charge → Charge → Type 0) (o : Ordering before)
    (decides : (a b : Charge) → before b a ≡ false → (a.ticket ≡ b.ticket → ⊥) → R a b) where
  decided : (cs : List Charge) → Sorted before cs → Distinct cs → InOrder R cs
  decided [] s d = tt
  decided (c ∷ cs) s d = (each_decided cs s.0 d.0, decided cs s.1 d.1)
    where
      each_decided :
          (ds : List Charge)
          → Each (λ b. before b c ≡ false) ds
          → Each (λ b. c.ticket ≡ b.ticket → ⊥) ds
          → Each (R c) ds
      each_decided [] p q = tt
      each_decided (b ∷ ds) p q = (decides c b p.0 q.0, each_decided ds p.1 q.1)

  sorted_strictly : (cs : List Charge) → Distinct cs → SortedRearrangement R cs (sorted_by before cs)
  sorted_strictly cs d =
      record {
        rearranged = sorted_rearranged before cs;
        sorted =
            decided (sorted_by before cs) (sorted_sorted before o cs)
            (in_order_rearranged (λ a b. a.ticket ≡ b.ticket → ⊥) (λ a b h e. h (sym e)) (sorted_rearranged before cs) d);
      }

-- "by d − p, then ticket": of any two charges, the earlier one has the smaller d − p, or the same and the smaller ticket
pub latest_start_order : LatestStartsAreInOrder
latest_start_order i cs r =
    sorted_strictly latest_start_before LatestStartBefore latest_start_ordering latest_start_decides cs (rising_other i cs r)

-- "by start, then ticket"
pub start_order :
    (cs : List Charge)
    → Distinct cs
    → SortedRearrangement (λ a b. ThenTicket a.start b.start a b) cs (sorted_by start_before cs)
start_order =
    sorted_strictly start_before (λ a b. ThenTicket a.start b.start a b) start_ordering
    (λ a b. ticket_decides a.start b.start a b)
