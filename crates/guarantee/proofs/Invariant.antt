-- What holds after every list of calls.
use mathlib.Core.Path.{◌≡◌, refl, sym, ap, subst, ◌∙◌}
use Prim.Native.Nat.{ℕ, suc, ◌+◌, ◌-◌, ◌≤◌, ◌<◌}
use mathlib.Core.Bool.{not}
use mathlib.Core.List.{List, [], ◌∷◌, ◌++◌, map, append_assoc}
use native.Mathlib.Omega.{arith}
use lib.ListN.{length, length-append, get_or-map}
use Rattle.rules.specs.Basics.{Each}
use Rattle.rules.specs.Load.{last_until}
use Rattle.rules.specs.Charge.{Charge, active_until, loads_of, seen, is_finished, unfinished_charges}
use Rattle.rules.specs.Site.{Feeder, State, no_feeder, feeder_of, charges_on, site_charges, limits_of}
use Rattle.rules.specs.Valid.{IsFeeder}
use Rattle.rules.proofs.Lists.{each_append, keep_each}
use Rattle.rules.proofs.Sorting.{InOrder}
use Rattle.rules.proofs.Ends.{until_each}
use Rattle.rules.proofs.Queues.{Distinct}
use Rattle.rules.proofs.Distinct.{in_order_append, in_order_keep}
use Rattle.rules.proofs.Sites.{Own, until_joins}
use Rattle.rules.proofs.Holding.{last_site}
use Rattle.guarantee.specs.Past.{Order, Report, orders_of, is_withdrawn, staying, tail_of, Numbered, total_time, last_minute}
use Rattle.guarantee.proofs.Each.{each_in, image_each, image_order, order_image}
use Rattle.guarantee.proofs.History.{Booked, order_in, orders_in, charges_in, booked_on, Fit}
use Rattle.guarantee.proofs.Held.{station_of, station_is, station_feeder}
use Rattle.guarantee.proofs.Holdings.{station_site_lem}
use Rattle.guarantee.proofs.Arrangements.{number_rearranged}
use Rattle.guarantee.proofs.Reports.{Worth, sum_reports, sum_begun}

-- the orders: those of the charges that site b held when the list of calls began, then those accepted since; n is the next ticket
pub record Accepted (b : State) (n : ℕ) (os : List Order) : Type 0 where
  pub new : List Order
  pub is : os ≡ orders_of b ++ new
  pub numbered : Numbered b.next new
  pub next : n ≡ b.next + length new
  pub named : Each (λ o. IsFeeder b o.feeder) os
  pub given : Each (λ o. o.ticket < n) os
  pub distinct : InOrder (λ o p. o.ticket ≡ p.ticket → ⊥) os

-- r of each feeder
abbrev pub tails_of : State → List ℕ
tails_of b = map (λ g. g.tail) b.feeders

pub tail-is : (b : State) (o : Order) → tail_of (tails_of b) o ≡ (feeder_of b o.feeder).tail
tail-is b o = get_or-map (λ (g : Feeder). g.tail) b.feeders (o.feeder - 1) no_feeder

-- a minute by which every charge of the history is over: more than demand 3 asks, a charge draws up to r minutes after its end, and
-- the next one starts behind that
abbrev pub ceiling_of : State → List Order → ℕ
ceiling_of b os = last_until (loads_of (site_charges b)) + (last_minute 0 os + total_time (tails_of b) os)

-- limit and balance of a feeder by its charges cs, W by all charges of the site
abbrev pub OwnOf : State → ℕ → List Charge → List Charge → ℕ → Type 0
OwnOf b f cs all t = Own (feeder_of b f).limit (feeder_of b f).bound b.site cs all t

-- b: the site that the list of calls began with; k: the clock; n: the next ticket; os: the orders; ws: the tickets
-- withdrawn; hs: the history; rs: the reports
pub record Invariant (b : State) (k n : ℕ) (os : List Order) (ws : List ℕ) (hs : List Booked) (rs : List Report) : Type 0 where
  pub accepted : Accepted b n os
  pub last : last_minute 0 os ≤ k
  -- the history has a charge for each that stays, and no other
  pub orders : orders_in hs ≡ staying ws os
  pub off : Each (λ t. t < n) ws
  pub fit : Each (Fit b k) hs
  pub in_time : Each (λ c. active_until c ≤ ceiling_of b os) (charges_in hs)
  -- every minute from the beginning on, gone or to come, each feeder by its number
  pub always : (f t : ℕ) → IsFeeder b f → b.clock ≤ t → OwnOf b f (booked_on f hs) (charges_in hs) t
  pub reports : (w : Worth) → sum_reports w rs ≡ sum_begun w k (charges_in hs)

-- One order more

numbered_append :
    (i : ℕ) (os : List Order) (o : Order)
    → Numbered i os
    → o.ticket ≡ i + length os
    → Numbered i (os ++ (o ∷ []))
numbered_append i [] o n e = (omega arith, tt)
numbered_append i (x ∷ os) o n e = (n.0, numbered_append (suc i) os o n.1 (omega arith))

pub total_time_append :
    (tails : List ℕ) (os ps : List Order) → total_time tails (os ++ ps) ≡ total_time tails os + total_time tails ps
total_time_append tails [] ps = omega arith
total_time_append tails (o ∷ os) ps = rw (total_time_append tails os ps) (omega arith)

pub last_minute_append : (m : ℕ) (os : List Order) (o : Order) → last_minute m (os ++ (o ∷ [])) ≡ o.minute
last_minute_append m [] o = refl
last_minute_append m (x ∷ os) o = last_minute_append x.minute os o

pub accepted_append :
    (b : State) (n : ℕ) (os : List Order) (o : Order)
    → Accepted b n os
    → o.ticket ≡ n
    → IsFeeder b o.feeder
    → Accepted b (suc n) (os ++ (o ∷ []))
accepted_append b n os o a e h =
    record {
      new = a.new ++ (o ∷ []);
      is = ap (λ (l : List Order). l ++ (o ∷ [])) a.is ∙ append_assoc (orders_of b) a.new (o ∷ []);
      numbered = numbered_append b.next a.new o a.numbered (e ∙ a.next);
      next = rw (length-append a.new (o ∷ [])) (omega (arith, a.next));
      named = each_append (λ o. IsFeeder b o.feeder) os (o ∷ []) a.named (h, tt);
      given =
          each_append (λ o. o.ticket < suc n) os (o ∷ []) (each_in (λ p j. omega arith) os a.given) (omega arith, tt);
      distinct =
          in_order_append (λ o p. o.ticket ≡ p.ticket → ⊥) os (o ∷ []) a.distinct (tt, tt)
          (each_in (λ p j. ((λ q. omega arith), tt)) os a.given);
    }

-- What follows of the history

module _
    (b : State) (k n : ℕ) (os : List Order) (ws : List ℕ) (hs : List Booked) (rs : List Report)
    (inv : Invariant b k n os ws hs rs)
  where
    -- what each order has, each charge of the history has
    pub of_orders : (P : Order → Type 0) → Each P os → Each (λ x. P (order_in x)) hs
    of_orders P e =
        image_each P order_in hs
        (subst (λ (l : List Order). Each P l) (sym inv.orders) (keep_each P (λ o. not (is_withdrawn ws o)) os e))

    -- no ticket stands twice
    pub history_distinct : Distinct (charges_in hs)
    history_distinct =
        order_image (λ c d. c.ticket ≡ d.ticket → ⊥) (λ (x : Booked). x.charge) hs
        (image_order (λ o p. o.ticket ≡ p.ticket → ⊥) order_in hs
        (subst (λ (l : List Order). InOrder (λ o p. o.ticket ≡ p.ticket → ⊥) l) (sym inv.orders)
        (in_order_keep (λ o p. o.ticket ≡ p.ticket → ⊥) (λ o. not (is_withdrawn ws o)) os inv.accepted.distinct)))

    -- a feeder's charges as the site has them
    pub held_charges : (f : ℕ) → IsFeeder b f → charges_on (station_of b k n hs) f ≡ unfinished_charges k (booked_on f hs)
    held_charges f h = ap (λ (x : Feeder). x.charges) (station_feeder b k n hs f h)

    -- what a feeder sees is over by the ceiling
    pub seen_in_time :
        (f : ℕ)
        → IsFeeder b f
        → let y = limits_of (station_of b k n hs) f in
        last_until (seen y (charges_on (station_of b k n hs) f)) ≤ ceiling_of b os
    seen_in_time f h =
        omega (
          arith,
          last_site (station_of b k n hs) f (station_is b k n hs f h),
          number_rearranged (λ cs. last_until (loads_of cs)) until_joins (station_site_lem b k n hs inv.fit),
          until_each (ceiling_of b os) (unfinished_charges k (charges_in hs))
              (keep_each (λ x. active_until x ≤ ceiling_of b os) (λ x. not (is_finished k x)) (charges_in hs) inv.in_time),
        )
