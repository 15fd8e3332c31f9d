-- Where a list of calls begins: what is known of a valid site to which no call has been made.
use mathlib.Core.Path.{◌≡◌, refl, sym, ap, subst, ◌∙◌}
use Prim.Native.Nat.{ℕ, suc, ◌-◌, ◌≤◌, ◌<◌}
use mathlib.Core.Bool.{not}
use mathlib.Core.List.{List, [], ◌∷◌, append-nil}
use native.Mathlib.Omega.{arith}
use lib.ListN.{length, get_or}
use borrow.Author.Tests.{lt-leb}
use Rattle.rules.specs.Basics.{Each, tabulate}
use Rattle.rules.specs.Load.{last_until}
use Rattle.rules.specs.Charge.{Charge, active_until, loads_of, is_finished, unfinished_charges, begun_charges}
use Rattle.rules.specs.Site.{State, no_feeder, feeder_of, charges_on, site_charges, with_charges}
use Rattle.rules.specs.Valid.{ValidCharge, IsFeeder, ValidState}
use Rattle.rules.proofs.Lists.{keep_all, tabulate_same}
use Rattle.rules.proofs.Sorting.{InOrder}
use Rattle.rules.proofs.Ends.{each_until}
use Rattle.rules.proofs.Holding.{own_in}
use Rattle.rules.proofs.Distinct.{site_distinct}
use Rattle.guarantee.specs.Past.{Order, orders_of, beginning, last_minute}
use Rattle.guarantee.proofs.Each.{each_in, each_image, image_order, order_image}
use Rattle.guarantee.proofs.History.{Booked, booked, order_in, charges_in, booked_on, Fit}
use Rattle.guarantee.proofs.Held.{holds, station_of}
use Rattle.guarantee.proofs.Bookings.{booked_in, booked_orders, booked_charges, booked_on_lem, booked_each}
use Rattle.guarantee.proofs.Reports.{sum_begun_lem, sum_reports_lem}
use Rattle.guarantee.proofs.Staying.{all_stay}
use Rattle.guarantee.proofs.Invariant.{OwnOf}
use Rattle.guarantee.proofs.Steps.{Known}

-- a list by its places
tabulate_places : {A : Type 0} (xs : List A) (d : A) (a : ℕ) → tabulate (λ f. get_or xs (f - a) d) (length xs) a ≡ xs
tabulate_places [] d a = refl
tabulate_places (x ∷ xs) d a =
    let z : a - a ≡ 0 = omega arith in
    rw (
      z,
      tabulate_same (λ f. get_or (x ∷ xs) (f - a) d) (λ f. get_or xs (f - suc a) d) (length xs) (suc a)
          (λ f p q. let e : f - a ≡ suc (f - suc a) = omega arith in rw e),
      tabulate_places xs d (suc a),
    )

last_ordered : (m k : ℕ) (os : List Order) → m ≤ k → Each (λ o. o.minute ≤ k) os → last_minute m os ≤ k
last_ordered m k [] h e = h
last_ordered m k (o ∷ os) h e = last_ordered o.minute k os e.0 e.1

module _ (s : State) (v : ValidState s) where
  valid_each :
      (P : Booked → Type 0)
      → ((f : ℕ) → IsFeeder s f → (c : Charge) → ValidCharge (feeder_of s f) s.site s.clock s.next c → P (booked f c))
      → Each P (booked_in s)
  valid_each P h = booked_each s P (λ f i. each_in (h f i) (charges_on s f) (v.plan f i).each)

  orders_each : (P : Order → Type 0) → Each (λ b. P (order_in b)) (booked_in s) → Each P (orders_of s)
  orders_each P e =
      subst (λ (os : List Order). Each P os) (booked_orders 1 s.feeders) (each_image P order_in (booked_in s) e)

  -- it is the site of its own history
  station_same : station_of s s.clock s.next (booked_in s) ≡ s
  station_same =
      λ i. record { feeders = feeders i; site = s.site; clock = s.clock; next = s.next }
    where
      held : (f : ℕ) → IsFeeder s f → unfinished_charges s.clock (booked_on f (booked_in s)) ≡ charges_on s f
      held f h =
          ap (λ (cs : List Charge). unfinished_charges s.clock cs) (booked_on_lem s f h)
          ∙ keep_all (λ c. not (is_finished s.clock c)) (charges_on s f)
          (each_in {P = ValidCharge (feeder_of s f) s.site s.clock s.next}
          (λ c w. rw (lt-leb (active_until c) s.clock w.unfinished))
          (charges_on s f)
          (v.plan f h).each)

      feeders : tabulate (holds (feeder_of s) s.clock (booked_in s)) (length s.feeders) 1 ≡ s.feeders
      feeders =
          tabulate_same (holds (feeder_of s) s.clock (booked_in s)) (feeder_of s) (length s.feeders) 1
          (λ f p q. ap (λ (cs : List Charge). with_charges (feeder_of s f) cs) (held f (record { low = p; high = omega arith })))
          ∙ tabulate_places s.feeders no_feeder 1

  -- its history is what it holds
  pub station_known : Known s (beginning s) (booked_in s)
  station_known =
      record {
        tails = refl;
        next = s.next;
        station = sym station_same;
        invariant =
            record {
              accepted =
                  record {
                    new = [];
                    is = sym (append-nil (orders_of s));
                    numbered = tt;
                    next = omega arith;
                    named = orders_each (λ o. IsFeeder s o.feeder) (valid_each (λ b. IsFeeder s b.feeder) (λ f i c w. i));
                    given =
                        orders_each (λ o. o.ticket < s.next)
                        (valid_each (λ b. b.charge.ticket < s.next) (λ f i c w. w.ticket_given));
                    distinct =
                        subst (λ (os : List Order). InOrder (λ o p. o.ticket ≡ p.ticket → ⊥) os) (booked_orders 1 s.feeders)
                        (order_image (λ o p. o.ticket ≡ p.ticket → ⊥) order_in (booked_in s)
                        (image_order (λ c d. c.ticket ≡ d.ticket → ⊥) (λ (b : Booked). b.charge) (booked_in s)
                        (rw (booked_charges 1 s.feeders) (site_distinct s v))));
                  };
              last =
                  last_ordered 0 s.clock (orders_of s) (omega arith)
                  (orders_each (λ o. o.minute ≤ s.clock)
                  (valid_each (λ b. b.charge.order_minute ≤ s.clock) (λ f i c w. w.ordered)));
              orders = booked_orders 1 s.feeders ∙ sym (all_stay (orders_of s));
              off = tt;
              fit =
                  valid_each (Fit s s.clock)
                  (λ f i c w.
                  record {
                    is_feeder_lem = i;
                    line = w.line;
                    lasts = w.time_low;
                    active = w.active;
                    known = w.ordered;
                    not_early = w.not_early;
                  });
              in_time =
                  rw (booked_charges 1 s.feeders)
                  (each_in (λ c h. omega arith) (site_charges s)
                  (each_until (last_until (loads_of (site_charges s))) (site_charges s) (omega arith)));
              always =
                  λ f t i from.
                  subst (λ (cs : List Charge). OwnOf s f cs (charges_in (booked_in s)) t) (sym (booked_on_lem s f i))
                  (subst (λ (all : List Charge). OwnOf s f (charges_on s f) all t) (sym (booked_charges 1 s.feeders))
                  (own_in s v f i t from));
              reports =
                  λ w.
                  rw (
                    sum_reports_lem w (begun_charges s.clock (site_charges s)),
                    booked_charges 1 s.feeders,
                    sum_begun_lem w s.clock (site_charges s),
                  );
            };
      }
