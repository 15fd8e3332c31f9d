-- Demand 3.
use mathlib.Core.Path.{◌≡◌, refl, ap, subst, ◌∙◌}
use Prim.Native.Nat.{ℕ, zero, suc, ◌≤◌}
use mathlib.Core.List.{List, [], ◌∷◌, map}
use native.Mathlib.Omega.{arith}
use Rattle.rules.specs.Basics.{Each, first_of}
use Rattle.rules.specs.Load.{Load, count}
use Rattle.rules.specs.Charge.{loads_of}
use Rattle.rules.specs.Site.{State, charges_on, site_charges}
use Rattle.rules.specs.Calls.{Settings, Asked, settings_read, fresh_feeder, opened, answering, fresh, least, open_refusals, opening, Call, step}
use Rattle.rules.specs.Valid.{IsFeeder, ValidState}
use Rattle.rules.proofs.Validity.{fresh_joined, opening_valid}
use Rattle.guarantee.specs.Past.{order_of, orders_from, orders_of, beginning, past, staying_orders, start_of, count_in, Numbered}
use Rattle.guarantee.specs.DemandThree.{NoneMoved, DemandThree, DemandThreeFrom}
use Rattle.guarantee.proofs.Each.{each_in}
use Rattle.guarantee.proofs.Unmoved.{reported_unmoved}
use Rattle.guarantee.proofs.History.{charges_in, booked_on, on_each_lem}
use Rattle.guarantee.proofs.Bookings.{booked_in, booked_on_lem}
use Rattle.guarantee.proofs.Beginnings.{station_known}
use Rattle.guarantee.proofs.Assured.{orders_kept, orders_in_time, loads_history, loads_on_lem, only_ours, only_ours_found, withdrawn_gone}
use Rattle.guarantee.proofs.Invariant.{Accepted, OwnOf}
use Rattle.guarantee.proofs.Steps.{Reach, reach}
use Rattle.guarantee.proofs.Saying.{said}

-- From any valid site

-- what is known after calls to a valid site
module _ (s : State) (calls : List Call) (v : ValidState s) where
  after_part : (part : List Call) → Reach s (past step s part)
  after_part part = reach s part (beginning s) (booked_in s) (station_known s v)

  pub reached : Reach s (past step s calls)
  reached = after_part calls

  unmoved_part : NoneMoved step s calls
  unmoved_part =
      reported_unmoved step s calls
      (λ part rest e.
      each_in (λ o k. k.reported) (staying_orders (past step s part))
      (orders_kept s (past step s part) (after_part part).now (after_part part).known))

  -- limit, balance and W in each minute, in the words of the demand
  same_count : (f l t : ℕ) → count_in step (past step s calls) f l t ≡ count (loads_of (booked_on f reached.now)) l t
  same_count f l t = ap (λ (xs : List Load). count xs l t) (loads_on_lem s (past step s calls) reached.now reached.known f)

  always : (f t : ℕ) → IsFeeder s f → s.clock ≤ t → OwnOf s f (booked_on f reached.now) (charges_in reached.now) t
  always f t h from = reached.known.invariant.always f t h from

  -- for every valid site and every list of calls
  pub demand_three_from : DemandThreeFrom step s calls
  demand_three_from =
      record {
        limit = λ f l t h j from. rw (same_count f l t) ((always f t h (omega (arith, from))).limit l j);
        balance =
            λ f l m t h j i from.
            rw (same_count f l t, same_count f m t) ((always f t h (omega (arith, from))).balance l m j i);
        site =
            λ t from.
            rw (loads_history s (past step s calls) reached.now reached.known)
            (always 1 t (record { low = omega arith; high = v.feeders_low }) (omega (arith, from))).site;
        feeders = reached.known.invariant.accepted.named;
        tickets =
            let a : Accepted s reached.known.next (past step s calls).orders = reached.known.invariant.accepted in
            (a.new, a.is, a.numbered);
        orders = orders_kept s (past step s calls) reached.now reached.known;
        gone = withdrawn_gone s (past step s calls) reached.now reached.known;
        no_other = only_ours s (past step s calls) reached.now reached.known;
        no_other_found = only_ours_found s (past step s calls) reached.now reached.known;
        unmoved = unmoved_part;
      }

-- what it holds has at the beginning the starts that it has them with
pub beginning_starts :
    (s : State)
    → ValidState s
    → (f : ℕ)
    → IsFeeder s f
    → Each (λ c. start_of step (beginning s) (order_of f c) ≡ c.start) (charges_on s f)
beginning_starts s v f h =
    rw (← (booked_on_lem s f h))
    (on_each_lem (λ c. start_of step (beginning s) (order_of f c) ≡ c.start) (λ x e. e.start) f (booked_in s)
    (said s (beginning s) (booked_in s) (station_known s v)))

-- From an opening

-- a site that holds nothing, at clock 0 and with next ticket 1
record Unused (s : State) : Type 0 where
  clock : s.clock ≡ 0
  next : s.next ≡ 1
  charges : site_charges s ≡ []
  orders : orders_of s ≡ []

fresh_orders : (i : ℕ) (xs : List Settings) → orders_from i (map fresh_feeder xs) ≡ []
fresh_orders i [] = refl
fresh_orders i (x ∷ xs) = fresh_orders (suc i) xs

fresh_unused : (a : Asked) → Unused (fresh a)
fresh_unused a =
    record {
      clock = refl;
      next = refl;
      charges = fresh_joined (settings_read a);
      orders = fresh_orders 1 (settings_read a);
    }

opening_unused : (a : Asked) → Unused (opening a).state
unfolding opening
opening_unused a = go (first_of (open_refusals a))
  where
    go :
        (i : ℕ)
        → Unused
        (answering i (fresh least) [] (record { answer = opened (map (λ g. g.bound) (fresh a).feeders); state = fresh a; list = [] })).state
    go zero = fresh_unused a
    go (suc i) = fresh_unused least

unused_three : (s : State) (calls : List Call) → ValidState s → Unused s → DemandThree step s calls
unused_three s calls v u =
    let d : DemandThreeFrom step s calls = demand_three_from s calls v in
    record {
      limit = λ f l t h j. d.limit f l t h j (omega (arith, u.clock));
      balance = λ f l m t h j i. d.balance f l m t h j i (omega (arith, u.clock));
      site = λ t. omega (arith, d.site t (omega (arith, u.clock)));
      feeders = d.feeders;
      tickets =
          let same : (past step s calls).orders ≡ d.tickets.0 = d.tickets.1 ∙ rw u.orders in
          rw same (subst (λ (i : ℕ). Numbered i d.tickets.0) u.next d.tickets.2);
      orders = d.orders;
      gone = d.gone;
      in_time =
          orders_in_time s (past step s calls) (reached s calls v).now (reached s calls v).known (rw u.charges);
      no_other = d.no_other;
      no_other_found = d.no_other_found;
      unmoved = d.unmoved;
    }

-- for every opening, refused ones too, and every list of calls
pub demand_three : (a : Asked) (calls : List Call) → DemandThree step (opening a).state calls
demand_three a calls = unused_three (opening a).state calls (opening_valid a) (opening_unused a)
