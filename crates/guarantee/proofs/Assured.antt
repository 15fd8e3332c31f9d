-- What calls and answers say of each order, in the words of demand 3.
use mathlib.Core.Path.{◌≡◌, refl, sym, ap, subst, ◌∙◌}
use Prim.Native.Nat.{ℕ, ◌≤◌}
use mathlib.Core.Bool.{true, false, not, true≢false}
use mathlib.Core.List.{List, [], ◌∷◌, map}
use native.Mathlib.Omega.{arith}
use lib.Dec.{eqb}
use lib.ListN.{length}
use borrow.Author.Tests.{lt-ltb, le-ltb}
use Rattle.rules.specs.Basics.{Each, keep, some}
use Rattle.rules.specs.Load.{IsLine, last_until}
use Rattle.rules.specs.Charge.{Charge, active_until, is_finished, loads_of, has_ticket}
use Rattle.rules.specs.Site.{State, feeder_of, site_charges}
use Rattle.rules.specs.Calls.{step}
use Rattle.rules.proofs.Ranges.{fails}
use Rattle.rules.proofs.Lists.{each_both, kept_pass, keep_each}
use Rattle.guarantee.specs.Past.{Order, Past, is_withdrawn, staying_orders, withdrawn_orders, on_feeder, tail_of, load_of}
use Rattle.guarantee.specs.DemandThree.{Kept, Gone, InTime, NoOther, NoOtherFound}
use Rattle.guarantee.proofs.Each.{each_two, each_in, image_each, each_image, keep_image, some_image}
use Rattle.guarantee.proofs.History.{Booked, order_in, orders_in, charges_in, is_on, booked_on, Fit}
use Rattle.guarantee.proofs.Tickets.{is_ticket, times_sum, sum_ours}
use Rattle.guarantee.proofs.Enquiries.{told_not_held}
use Rattle.guarantee.proofs.Reports.{sum_reports, sum_begun}
use Rattle.guarantee.proofs.Invariant.{tail-is, ceiling_of}
use Rattle.guarantee.proofs.Staying.{some_kept, stays_not_withdrawn, withdrawn_none, none_begun, none_told}
use Rattle.guarantee.proofs.Steps.{Known}
use Rattle.guarantee.proofs.Saying.{Said, held, enquiry_held, said}

module _ (s : State) (h : Past) (hs : List Booked) (known : Known s h hs) where
  -- r of an order
  tail_known : (o : Order) → tail_of h.tails o ≡ (feeder_of s o.feeder).tail
  tail_known o = ap (λ (l : List ℕ). tail_of l o) known.tails ∙ tail-is s o

  keeps : (x : Booked) → Said h (held s h hs known) x.charge → Fit s h.clock x → Kept step h (order_in x)
  keeps x e f =
      let c : Charge = x.charge in
      record {
        not_early = rw e.start f.not_early;
        reported = rw e.start (λ j. e.times ∙ rw (lt-ltb c.start h.clock j));
        not_reported = rw e.start (λ j. e.times ∙ rw (le-ltb c.start h.clock j));
        waits = rw e.start (λ j. enquiry_held s h hs known c.ticket ∙ e.answers.waits j);
        charges =
            rw (e.start, tail_known (order_in x))
            (λ j i. enquiry_held s h hs known c.ticket ∙ e.answers.charges j (omega (arith, f.active)));
        finished =
            rw (e.start, tail_known (order_in x))
            (λ j. enquiry_held s h hs known c.ticket ∙ e.answers.finished (omega (arith, f.active)));
      }

  -- what is told of each order from its charge of the history
  each_order :
      (P : Booked → Type 0) (Q : Order → Type 0)
      → ((x : Booked) → Said h (held s h hs known) x.charge → P x → Q (order_in x))
      → Each P hs
      → Each Q (staying_orders h)
  each_order P Q f e =
      subst (λ (os : List Order). Each Q os) known.invariant.orders
      (each_image Q order_in hs
      (each_two (λ x. Said h (held s h hs known) x.charge) P (λ x. Q (order_in x)) f hs (said s h hs known) e))

  pub orders_kept : Each (Kept step h) (staying_orders h)
  orders_kept = each_order (Fit s h.clock) (Kept step h) keeps known.invariant.fit

  -- each is on a line of a feeder
  pub orders_placed :
      Each (λ o. ((1 ≤ o.feeder) × (o.feeder ≤ length s.feeders)) × IsLine o.line) (staying_orders h)
  orders_placed =
      each_order (Fit s h.clock) (λ o. ((1 ≤ o.feeder) × (o.feeder ≤ length s.feeders)) × IsLine o.line)
      (λ x e f. ((f.is_feeder_lem.low, f.is_feeder_lem.high), f.line))
      known.invariant.fit

  -- where nothing was held at the beginning
  pub orders_in_time : last_until (loads_of (site_charges s)) ≡ 0 → Each (InTime step h) (staying_orders h)
  orders_in_time none =
      each_order
      (λ x. Fit s h.clock x × (active_until x.charge ≤ ceiling_of s h.orders))
      (InTime step h)
      (λ x e p. rw (e.start, known.tails) (omega (arith, none, p.0.active, p.1)))
      (each_both (Fit s h.clock) (λ x. active_until x.charge ≤ ceiling_of s h.orders) hs
      known.invariant.fit
      (image_each (λ c. active_until c ≤ ceiling_of s h.orders) (λ (x : Booked). x.charge) hs known.invariant.in_time))

  -- what the orders draw is what their charges draw
  loads_said :
      (bs : List Booked)
      → Each (Fit s h.clock) bs
      → Each (λ x. Said h (held s h hs known) x.charge) bs
      → map (load_of step h) (orders_in bs) ≡ loads_of (charges_in bs)
  loads_said [] f e = refl
  loads_said (x ∷ bs) f e =
      rw (loads_said bs f.1 e.1, e.0.start, tail_known (order_in x), ← f.0.active)

  pub loads_history : map (load_of step h) (staying_orders h) ≡ loads_of (charges_in hs)
  loads_history =
      subst (λ (os : List Order). map (load_of step h) os ≡ loads_of (charges_in hs)) known.invariant.orders
      (loads_said hs known.invariant.fit (said s h hs known))

  pub loads_on_lem : (f : ℕ) → map (load_of step h) (on_feeder f (staying_orders h)) ≡ loads_of (booked_on f hs)
  loads_on_lem f =
      subst (λ (os : List Order). map (load_of step h) (on_feeder f os) ≡ loads_of (booked_on f hs)) known.invariant.orders
      (ap (λ (os : List Order). map (load_of step h) os) (keep_image order_in (λ o. eqb o.feeder f) hs)
      ∙ loads_said (keep (is_on f) hs)
      (keep_each (Fit s h.clock) (is_on f) hs known.invariant.fit)
      (keep_each (λ x. Said h (held s h hs known) x.charge) (is_on f) hs (said s h hs known)))

  -- a charge of the history is of an accepted order
  history_ours :
      (t : ℕ) → some (has_ticket t) (charges_in hs) ≡ true → some (λ (o : Order). eqb o.ticket t) h.orders ≡ true
  history_ours t e =
      some_kept (λ (o : Order). eqb o.ticket t) (λ o. not (is_withdrawn h.withdrawn o)) h.orders
      (subst (λ (os : List Order). some (λ (o : Order). eqb o.ticket t) os ≡ true) known.invariant.orders
      (some_image order_in (λ (o : Order). eqb o.ticket t) hs
      ∙ sym (some_image (λ (x : Booked). x.charge) (has_ticket t) hs)
      ∙ e))

  pub only_ours : NoOther h
  only_ours t j =
      let q : sum_reports (is_ticket t) h.reports ≡ sum_begun (is_ticket t) h.clock (charges_in hs)
      = known.invariant.reports (is_ticket t) in
      history_ours t (sum_ours t h.clock (charges_in hs) (omega (arith, times_sum h.reports t)))

  pub only_ours_found : NoOtherFound step h
  only_ours_found t e = enquiry_held s h hs known t ∙ told_not_held h.clock t (held s h hs known) none
    where
      none : some (has_ticket t) (held s h hs known) ≡ false
      none =
          fails (some (has_ticket t) (held s h hs known))
          (λ p.
          true≢false
          (sym (history_ours t (some_kept (has_ticket t) (λ c. not (is_finished h.clock c)) (charges_in hs) p)) ∙ e))

  -- no charge of the history has a withdrawn ticket
  pub withdrawn_gone : Each (Gone step h) (withdrawn_orders h)
  withdrawn_gone =
      each_in {P = λ o. is_withdrawn h.withdrawn o ≡ true}
      (λ o w.
      let none = withdrawn_none h.withdrawn o hs not_withdrawn w in
      record {
        not_reported =
            times_sum h.reports o.ticket
            ∙ known.invariant.reports (is_ticket o.ticket)
            ∙ none_begun o.ticket h.clock (charges_in hs) none;
        not_held_lem = enquiry_held s h hs known o.ticket ∙ none_told o.ticket h.clock (charges_in hs) none;
      })
      (withdrawn_orders h)
      (kept_pass (is_withdrawn h.withdrawn) h.orders)
    where
      not_withdrawn : Each (λ x. is_withdrawn h.withdrawn (order_in x) ≡ false) hs
      not_withdrawn =
          image_each (λ o. is_withdrawn h.withdrawn o ≡ false) order_in hs
          (subst (λ (os : List Order). Each (λ o. is_withdrawn h.withdrawn o ≡ false) os) (sym known.invariant.orders)
          (stays_not_withdrawn h.withdrawn h.orders))
