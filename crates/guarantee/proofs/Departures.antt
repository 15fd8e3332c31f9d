-- A withdrawal keeps the invariant.
use mathlib.Core.Path.{◌≡◌, sym, ap, ◌∙◌}
use Prim.Native.Nat.{ℕ, ◌<◌}
use mathlib.Core.Bool.{Bool, true, not, ◌&&◌}
use mathlib.Core.List.{List, [], ◌∷◌, ◌++◌}
use native.Mathlib.Omega.{arith}
use borrow.Author.Tests.{eqb-true}
use Rattle.rules.specs.Basics.{keep, some}
use Rattle.rules.specs.Charge.{Charge, loads_of, is_waiting, is_finished, has_ticket, without_ticket}
use Rattle.rules.specs.Site.{State, charges_on, site_charges, limits_of}
use Rattle.rules.specs.Calls.{feeder_with}
use Rattle.rules.specs.Valid.{IsFeeder}
use Rattle.rules.proofs.Lists.{each_append, keep_each}
use Rattle.rules.proofs.Granted.{WithdrawGranted}
use Rattle.rules.proofs.Ends.{until_kept}
use Rattle.rules.proofs.Withdrawing.{held_waits}
use Rattle.rules.proofs.Sites.{last_until_append, feeder_with_lem}
use Rattle.guarantee.specs.Past.{Order, Report}
use Rattle.guarantee.proofs.Each.{some_image}
use Rattle.guarantee.proofs.History.{Booked, charges_in, is_on, booked_on, Fit, charges_each}
use Rattle.guarantee.proofs.Held.{station_of, is_station}
use Rattle.guarantee.proofs.Holdings.{station_site_lem}
use Rattle.guarantee.proofs.Arrangements.{some_rearranged}
use Rattle.guarantee.proofs.Withdrawals.{without_in, Only, found_only, left_others, left_begun, left_own}
use Rattle.guarantee.proofs.Staying.{found, some_both, some_kept, left_staying}
use Rattle.guarantee.proofs.Invariant.{Invariant, of_orders, history_distinct, held_charges, seen_in_time}
use Rattle.guarantee.proofs.Changed.{Change, after_change}

module _
    (b : State) (k n : ℕ) (os : List Order) (ws : List ℕ) (hs : List Booked) (rs : List Report)
    (inv : Invariant b k n os ws hs rs)
  where
    module _ (t : ℕ) (g : WithdrawGranted (station_of b k n hs) t) where
      abbrev own : ℕ
      own = feeder_with t 1 (station_of b k n hs).feeders

      pub left_feeder : IsFeeder b own
      left_feeder = is_station b k n hs own (feeder_with_lem (station_of b k n hs) t g.held).0

      -- found on the site, found in the history
      in_history : (p : Charge → Bool) → some p (site_charges (station_of b k n hs)) ≡ true → some p (charges_in hs) ≡ true
      in_history p e =
          some_kept p (λ c. not (is_finished k c)) (charges_in hs)
          (sym (some_rearranged p (station_site_lem b k n hs inv.fit)) ∙ e)

      -- its charge waits, and is of this feeder
      waits : Only t (λ x. is_waiting k x.charge) hs
      waits =
          found_only t (λ x. is_waiting k x.charge) hs (history_distinct b k n os ws hs rs inv)
          (sym (some_image (λ (x : Booked). x.charge) (λ c. has_ticket t c && is_waiting k c) hs)
          ∙ in_history (λ c. has_ticket t c && is_waiting k c)
          (held_waits k t (site_charges (station_of b k n hs)) g.held g.not_begun))

      here : Only t (is_on own) hs
      here =
          found_only t (is_on own) hs (history_distinct b k n os ws hs rs inv)
          (sym (some_both (λ x. has_ticket t x.charge) (is_on own) hs)
          ∙ sym (some_image (λ (x : Booked). x.charge) (has_ticket t) (keep (is_on own) hs))
          ∙ some_kept (has_ticket t) (λ c. not (is_finished k c)) (booked_on own hs)
          (rw (← (held_charges b k n os ws hs rs inv own left_feeder)) (feeder_with_lem (station_of b k n hs) t g.held).1))

      pub left_change : Change b k hs own (without_ticket t (charges_on (station_of b k n hs) own)) (without_in t hs)
      left_change =
          record {
            own =
                left_own t k own hs
                ∙ ap (λ (l : List Charge). without_ticket t l) (sym (held_charges b k n os ws hs rs inv own left_feeder));
            rest = λ i d. left_others t own i hs here d;
            begun = left_begun t k hs waits;
            fit = keep_each (Fit b k) (λ x. not (has_ticket t x.charge)) hs inv.fit;
          }

      ticket_given : t < n
      ticket_given =
          let c =
          found (λ x. x.ticket < n) (has_ticket t) (charges_in hs) (in_history (has_ticket t) g.held)
          (charges_each (λ x. x.ticket < n) (λ x i. i) hs
          (of_orders b k n os ws hs rs inv (λ o. o.ticket < n) inv.accepted.given)) in
          let same : c.0.ticket ≡ t = eqb-true c.0.ticket t c.1.1 in
          omega (arith, c.1.0)

      pub after_withdrawal : Invariant b k n os (ws ++ (t ∷ [])) (without_in t hs) rs
      after_withdrawal =
          let y = limits_of (station_of b k n hs) own in
          let cs : List Charge = charges_on (station_of b k n hs) own in
          after_change b k n os ws hs rs inv own left_feeder (without_ticket t cs) (without_in t hs) left_change
          g.rest_sound_lem
          n os
          (ws ++ (t ∷ []))
          inv.accepted
          inv.last
          (left_staying t ws os hs inv.orders)
          (each_append (λ u. u < n) ws (t ∷ []) inv.off (ticket_given, tt))
          (omega arith)
          (omega (
            arith,
            last_until_append y.others (loads_of (without_ticket t cs)),
            last_until_append y.others (loads_of cs),
            until_kept (λ c. not (has_ticket t c)) cs,
            seen_in_time b k n os ws hs rs inv own left_feeder,
          ))
