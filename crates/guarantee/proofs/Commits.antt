-- An order keeps the invariant.
use mathlib.Core.Path.{◌≡◌, refl, sym, ap, ◌∙◌}
use Prim.Native.Nat.{ℕ, suc, ◌+◌, ◌-◌, ◌≤◌, ◌<◌}
use mathlib.Core.Bool.{true, not}
use mathlib.Core.List.{List, [], ◌∷◌, ◌++◌, append-nil}
use native.Mathlib.Omega.{arith}
use borrow.Author.Tests.{le-ltb, lt-leb, eq-eqb, ne_eqb}
use Rattle.rules.specs.Basics.{keep}
use Rattle.rules.specs.Load.{last_until, IsLine, sound}
use Rattle.rules.specs.Charge.{Charge, active_until, draw_of, load_of, loads_of, seen, is_begun, is_finished}
use Rattle.rules.specs.Search.{added}
use Rattle.rules.specs.Site.{State, feeder_of, charges_on, site_charges, limits_of}
use Rattle.rules.specs.Valid.{IsFeeder}
use Rattle.rules.proofs.Lists.{map-append, keep_append, each_append}
use Rattle.rules.proofs.Sites.{last_until_append}
use Rattle.rules.proofs.Changes.{seen_more}
use Rattle.guarantee.specs.Past.{Order, Report, total_time}
use Rattle.guarantee.proofs.Each.{each_in}
use Rattle.guarantee.proofs.History.{Booked, booked, order_in, booked_on, Fit, on_append}
use Rattle.guarantee.proofs.Held.{station_of}
use Rattle.guarantee.proofs.Staying.{staying_new}
use Rattle.guarantee.proofs.Invariant.{tails_of, tail-is, ceiling_of, Invariant, total_time_append, last_minute_append, accepted_append, held_charges, seen_in_time}
use Rattle.guarantee.proofs.Changed.{Change, after_change}

module _
    (b : State) (k n : ℕ) (os : List Order) (ws : List ℕ) (hs : List Booked) (rs : List Report)
    (inv : Invariant b k n os ws hs rs)
  where
    module _
        (f : ℕ) (h : IsFeeder b f) (c : Charge)
        (ticket : c.ticket ≡ n)
        (minute : c.order_minute ≡ k)
        (line : IsLine c.line)
        (lasts : 1 ≤ c.time)
        (active : c.active_time ≡ c.time + (feeder_of b f).tail)
        (low : k ≤ c.start)
      where
        pub order_change : Change b k hs f (charges_on (station_of b k n hs) f ++ (c ∷ [])) (hs ++ (booked f c ∷ []))
        order_change =
            record {
              own =
                  rw (
                    on_append f hs (booked f c ∷ []),
                    eq-eqb f f refl,
                    keep_append (λ c. not (is_finished k c)) (booked_on f hs) (c ∷ []),
                    lt-leb (active_until c) k (omega arith),
                  )
                  (ap (λ (l : List Charge). l ++ (c ∷ [])) (sym (held_charges b k n os ws hs rs inv f h)));
              rest =
                  λ g d.
                  rw (on_append g hs (booked f c ∷ []), ne_eqb f g (λ e. d (sym e))) (append-nil (booked_on g hs));
              begun =
                  rw (keep_append (λ x. is_begun k x.charge) hs (booked f c ∷ []), le-ltb c.start k low)
                  (append-nil (keep (λ x. is_begun k x.charge) hs));
              fit =
                  each_append (Fit b k) hs (booked f c ∷ []) inv.fit (
                    record {
                      is_feeder_lem = h;
                      line = line;
                      lasts = lasts;
                      active = active;
                      known = omega arith;
                      not_early = omega arith;
                    },
                    tt,
                  );
            }

        order_ceiling :
            ceiling_of b (os ++ (order_in (booked f c) ∷ []))
            ≡ last_until (loads_of (site_charges b)) + (k + (total_time (tails_of b) os + c.active_time))
        order_ceiling =
            rw (
              last_minute_append 0 os (order_in (booked f c)),
              total_time_append (tails_of b) os (order_in (booked f c) ∷ []),
            )
            (omega (arith, minute, active, tail-is b (order_in (booked f c))))

        pub after_order :
            let y = limits_of (station_of b k n hs) f in
            let held = seen y (charges_on (station_of b k n hs) f) in
            c.start < k + suc (last_until held - k)
            → sound y k (added held (draw_of c) c.start) ≡ true
            → Invariant b k (suc n) (os ++ (order_in (booked f c) ∷ [])) ws (hs ++ (booked f c ∷ [])) rs
        after_order high ok =
            let y = limits_of (station_of b k n hs) f in
            let cs : List Charge = charges_on (station_of b k n hs) f in
            after_change b k n os ws hs rs inv f h (cs ++ (c ∷ [])) (hs ++ (booked f c ∷ [])) order_change
            (rw (seen_more y cs c) ok)
            (suc n)
            (os ++ (order_in (booked f c) ∷ []))
            ws
            (accepted_append b n os (order_in (booked f c)) inv.accepted ticket h)
            (rw (last_minute_append 0 os (order_in (booked f c))) (omega arith))
            (map-append order_in hs (booked f c ∷ [])
            ∙ ap (λ (l : List Order). l ++ (order_in (booked f c) ∷ [])) inv.orders
            ∙ sym (staying_new ws os (order_in (booked f c)) (each_in (λ t j. omega arith) ws inv.off)))
            (each_in (λ t j. omega arith) ws inv.off)
            (omega (arith, order_ceiling, inv.last))
            (rw (seen_more y cs c, last_until_append (seen y cs) (load_of c ∷ []), order_ceiling)
            (omega (arith, seen_in_time b k n os ws hs rs inv f h, inv.last)))
