-- A plan that is taken keeps the invariant.
use mathlib.Core.Path.{sym, ap, ◌∙◌}
use Prim.Native.Nat.{ℕ}
use mathlib.Core.List.{List}
use native.Mathlib.Omega.{arith}
use Rattle.rules.specs.Charge.{Charge, seen, unfinished_charges}
use Rattle.rules.specs.Judgement.{restarted}
use Rattle.rules.specs.Site.{State, charges_on, limits_of}
use Rattle.rules.specs.Valid.{IsFeeder}
use Rattle.rules.proofs.Counts.{sound_true}
use Rattle.rules.proofs.Judgements.{Meets}
use Rattle.guarantee.specs.Past.{Order, Report}
use Rattle.guarantee.proofs.History.{Booked, booked_on, Fit, Lasts, on_each_lem, fit_lasts}
use Rattle.guarantee.proofs.Held.{station_of}
use Rattle.guarantee.proofs.Rebooked.{restarted_unfinished, rebooked, rebooked_orders, rebooked_each, rebooked_begun, rebooked_own, rebooked_others}
use Rattle.guarantee.proofs.Invariant.{Invariant, held_charges, seen_in_time}
use Rattle.guarantee.proofs.Changed.{Change, after_change}

module _
    (b : State) (k n : ℕ) (os : List Order) (ws : List ℕ) (hs : List Booked) (rs : List Report)
    (inv : Invariant b k n os ws hs rs)
  where
    module _
        (f : ℕ) (h : IsFeeder b f) (ss : List ℕ)
        (ok :
        let held = charges_on (station_of b k n hs) f in
        Meets (limits_of (station_of b k n hs) f) k held ss (restarted k held ss))
      where
        pub plan_change : Change b k hs f (restarted k (charges_on (station_of b k n hs) f) ss) (rebooked f k hs ss)
        plan_change =
            record {
              own =
                  ap (λ (l : List Charge). unfinished_charges k l) (rebooked_own f k hs ss)
                  ∙ sym (restarted_unfinished k (booked_on f hs) ss (on_each_lem Lasts (fit_lasts b k) f hs inv.fit) ok.none_early)
                  ∙ ap (λ (l : List Charge). restarted k l ss) (sym (held_charges b k n os ws hs rs inv f h));
              rest = λ g d. rebooked_others f k g d hs ss;
              begun = rebooked_begun f k hs ss ok.none_early;
              fit =
                  rebooked_each f k (Fit b k)
                  (λ x s j i.
                  record {
                    is_feeder_lem = i.is_feeder_lem;
                    line = i.line;
                    lasts = i.lasts;
                    active = i.active;
                    known = i.known;
                    not_early = omega (arith, i.known);
                  })
                  hs ss ok.none_early inv.fit;
            }

        pub after_plan : Invariant b k n os ws (rebooked f k hs ss) rs
        after_plan =
            let y = limits_of (station_of b k n hs) f in
            let new : List Charge = restarted k (charges_on (station_of b k n hs) f) ss in
            after_change b k n os ws hs rs inv f h new (rebooked f k hs ss) plan_change
            (sound_true y k (seen y new) (λ t j. record { limit = ok.limit t j; site = ok.site t j; balance = ok.balance t j }))
            n os ws
            inv.accepted
            inv.last
            (rebooked_orders f k hs ss ∙ inv.orders)
            inv.off
            (omega arith)
            (omega (arith, ok.not_later, seen_in_time b k n os ws hs rs inv f h))
