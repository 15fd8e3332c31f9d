-- One feeder of the history gets other charges that have not begun: the invariant holds again.
use mathlib.Core.Logic.{◌⊎◌, inl, inr}
use mathlib.Core.Path.{◌≡◌, refl, sym, ap, subst, ◌∙◌}
use Prim.Native.Nat.{ℕ, ◌≤◌, ◌<◌}
use mathlib.Core.Bool.{Bool, true, false, not}
use mathlib.Core.List.{List, ◌++◌}
use native.Mathlib.Omega.{arith}
use lib.Dec.{eqb}
use borrow.Author.Tests.{eqb-true, eqb-false}
use Rattle.rules.specs.Basics.{Each}
use Rattle.rules.specs.Load.{count, drawn, last_until, IsLine, sound}
use Rattle.rules.specs.Charge.{Charge, active_until, loads_of, seen, is_begun, is_finished, unfinished_charges}
use Rattle.rules.specs.Site.{Feeder, State, site_charges, others_of, limits_of, holding}
use Rattle.rules.specs.Valid.{IsFeeder}
use Rattle.rules.proofs.Ranges.{below_or_not}
use Rattle.rules.proofs.Lists.{keep_each}
use Rattle.rules.proofs.Counts.{sound_from_lem}
use Rattle.rules.proofs.Ends.{count_unfinished}
use Rattle.rules.proofs.Sites.{Own, seen_own, drawn_unfinished, Joins, drawn_joins, until_joins, last_seen, put_site}
use Rattle.guarantee.specs.Past.{Order, Report, staying, last_minute}
use Rattle.guarantee.proofs.Each.{each_in}
use Rattle.guarantee.proofs.History.{Booked, orders_in, charges_in, booked_on, begun_in, Fit, Lasts, charges_each, on_each_lem, fit_lasts}
use Rattle.guarantee.proofs.Begun.{begun_charges_lem, begun_on, gone_count, gone_drawn, ends_bound}
use Rattle.guarantee.proofs.Held.{station_of, station_is, station_feeder, station_put}
use Rattle.guarantee.proofs.Holdings.{station_site_lem}
use Rattle.guarantee.proofs.Arrangements.{number_rearranged}
use Rattle.guarantee.proofs.Reports.{sum_charges, sum_begun_lem}
use Rattle.guarantee.proofs.Invariant.{Accepted, ceiling_of, OwnOf, Invariant}

-- cs are the charges of feeder f then, ds is the history then
pub record Change (b : State) (k : ℕ) (hs : List Booked) (f : ℕ) (cs : List Charge) (ds : List Booked) : Type 0 where
  pub own : unfinished_charges k (booked_on f ds) ≡ cs
  pub rest : (g : ℕ) → (g ≡ f → ⊥) → booked_on g ds ≡ booked_on g hs
  pub begun : begun_in k ds ≡ begun_in k hs
  pub fit : Each (Fit b k) ds

module _
    (b : State) (k n : ℕ) (os : List Order) (ws : List ℕ) (hs : List Booked) (rs : List Report)
    (inv : Invariant b k n os ws hs rs)
    (f : ℕ) (h : IsFeeder b f) (cs : List Charge) (ds : List Booked) (c : Change b k hs f cs ds)
  where
    pub change_station : (m : ℕ) → holding (station_of b k n hs) f cs m ≡ station_of b k m ds
    change_station m = station_put b k n hs f h m ds cs c.own c.rest

    -- all that stands on the site then
    then_site :
        (g : List Charge → ℕ)
        → Joins g
        → g (unfinished_charges k (charges_in ds)) ≡ g (others_of (station_of b k n hs) f ++ cs)
    then_site g j =
        sym (number_rearranged g j (station_site_lem b k n ds c.fit))
        ∙ ap (λ (x : State). g (site_charges x)) (sym (change_station n))
        ∙ put_site g j (station_of b k n hs) f (station_is b k n hs f h) n cs

    module _ (good : sound (limits_of (station_of b k n hs) f) k (seen (limits_of (station_of b k n hs) f) cs) ≡ true) where
      lines : Each (λ c. IsLine c.line) cs
      lines =
          subst (λ (x : List Charge). Each (λ c. IsLine c.line) x) c.own
          (keep_each (λ c. IsLine c.line) (λ c. not (is_finished k c)) (booked_on f ds)
          (on_each_lem (λ c. IsLine c.line) (λ x i. i.line) f ds c.fit))

      then_own : (t : ℕ) → k ≤ t → OwnOf b f cs (others_of (station_of b k n hs) f ++ cs) t
      then_own t j =
          subst (λ (x : Feeder). Own x.limit x.bound b.site cs (others_of (station_of b k n hs) f ++ cs) t)
          (station_feeder b k n hs f h)
          (seen_own (limits_of (station_of b k n hs) f) (others_of (station_of b k n hs) f) cs t lines
          (sound_from_lem (limits_of (station_of b k n hs) f) k (seen (limits_of (station_of b k n hs) f) cs) good t j))

      then_drawn : (t : ℕ) → k ≤ t → drawn (loads_of (charges_in ds)) t ≤ b.site
      then_drawn t j =
          rw (← (drawn_unfinished k (charges_in ds) t j), then_site (λ x. drawn (loads_of x) t) (drawn_joins t))
          (then_own t j).site

      -- limit, balance and W in a minute gone, in one to come on this feeder, and on another
      then_always : (g t : ℕ) → IsFeeder b g → b.clock ≤ t → OwnOf b g (booked_on g ds) (charges_in ds) t
      then_always g t i from = go (below_or_not t k) (eqb g f) refl
        where
          own_count : k ≤ t → (l : ℕ) → count (loads_of (booked_on f ds)) l t ≡ count (loads_of cs) l t
          own_count j l =
              sym (count_unfinished k (booked_on f ds) l t j) ∙ ap (λ (x : List Charge). count (loads_of x) l t) c.own

          before : OwnOf b g (booked_on g hs) (charges_in hs) t
          before = inv.always g t i from

          go : (t < k) ⊎ (k ≤ t) → (x : Bool) → eqb g f ≡ x → OwnOf b g (booked_on g ds) (charges_in ds) t
          go (inl j) x e =
              let same : (l : ℕ) → count (loads_of (booked_on g ds)) l t ≡ count (loads_of (booked_on g hs)) l t
              = gone_count k (booked_on g hs) (booked_on g ds) (begun_on k g hs ds c.begun) t j in
              record {
                limit = λ l a. rw (same l) (before.limit l a);
                balance = λ l m a d. rw (same l, same m) (before.balance l m a d);
                site =
                    rw (gone_drawn k (charges_in hs) (charges_in ds) (begun_charges_lem k hs ds c.begun) t j) before.site;
              }
          go (inr j) true e =
              let is : OwnOf b f (booked_on f ds) (charges_in ds) t
              = record {
                limit = λ l a. rw (own_count j l) ((then_own t j).limit l a);
                balance = λ l m a d. rw (own_count j l, own_count j m) ((then_own t j).balance l m a d);
                site = then_drawn t j;
              } in
              subst (λ (z : ℕ). OwnOf b z (booked_on z ds) (charges_in ds) t) (sym (eqb-true g f e)) is
          go (inr j) false e =
              subst (λ (x : List Charge). OwnOf b g x (charges_in ds) t) (sym (c.rest g (eqb-false g f e)))
              (record { limit = before.limit; balance = before.balance; site = then_drawn t j })

      -- m, ps and vs are the next ticket, the orders and the tickets withdrawn then
      pub after_change :
          (m : ℕ) (ps : List Order) (vs : List ℕ)
          → Accepted b m ps
          → last_minute 0 ps ≤ k
          → orders_in ds ≡ staying vs ps
          → Each (λ t. t < m) vs
          → ceiling_of b os ≤ ceiling_of b ps
          → last_until (seen (limits_of (station_of b k n hs) f) cs) ≤ ceiling_of b ps
          → Invariant b k m ps vs ds rs
      after_change m ps vs accepted last orders off up ends =
          record {
            accepted = accepted;
            last = last;
            orders = orders;
            off = off;
            fit = c.fit;
            in_time =
                ends_bound k (ceiling_of b ps) (charges_in ds) (charges_each Lasts (fit_lasts b k) ds c.fit)
                (rw (begun_charges_lem k hs ds c.begun)
                (keep_each (λ x. active_until x ≤ ceiling_of b ps) (is_begun k) (charges_in hs)
                (each_in (λ x j. omega arith) (charges_in hs) inv.in_time)))
                (omega (
                  arith,
                  then_site (λ x. last_until (loads_of x)) until_joins,
                  last_seen (others_of (station_of b k n hs) f) cs,
                ));
            always = then_always;
            reports =
                λ w.
                inv.reports w
                ∙ sum_begun_lem w k (charges_in hs)
                ∙ ap (λ (x : List Charge). sum_charges w x) (sym (begun_charges_lem k hs ds c.begun))
                ∙ sym (sum_begun_lem w k (charges_in ds));
          }
