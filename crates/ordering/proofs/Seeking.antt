-- The search for the start of an order that is not refused: what its feeder sees is lent, as its own columns or with what the others draw.
use mathlib.Core.Path.{◌≡◌, refl, ap, sym, ◌∙◌, subst}
use Prim.Native.Nat.{ℕ, ◌+◌, ◌*◌, ◌≤◌, ◌<◌}
use mathlib.Core.Bool.{true}
use mathlib.Core.List.{List}
use native.Mathlib.Omega.{arith}
use lib.ListN.{length}
use Rattle.rules.specs.Basics.{at}
use Rattle.rules.specs.Load.{Load, limits, sound}
use Rattle.rules.specs.Charge.{loads_of, seen}
use Rattle.rules.specs.Site as rules
use Rattle.rules.specs.Site.{feeder_of, charges_on, limits_of}
use Rattle.rules.proofs.Lists.{length_tabulate}
use Rattle.rules.proofs.Tables.{NoneHolds}
use Rattle.rules.proofs.Granted.{OrderGranted, order_granted, refusals_none}
use Rattle.profile.specs.Steps.{most_steps}
use Rattle.charges.specs.Arrays.{charge_at, charges_of}
use Rattle.planner.proofs.Showing.{length_loads_of}
use Rattle.planner.proofs.StandingLoads.{plannable_drawable}
use Rattle.orders.specs.declared.sought.Sought.{Sought}
use Rattle.orders.specs.Asked.{start_sought, OrderBeside, CanOrder}
use Rattle.orders.proofs.Drawings.{sound_beside, lent_can_order}
use Rattle.station.specs.declared.Feeder.{Feeder}
use Rattle.station.specs.declared.Station.{Station}
use Rattle.station.specs.View.{feeder_view, feeder_at, view, limits_for}
use Rattle.station.proofs.Views.{view_length, view_number, read_at, feeder_read}
use Rattle.station.proofs.Seen.{seen_end, seen_plannable}
use Rattle.ordering.specs.declared.Order.{Order}
use Rattle.ordering.specs.Ordered.{preview_of, sought_by, start_of, Unrefused}
use Rattle.ordering.proofs.Rows.{refusals_of}

-- all that the feeder of an order sees
abbrev pub seen_by : Station → Order → List Load
seen_by s o = seen (limits_of (view s) o.feeder) (charges_on (view s) o.feeder)

module _ {s : Station} {o : Order} (u : Unrefused s o) where
  pub none_holds : NoneHolds (refusals_of s o)
  none_holds = refusals_none (view s) (preview_of o) u.none

  pub granted : OrderGranted (view s) o.feeder o.line o.time o.due o.rate
  granted = order_granted (view s) o.feeder o.line o.time o.due o.rate none_holds

  -- the only feeder is the one that it names
  pub only : s.count ≡ 1 → o.feeder ≡ 0 + 1
  only single = omega (arith, single, granted.is_feeder_lem.low, granted.is_feeder_lem.high, view_length s)

  module _ (p : ℕ) (e : o.feeder ≡ p + 1) where
    -- its feeder is there
    pub inside : p < s.count
    inside = omega (arith, e, granted.is_feeder_lem.high, view_length s)

    pub here : feeder_of (view s) o.feeder ≡ feeder_view (feeder_at s p)
    here = rw e (view_number s p inside)

    pub charges_here : charges_on (view s) o.feeder ≡ charges_of (feeder_at s p).charges
    charges_here = ap (λ (g : rules.Feeder). g.charges) here

    held_here : length (charges_on (view s) o.feeder) ≡ (feeder_at s p).charges.held
    held_here = ap length charges_here ∙ length_tabulate (charge_at (feeder_at s p).charges) (feeder_at s p).charges.held 0

    pub room : (feeder_at s p).charges.held < 180
    room = omega (arith, granted.room, held_here)

    pub active_most : o.time + (feeder_at s p).tail ≤ 1445
    active_most =
        omega (
          arith,
          granted.time_high,
          (u.valid.state.settings o.feeder granted.is_feeder_lem).tail_high,
          ap (λ (g : rules.Feeder). g.tail) here,
        )

    -- the feeder's plan with what it sees is sound, and the order's charge is alone
    plan : OrderBeside (seen_by s o) s.clock (limits_for (feeder_at s p) s.site) (sought_by s p o).draw
    plan =
        record {
          drawable = plannable_drawable (seen_by s o) (seen_plannable (view s) u.valid.state o.feeder granted.is_feeder_lem);
          end_most = omega (arith, seen_end (view s) u.valid.state o.feeder granted.is_feeder_lem);
          clock_most = u.valid.state.clock_high;
          sound_on =
              sym (sound_beside (limits_for (feeder_at s p) s.site) (limits_of (view s) o.feeder).others s.clock (seen_by s o))
              ∙ subst
              (λ (g : rules.Feeder). sound (limits g.limit g.bound s.site (limits_of (view s) o.feeder).others) s.clock (seen_by s o) ≡ true)
              here (u.valid.state.sound_on o.feeder granted.is_feeder_lem);
          some = omega (arith, granted.time_low);
          time_most = active_most;
          alone =
              record {
                is_rate = granted.is_rate;
                within_limit = subst (λ (g : rules.Feeder). o.rate ≤ g.limit) here granted.within_limit;
                within_site_lem = granted.within_site_lem;
                within_bound = subst (λ (g : rules.Feeder). o.rate ≤ g.bound) here granted.within_bound;
              };
        }

    -- What is lent is what it sees

    -- a single feeder sees its own charges alone
    own_seen : s.count ≡ 1 → loads_of (charges_of (feeder_at s p).charges) ≡ seen_by s o
    own_seen single =
        let first : o.feeder ≡ 1 = only single in
        ap loads_of (sym charges_here) ∙ rw (first, single) refl

    -- what was gathered for the feeder at its place
    drawn_seen : seen (limits_of (view s) (p + 1)) (charges_of (feeder_at s p).charges) ≡ seen_by s o
    drawn_seen =
        ap (λ f. seen (limits_of (view s) f) (charges_of (feeder_at s p).charges)) (sym e)
        ∙ ap (seen (limits_of (view s) o.feeder)) (sym charges_here)

    -- The search is given what it asks, and gives the start of the rules

    module _ {q : Sought} (sought : q ≡ sought_by s p o) {lent : List Load} where
      -- among what the feeder sees
      can_seek : {size : ℕ} → lent ≡ seen_by s o → 1 + 2 * length (seen_by s o) ≤ size → size ≤ most_steps → CanOrder q size lent
      can_seek same enough most = rw sought (lent_can_order (sought_by s p o) same enough most plan)

      found_seen : {start : ℕ} → lent ≡ seen_by s o → ((others : List Load) → start_sought q others lent ≡ at start) → start_of s o ≡ at start
      found_seen same told = sym (rw (sought, same, here) refl) ∙ told (limits_of (view s) o.feeder).others

      -- its own charges alone
      module _ (single : s.count ≡ 1) (other : Feeder) (own : lent ≡ loads_of (charges_of (read_at s p other).charges)) where
        read : read_at s p other ≡ feeder_at s p
        read = feeder_read s u.valid.formed inside other

        seen_lent : lent ≡ seen_by s o
        seen_lent = own ∙ rw read (own_seen single)

        pub own_can_seek : {size : ℕ} → 1 + 2 * (read_at s p other).charges.held ≤ size → size ≤ most_steps → CanOrder q size lent
        own_can_seek enough most =
            let held : length (seen_by s o) ≡ (feeder_at s p).charges.held =
            ap length (sym (own_seen single) ∙ ap loads_of (sym charges_here)) ∙ length_loads_of (charges_on (view s) o.feeder) ∙ held_here in
            can_seek seen_lent (omega (arith, held, ap (λ g. g.charges.held) read, enough)) most

        pub own_found : {start : ℕ} → ((others : List Load) → start_sought q others lent ≡ at start) → start_of s o ≡ at start
        own_found = found_seen seen_lent

      -- with what the others draw
      module _ {xs : List Load} (same : lent ≡ xs) (draws : xs ≡ seen (limits_of (view s) (p + 1)) (charges_of (feeder_at s p).charges)) where
        pub drawn_can_seek : {size : ℕ} → length xs ≤ 720 → 1441 ≤ size → size ≤ most_steps → CanOrder q size lent
        drawn_can_seek few enough most =
            let all : xs ≡ seen_by s o = draws ∙ drawn_seen in
            can_seek (same ∙ all) (omega (arith, few, enough, ap length all)) most

        pub drawn_found : {start : ℕ} → ((others : List Load) → start_sought q others lent ≡ at start) → start_of s o ≡ at start
        drawn_found = found_seen (same ∙ draws ∙ drawn_seen)
