-- A withdrawal from the feeder that holds the ticket: what the plan that is left has to be, and that the result is that of the rules.
use mathlib.Core.Path.{◌≡◌, refl, sym, ap, subst, ◌∙◌}
use Prim.Native.Nat.{ℕ, ◌+◌, ◌≤◌, ◌<◌}
use mathlib.Core.Bool.{Bool, true, false, not, ◌&&◌}
use mathlib.Core.List.{List, [], ◌∷◌}
use native.Mathlib.Omega.{arith}
use lib.Dec.{eqb}
use borrow.Author.Tests.{lt-ltb, le-ltb}
use Rattle.std.proofs.Common.{Option, Some, None}
use Rattle.rules.specs.Basics.{Each, some}
use Rattle.rules.specs.Load.{sound}
use Rattle.rules.specs.Charge.{Charge, load_of, loads_of, seen, is_begun, is_waiting, has_ticket, without_ticket}
use Rattle.rules.specs.Site as rules
use Rattle.rules.specs.Site.{State, site_charges, charges_on, limits_of, holding}
use Rattle.rules.specs.Calls.{Answer, refused, withdrawn, withdraw, withdrawing, feeder_with, step}
use Rattle.rules.proofs.Ranges.{first_found}
use Rattle.rules.proofs.Lists.{keep_each}
use Rattle.rules.proofs.Distinct.{site_distinct}
use Rattle.rules.proofs.Withdrawing.{distinct_not_begun}
use Rattle.refusals.specs.declared.Refusal.TheVariants.{NotHeld, AlreadyBegun, RestUnsound}
use Rattle.charges.specs.declared.Charges.{Charges}
use Rattle.charges.specs.Arrays.{charge_at, charges_of, Holds}
use Rattle.charges.specs.Held.{Listed}
use Rattle.planner.specs.declared.Beside.{Beside}
use Rattle.planner.specs.Others.{Plannable}
use Rattle.planner.specs.Ready.{terms_of, Profiled}
use Rattle.planner.proofs.Showing.{listed_profiled}
use Rattle.station.specs.declared.Feeder.{Feeder}
use Rattle.station.specs.declared.Station.{Station}
use Rattle.station.specs.declared.holder.Holder.{Holder}
use Rattle.station.specs.declared.surroundings.Surroundings.{Surroundings}
use Rattle.station.specs.View.{feeder_view, feeder_at, view, Valid}
use Rattle.station.specs.Beside.{BesideOf, Surrounds, Lends}
use Rattle.station.specs.Holders.{Lacks, HeldAt, HolderOf}
use Rattle.station.specs.Given.{Gives}
use Rattle.station.proofs.Views.{view_number, read_at, feeder_read}
use Rattle.station.proofs.Changed.{changed_at, changed_view, changed_formed}
use Rattle.station.proofs.Rests.{lent_beside}
use Rattle.station.proofs.Refusing.{giving, call_granted, gives_by, gives_refused}
use Rattle.site.proofs.Among.{some_place, among_some, number_with}
use Rattle.site.proofs.Enquiring.{lacks_some, nobody_some, own_some, holder_among, site_some, place_held, holder_listed}

-- The plan that is left

-- what goes into a profile, charge by charge
loads_each : (cs : List Charge) → Each Plannable (loads_of cs) → Each (λ c. Plannable (load_of c)) cs
loads_each [] e = tt
loads_each (c ∷ cs) e = (e.0, loads_each cs e.1)

each_loads : (cs : List Charge) → Each (λ c. Plannable (load_of c)) cs → Each Plannable (loads_of cs)
each_loads [] e = tt
each_loads (c ∷ cs) e = (e.0, each_loads cs e.1)

-- what the test of it asks
left_profiled : (c : Charges) (ticket : ℕ) {kept : Charges} → Listed c → Holds (without_ticket ticket (charges_of c)) kept → Profiled kept
left_profiled c ticket l r =
    record {
      plannable =
          rw r.charges
          (each_loads (without_ticket ticket (charges_of c))
          (keep_each (λ c. Plannable (load_of c)) (λ c. not (has_ticket ticket c)) (charges_of c)
          (loads_each (charges_of c) (listed_profiled l).plannable)));
    }

-- The feeder that holds the ticket, behind `ok_or`

module _ (s : Station) (ticket : ℕ) {o : Option Holder} (r : HolderOf s ticket o) where
  pub holder_none : o ≡ None → (i : ℕ) → i < s.count → Lacks s ticket i
  holder_none e = rw e at r

  pub holder_some : {h : Holder} → o ≡ Some h → HeldAt s ticket h.feeder h.place
  holder_some e = rw e at r

-- The station

module _ (s : Station) (ticket : ℕ) (v : Valid s) where
  pub withdraw_nobody :
      {a : Answer} → ((i : ℕ) → i < s.count → Lacks s ticket i) → a ≡ refused 15 → Gives (step (view s) (withdraw ticket)) a s []
  withdraw_nobody e says =
      rw says (gives_refused s (withdraw ticket) NotHeld v (rw (nobody_some s ticket e)) refl)

  module _ {f k : ℕ} (o : HeldAt s ticket f k) (other : Feeder) where
    abbrev own : Charges
    own = (feeder_at s f).charges

    -- what is read of the feeder
    abbrev seen_own : Charges
    seen_own = (read_at s f other).charges

    own_is : seen_own ≡ own
    own_is = ap (λ g. g.charges) (feeder_read s v.formed o.inside other)

    pub rest_profiled : {kept : Charges} → Holds (without_ticket ticket (charges_of seen_own)) kept → Profiled kept
    rest_profiled r = left_profiled own ticket (holder_listed s ticket o v) (rw own_is at r)

    -- a test of the charge that was found, beside its ticket
    with : (q : Charge → Bool) → q (charge_at own k) ≡ true → some (λ c. has_ticket ticket c && q c) (site_charges (view s)) ≡ true
    with q h =
        among_some (holder_among s ticket o) (λ c. has_ticket ticket c && q c)
        (some_place (λ c. has_ticket ticket c && q c) (charge_at own) own.held 0 k (omega arith) (omega (arith, place_held s ticket o))
        (rw ((first_found (λ j. eqb (charge_at own j).ticket ticket) own.held 0 k o.found).here, h)))

    pub withdraw_begun :
        {a : Answer} → (charge_at seen_own k).start < s.clock → a ≡ refused 25 → Gives (step (view s) (withdraw ticket)) a s []
    withdraw_begun h says =
        rw says
        (gives_refused s (withdraw ticket) AlreadyBegun v
        (rw (site_some s ticket o, with (is_begun s.clock) (lt-ltb (charge_at own k).start s.clock (rw own_is at h))))
        refl)

    number : feeder_with ticket 1 (view s).feeders ≡ f + 1
    number =
        number_with ticket (λ i. feeder_view (feeder_at s i)) s.count 0 f (omega arith) (omega (arith, o.inside))
        (λ i h. lacks_some s ticket i (o.before i h))
        (own_some s ticket o)

    on_feeder_lem : charges_on (view s) (f + 1) ≡ charges_of own
    on_feeder_lem = ap (λ (g : rules.Feeder). g.charges) (view_number s f o.inside)

    module _
        {kept : Charges} (r : Holds (without_ticket ticket (charges_of seen_own)) kept) (h : s.clock ≤ (charge_at seen_own k).start)
        {x y : Surroundings} {b : Beside} (g : Surrounds s f x) (same : y ≡ x) (l : Lends y b)
        {test : Bool} (q : test ≡ sound (terms_of b) b.clock (seen (terms_of b) (charges_of kept))) where
      charges_left : charges_of kept ≡ without_ticket ticket (charges_on (view s) (f + 1))
      charges_left = rw own_is at r.charges ∙ ap (without_ticket ticket) (sym on_feeder_lem)

      not_begun : some (λ c. has_ticket ticket c && is_begun s.clock c) (site_charges (view s)) ≡ false
      not_begun =
          distinct_not_begun s.clock ticket (site_charges (view s)) (site_distinct (view s) v.state)
          (with (is_waiting s.clock) (rw (le-ltb (charge_at own k).start s.clock (rw own_is at h))))

      beside : BesideOf s f b
      beside = lent_beside o.inside g (subst (λ (z : Surroundings). Lends z b) same l)

      whole : sound (limits_of (view s) (f + 1)) s.clock (seen (limits_of (view s) (f + 1)) (without_ticket ticket (charges_on (view s) (f + 1)))) ≡ test
      whole =
          ap (λ (cs : List Charge). sound (limits_of (view s) (f + 1)) s.clock (seen (limits_of (view s) (f + 1)) cs))
          (sym charges_left)
          ∙ ap (λ y. sound y s.clock (seen y (charges_of kept))) (sym beside.terms)
          ∙ ap (λ t. sound (terms_of b) t (seen (terms_of b) (charges_of kept))) (sym beside.clock)
          ∙ sym q

      pub withdraw_unsound : {a : Answer} → test ≡ false → a ≡ refused 26 → Gives (step (view s) (withdraw ticket)) a s []
      withdraw_unsound z says =
          rw says
          (gives_refused s (withdraw ticket) RestUnsound v (rw (site_some s ticket o, not_begun, number, whole, z)) refl)

      pub withdraw_taken : (again : Feeder) → test ≡ true → Gives (step (view s) (withdraw ticket)) withdrawn (changed_at s f again kept s.next) []
      unfolding withdrawing
      withdraw_taken again z =
          gives_by (withdraw ticket) v (changed_formed s v.formed f again kept s.next o.inside r.columns)
          (ap (λ (y : State). giving withdrawn y [])
          (changed_view s v.formed f again kept s.next o.inside
          ∙ ap (λ (cs : List Charge). holding (view s) (f + 1) cs s.next) charges_left
          ∙ ap (λ (i : ℕ). holding (view s) i (without_ticket ticket (charges_on (view s) i)) s.next) (sym number))
          ∙ call_granted (view s) (withdraw ticket) 0 (rw (site_some s ticket o, not_begun, number, whole, z)) refl)
