-- The feeders of a valid station hold numbers in range, in ticket order; what a plan of one stands beside goes into a profile.
use mathlib.Core.Logic.{◌⊎◌, inl, inr}
use mathlib.Core.Path.{◌≡◌, sym, ap, subst}
use mathlib.Core.List.{[], map}
use lib.ListN.{length}
use Prim.Native.Nat.{ℕ, zero, suc, ◌+◌, ◌≤◌, ◌<◌}
use native.Mathlib.Omega.{arith}
use Rattle.rules.specs.Basics.{Each, tabulate}
use Rattle.rules.specs.Charge.{Charge, active_until, loads_of}
use Rattle.rules.specs.Site as rules
use Rattle.rules.specs.Site.{charges_on, others_of}
use Rattle.rules.specs.Load.{elsewhere}
use Rattle.rules.specs.Valid.{ValidCharge, ValidPlan, ValidSettings, Rising}
use Rattle.rules.proofs.Ranges.{below_or_not}
use Rattle.rules.proofs.Lists.{tabulate_each}
use Rattle.rules.proofs.Tickets.{rising_from}
use Rattle.rules.proofs.Ends.{each_until}
use Rattle.charges.specs.Arrays.{charge_at, charges_of}
use Rattle.charges.specs.Held.{Small, Listed}
use Rattle.charges.specs.declared.loads.Loads.{Loads}
use Rattle.charges.specs.Drawn.{loads_lent}
use Rattle.planner.specs.Others.{Plannable, Others}
use Rattle.station.specs.declared.Station.{Station}
use Rattle.station.specs.View.{feeder_view, feeder_at, view, Valid}
use Rattle.station.proofs.Views.{view_number, is_feeder_lem}
use Rattle.station.proofs.Seen.{own_end, elsewhere_end, others_plannable}

-- tickets that rise along a list rise from place to place
rising_places :
    (f : ℕ → Charge) (low k a : ℕ)
    → Rising low (tabulate f k a)
    → (i j : ℕ)
    → a ≤ i
    → i < j
    → j < a + k
    → (f i).ticket < (f j).ticket
rising_places f low zero a r i j h l m = absurd (omega arith)
rising_places f low (suc k) a r i j h l m =
    go (below_or_not a i) (λ n. rising_places f (suc (f a).ticket) k (suc a) r.1 i j n l (omega arith))
  where
    go : (a < i) ⊎ (i ≤ a) → (a < i → (f i).ticket < (f j).ticket) → (f i).ticket < (f j).ticket
    go (inl n) rest = rest n
    go (inr n) rest =
        let same : i ≡ a = omega arith in
        rw same
        (tabulate_each (λ c. suc (f a).ticket ≤ c.ticket) f k (suc a)
        (rising_from (suc (f a).ticket) (tabulate f k (suc a)) r.1)
        j (omega arith) (omega arith))

module _ (s : Station) (v : Valid s) where
  module _ (i : ℕ) (h : i < s.count) where
    held_plan : ValidPlan s.site s.clock s.next (feeder_view (feeder_at s i))
    held_plan =
        subst (λ (g : rules.Feeder). ValidPlan s.site s.clock s.next g) (view_number s i h) (v.state.plan (i + 1) (is_feeder_lem s i h))

    pub held_settings : ValidSettings (feeder_view (feeder_at s i))
    held_settings = subst (λ (g : rules.Feeder). ValidSettings g) (view_number s i h) (v.state.settings (i + 1) (is_feeder_lem s i h))

    own-ends : Each (λ c. active_until c ≤ 99000000) (charges_of (feeder_at s i).charges)
    own-ends =
        subst (λ (g : rules.Feeder). Each (λ c. active_until c ≤ 99000000) g.charges) (view_number s i h)
        (each_until 99000000 (charges_on (view s) (i + 1)) (own_end (view s) v.state (i + 1) (is_feeder_lem s i h)))

    pub held_charge :
        (k : ℕ) → k < (feeder_at s i).charges.held →
        ValidCharge (feeder_view (feeder_at s i)) s.site s.clock s.next (charge_at (feeder_at s i).charges k)
    held_charge k l =
        tabulate_each (ValidCharge (feeder_view (feeder_at s i)) s.site s.clock s.next) (charge_at (feeder_at s i).charges)
        (feeder_at s i).charges.held 0 held_plan.each k (omega arith) (omega arith)

    small : (k : ℕ) → k < (feeder_at s i).charges.held → Small (charge_at (feeder_at s i).charges k)
    small k l =
        let f = held_charge k l in
        let e : active_until (charge_at (feeder_at s i).charges k) ≤ 99000000 =
        tabulate_each (λ c. active_until c ≤ 99000000) (charge_at (feeder_at s i).charges) (feeder_at s i).charges.held 0 own-ends k
        (omega arith) (omega arith) in
        record {
          on_line = f.line;
          time_low = f.time_low;
          time_most = f.time_high;
          active_least = omega (arith, f.active);
          active_most = omega (arith, f.active, f.time_high, held_settings.tail_high);
          due_most = f.due_high;
          is_rate = f.rate;
          start_most = omega (arith, e);
        }

    pub valid_listed : Listed (feeder_at s i).charges
    valid_listed =
        record {
          small = small;
          rising = λ k l. rising_places (charge_at (feeder_at s i).charges) 1 (feeder_at s i).charges.held 0 held_plan.rising k (k + 1) (omega arith) (omega arith) (omega arith);
        }

    -- what up to three others draw, lent
    pub valid_others :
        (l : Loads) → loads_lent l ≡ map elsewhere (loads_of (others_of (view s) (i + 1))) → length (loads_lent l) ≤ 540 → Others l
    valid_others l e n =
        record {
          few = n;
          plannable = subst (Each Plannable) (sym e) (others_plannable (view s) v.state (i + 1) (is_feeder_lem s i h));
          end_most = rw e (omega (arith, elsewhere_end (view s) v.state (i + 1) (is_feeder_lem s i h)));
        }

-- nothing that is lent
pub none_others : (l : Loads) → loads_lent l ≡ [] → Others l
none_others l e =
    record {
      few = omega (arith, ap length e);
      plannable = rw e tt;
      end_most = rw e (omega arith);
    }
