-- Other charges on one feeder: the station by its next ticket and its feeders, and that it keeps its form.
use mathlib.Core.Path.{◌≡◌, refl, ap, ◌∙◌}
use Prim.Native.Nat.{ℕ, ◌+◌, ◌-◌, ◌<◌}
use native.Mathlib.Omega.{arith}
use lib.ListN.{set}
use Rattle.rules.specs.Site.{holding}
use Rattle.charges.specs.declared.Charges.{Charges}
use Rattle.charges.specs.Arrays.{charges_of, Columns}
use Rattle.station.specs.declared.Feeder.{Feeder}
use Rattle.station.specs.declared.Station.{Station}
use Rattle.station.specs.View.{view, Formed}
use Rattle.station.proofs.Views.{view_number, read_at, feeder_read, view_put, formed_put}

-- a feeder with other charges
abbrev pub recharged : Feeder → Charges → Feeder
recharged g c = record { limit = g.limit; percent = g.percent; bound = g.bound; tail = g.tail; charges = c }

-- the station with other charges on the feeder that is read at a place, and the next ticket
abbrev pub changed_at : Station → ℕ → Feeder → Charges → ℕ → Station
changed_at s p other c next =
    record {
      count = s.count;
      site = s.site;
      clock = s.clock;
      next = next;
      feeders = set s.feeders p (recharged (read_at s p other) c);
    }

module _ (s : Station) (w : Formed s) (p : ℕ) (other : Feeder) (c : Charges) (next : ℕ) (h : p < s.count) where
  -- in the words of the rules
  pub changed_view : view (changed_at s p other c next) ≡ holding (view s) (p + 1) (charges_of c) next
  changed_view =
      let q : p + 1 - 1 ≡ p = omega arith in
      ap (λ fs. record { feeders = fs; site = s.site; clock = s.clock; next = next }) (view_put s w p (recharged (read_at s p other) c) h)
      ∙ rw (view_number s p h, q, feeder_read s w h other) refl

  pub changed_formed : Columns c → Formed (changed_at s p other c next)
  changed_formed k =
      let f = formed_put s w p (recharged (read_at s p other) c) h k in
      record { four = f.four; some = f.some; few = f.few; columns = f.columns; rest = f.rest }
