-- The refusals of an order are 29, and behind it those by the feeder that it names.
use mathlib.Core.Path.{◌≡◌, refl, ap, sym, ◌∙◌}
use Prim.Native.Nat.{ℕ, ◌+◌, ◌≤◌, ◌<◌}
use mathlib.Core.Bool.{Bool, true, false, ◌||◌}
use mathlib.Core.List.{List}
use native.Mathlib.Omega.{arith}
use lib.Dec.{ltb}
use lib.ListN.{length}
use borrow.Author.Tests.{le-ltb}
use Rattle.rules.specs.Basics.{first_of}
use Rattle.rules.specs.Site as rules
use Rattle.rules.specs.Site.{charges_on}
use Rattle.rules.specs.Calls.{order_refusals}
use Rattle.rules.proofs.Lists.{length_tabulate}
use Rattle.charges.specs.Arrays.{charge_at}
use Rattle.search.specs.declared.limits.Limits.{Limits}
use Rattle.station.specs.declared.Feeder.{Feeder}
use Rattle.station.specs.declared.Station.{Station}
use Rattle.station.specs.View.{feeder_at, view, Formed, Valid, limits_for}
use Rattle.station.proofs.Views.{view_length, view_number, read_at, feeder_read}
use Rattle.ordering.specs.declared.Order.{Order}
use Rattle.ordering.specs.Ordered.{order_rows, Unrefused}

-- the rules' refusals of an order
abbrev pub refusals_of : Station → Order → List (Bool × ℕ)
refusals_of s o = order_refusals (view s) o.feeder o.line o.time o.due o.rate

-- neither below 1 nor above the highest
within : (x high : ℕ) → 1 ≤ x → x ≤ high → (ltb x 1 || ltb high x) ≡ false
within x high a b = simp (le-ltb x 1 a, le-ltb high x b)

module _ (s : Station) (o : Order) where
  pub not_there : (ltb o.feeder 1 || ltb s.count o.feeder) ≡ true → 29 ≡ first_of (refusals_of s o)
  not_there e = rw (view_length s, e)

  -- "29, before 4": where its feeder is there, what is left of the table is by the feeder
  module _ (p : ℕ) (there : (o.feeder ≡ p + 1) × (p < s.count)) where
    held_here : length (charges_on (view s) (p + 1)) ≡ (feeder_at s p).charges.held
    held_here =
        ap (λ (g : rules.Feeder). length g.charges) (view_number s p there.1)
        ∙ length_tabulate (charge_at (feeder_at s p).charges) (feeder_at s p).charges.held 0

    pub rows :
        (other : Feeder) {y : Limits}
        → Formed s
        → y ≡ limits_for (read_at s p other) s.site
        → first_of (order_rows y (read_at s p other).charges.held s.next o) ≡ first_of (refusals_of s o)
    rows other w e =
        rw (e, feeder_read s w there.1 other, there.0, view_length s, within (p + 1) s.count (omega arith) (omega (arith, there.1)), held_here, view_number s p there.1) refl

    -- and where that gives no number, nothing refuses it
    pub unrefused :
        (other : Feeder) {y : Limits}
        → Valid s
        → y ≡ limits_for (read_at s p other) s.site
        → 0 ≡ first_of (order_rows y (read_at s p other).charges.held s.next o)
        → Unrefused s o
    unrefused other v y e = record { valid = v; none = sym (e ∙ rows other v.formed y) }
