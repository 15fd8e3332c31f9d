-- What the planners ask, of a feeder of a valid station.
use mathlib.Core.Path.{◌≡◌, ap, ◌∙◌}
use Prim.Native.Nat.{ℕ, ◌<◌}
use native.Mathlib.Omega.{arith}
use Rattle.rules.specs.Site as rules
use Rattle.rules.proofs.Rounding.{bound_at_most}
use Rattle.charges.specs.Arrays.{Columns}
use Rattle.planner.specs.declared.Beside.{Beside}
use Rattle.planner.specs.Ready.{Ready}
use Rattle.station.specs.declared.Feeder.{Feeder}
use Rattle.station.specs.declared.Station.{Station}
use Rattle.station.specs.declared.surroundings.Surroundings.{Surroundings}
use Rattle.station.specs.View.{feeder_at, Valid}
use Rattle.station.specs.Beside.{BesideOf, Surrounds, Lends}
use Rattle.station.proofs.Views.{view_number, read_at, feeder_read}
use Rattle.station.proofs.Held.{valid_listed, held_settings, held_charge}
use Rattle.station.proofs.Rests.{lent_beside}

-- a plan of the feeder at the place can be tested beside this
pub record CanTest (s : Station) (p : ℕ) (b : Beside) : Type 0 where
  pub valid : Valid s
  pub inside : p < s.count
  pub beside : BesideOf s p b

-- what is gathered of a valid station, and lent, is what a test takes
pub can_test : {s : Station} {p : ℕ} {x : Surroundings} {lent b : Beside} → Valid s → p < s.count → Surrounds s p x → Lends x lent → b ≡ lent → CanTest s p b
can_test v h g l e = rw e (record { valid = v; inside = h; beside = lent_beside h g l })

module _ {s : Station} {p : ℕ} {b : Beside} (w : CanTest s p b) where
  own_limit : b.limits.limit ≡ (feeder_at s p).limit
  own_limit = ap (λ y. y.limit) w.beside.terms ∙ ap (λ (g : rules.Feeder). g.limit) (view_number s p w.inside)

  own_bound : b.limits.bound ≡ (feeder_at s p).bound
  own_bound = ap (λ y. y.bound) w.beside.terms ∙ ap (λ (g : rules.Feeder). g.bound) (view_number s p w.inside)

  own_site : b.limits.site ≡ s.site
  own_site = ap (λ y. y.site) w.beside.terms

  pub own_read : (other : Feeder) → read_at s p other ≡ feeder_at s p
  own_read = feeder_read s w.valid.formed w.inside

  -- the places behind its charges are 0
  pub own_columns : (other : Feeder) → Columns (read_at s p other).charges
  own_columns other = rw (own_read other) (w.valid.formed.columns p w.inside)

  -- a feeder that can be tested can be planned
  pub ready : (other : Feeder) → Ready b (read_at s p other).charges
  ready other =
      let x = held_settings s w.valid p w.inside in
      rw (own_read other)
      (record {
        listed = valid_listed s w.valid p w.inside;
        clock_most = omega (arith, w.beside.clock, w.valid.state.clock_high);
        limit_most = omega (arith, own_limit, x.limit_high);
        bound_most =
            omega (arith, own_bound, x.bound_is, x.limit_high, bound_at_most (feeder_at s p).limit (feeder_at s p).percent x.percent_high);
        within_limit = λ i l. omega (arith, own_limit, (held_charge s w.valid p w.inside i l).within_limit);
        within_bound = λ i l. omega (arith, own_bound, (held_charge s w.valid p w.inside i l).within_bound);
        within_site_lem = λ i l. omega (arith, own_site, (held_charge s w.valid p w.inside i l).within_site_lem);
      })
