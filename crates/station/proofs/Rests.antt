-- What the other feeders draw, gathered feeder by feeder.
use mathlib.Core.Path.{◌≡◌, refl, sym, ◌∙◌, ap}
use Prim.Native.Nat.{ℕ, ◌+◌, ◌<◌}
use mathlib.Core.Bool.{Bool, true, false}
use mathlib.Core.List.{List, map, ◌++◌}
use lib.ListN.{length, get_or, length-append, length-map}
use lib.Seq.{take-length}
use Rattle.rules.specs.Load.{Load, elsewhere, limits}
use Rattle.rules.specs.Charge.{load_of, loads_of, seen}
use Rattle.rules.specs.Site as rules
use Rattle.rules.specs.Site.{no_feeder, others_of, limits_of}
use Rattle.rules.proofs.Lists.{length_tabulate}
use Rattle.charges.specs.declared.Charges.{Charges}
use Rattle.charges.specs.Arrays.{charge_at, charges_of, Holds}
use Rattle.search.specs.declared.limits.Limits.{Limits}
use Rattle.charges.specs.Drawn.{loads_lent, seen_from}
use Rattle.charges.proofs.Feeders.{OthersDrawn}
use Rattle.station.specs.declared.Station.{Station}
use Rattle.planner.specs.declared.Beside.{Beside}
use Rattle.station.specs.declared.surroundings.Surroundings.{Surroundings}
use Rattle.station.specs.View.{feeder_at, view, Formed}
use Rattle.station.specs.Beside.{BesideOf, Surrounds, Lends}
use Rattle.station.proofs.Views.{view_at, view_number}

-- the feeder at place i, as the gathering asks
pub held_at_lem : (s : Station) (i : ℕ) → Formed s → i < s.count → Holds (get_or (view s).feeders i no_feeder).charges (feeder_at s i).charges
held_at_lem s i w h = record { charges = ap (λ (g : rules.Feeder). g.charges) (sym (view_at s i h)); columns = w.columns i h }

-- behind the last feeder all the others are gathered
pub all_gathered :
    (s : rules.State) {f k : ℕ} {drawn : List Load} → OthersDrawn f s.feeders k drawn → k ≡ length s.feeders →
    drawn ≡ map elsewhere (loads_of (others_of s f))
all_gathered s v e = rw (v.loads, e, take-length s.feeders)

-- with its charges behind them, so many loads more are gathered
pub length_gathered :
    (own : Bool) (xs : List Load) {ys : List Load} (c : Charges) → ys ≡ xs ++ seen_from own (loads_of (charges_of c)) →
    length ys ≡ length xs + c.held
length_gathered own xs c e =
    ap length e
    ∙ length-append xs (seen_from own (loads_of (charges_of c)))
    ∙ ap (λ n. length xs + n) (length_seen own ∙ length-map (charges_of c) load_of ∙ length_tabulate (charge_at c) c.held 0)
  where
    length_seen : (own : Bool) → length (seen_from own (loads_of (charges_of c))) ≡ length (loads_of (charges_of c))
    length_seen true = refl
    length_seen false = length-map (loads_of (charges_of c)) elsewhere

-- what is gathered for a plan of a feeder, lent
pub lent_beside :
    {s : Station} {p : ℕ} {x : Surroundings} {b : Beside} → p < s.count → Surrounds s p x → Lends x b → BesideOf s p b
lent_beside {s} {p} {x} {b} h g l =
    record {
      terms =
          ap (λ (y : Limits). limits y.limit y.bound y.site (loads_lent b.others)) (l.limits ∙ g.limits)
          ∙ rw (l.others, g.others, view_number s p h) refl;
      clock = l.clock ∙ g.clock;
      draws = l.others ∙ g.others;
    }

-- the others, and then the feeder's own
pub drawn_own :
    (s : Station) (p : ℕ) {rest drawn : List Load} → p < s.count → rest ≡ map elsewhere (loads_of (others_of (view s) (p + 1))) →
    drawn ≡ rest ++ seen_from true (loads_of (charges_of (feeder_at s p).charges)) →
    drawn ≡ seen (limits_of (view s) (p + 1)) (charges_of (feeder_at s p).charges)
drawn_own s p h v w = w ∙ rw v refl
