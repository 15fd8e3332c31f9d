-- How many charges all feeders hold, counted feeder by feeder, and that a clock move leaves no more.
use mathlib.Core.Path.{◌≡◌, refl}
use Prim.Native.Nat.{ℕ, suc, ◌+◌, ◌≤◌, ◌<◌}
use mathlib.Core.Bool.{not}
use mathlib.Core.List.{List, [], ◌∷◌, map}
use native.Mathlib.Omega.{arith}
use lib.ListN.{length, get_or, take, length-append}
use Rattle.std.specs.List.{sum_by}
use Rattle.std.proofs.lemmas.List.Sums.{sum_by-cons}
use Rattle.rules.specs.Basics.{tabulate}
use Rattle.rules.specs.Charge.{is_finished, unfinished_charges}
use Rattle.rules.specs.Site as rules
use Rattle.rules.specs.Site.{State, joined, site_charges}
use Rattle.rules.specs.Calls.{moved_to}
use Rattle.rules.proofs.Lists.{length_tabulate, length_keep}
use Rattle.charges.specs.Arrays.{charge_at, charges_of}
use Rattle.station.specs.declared.Feeder.{Feeder}
use Rattle.station.specs.declared.Station.{Station}
use Rattle.station.specs.View.{outside, feeder_view, feeder_at, view, Formed}
use Rattle.station.proofs.Views.{length_among, among_at}
use Rattle.station.proofs.Moves.{passed_feeder}

abbrev pub held_by : Feeder → ℕ
held_by g = g.charges.held

-- these feeders, the first of which is f a
held_from :
    (f : ℕ → Feeder) (gs : List Feeder) (a : ℕ)
    → ((i j : ℕ) → i < length gs → j ≡ a + i → get_or gs i outside ≡ f j)
    → sum_by held_by gs ≡ length (joined (tabulate (λ i. feeder_view (f i)) (length gs) a))
held_from f [] a e = refl
held_from f (g ∷ gs) a e =
    let is : g ≡ f a = e 0 a (omega arith) (omega arith) in
    rw (
      ← is,
      sum_by-cons held_by g gs,
      length-append (charges_of g.charges) (joined (tabulate (λ i. feeder_view (f i)) (length gs) (suc a))),
      length_tabulate (charge_at g.charges) g.charges.held 0,
      held_from f gs (suc a) (λ i j h z. e (suc i) j (omega (arith, h)) (omega (arith, z))),
    )

pub held_all : (s : Station) → Formed s → sum_by held_by (take s.count s.feeders) ≡ length (site_charges (view s))
held_all s w =
    rw (length_among s w) at (held_from (feeder_at s) (take s.count s.feeders) 0
    (λ i j h z. let here : j ≡ i = omega (arith, z) in rw here (among_at s i (omega (arith, h, length_among s w)))))

left_of : (target : ℕ) (gs : List rules.Feeder) → length (joined (map (passed_feeder target) gs)) ≤ length (joined gs)
left_of target [] = omega arith
left_of target (g ∷ gs) =
    omega (
      arith,
      length-append (unfinished_charges target g.charges) (joined (map (passed_feeder target) gs)),
      length-append g.charges (joined gs),
      length_keep (λ x. not (is_finished target x)) g.charges,
      left_of target gs,
    )

pub left_few : (s : State) (target : ℕ) → length (site_charges (moved_to s target)) ≤ length (site_charges s)
left_few s target = left_of target s.feeders
