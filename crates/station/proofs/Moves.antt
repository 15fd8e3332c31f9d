-- A clock that is moved: the finished charges dropped feeder by feeder.
use mathlib.Core.Path.{◌≡◌, sym, ◌∙◌, ap}
use Prim.Native.Nat.{ℕ, ◌+◌, ◌-◌, ◌≤◌, ◌<◌}
use mathlib.Core.List.{List, ◌++◌}
use native.Mathlib.Omega.{arith}
use lib.ListN.{get_or, take, drop, length}
use Rattle.std.proofs.lemmas.List.{get_or-drop, get_or_append_left, get_or-append-add}
use Rattle.rules.specs.Charge.{unfinished_charges}
use Rattle.rules.specs.Site as rules
use Rattle.rules.specs.Site.{with_charges}
use Rattle.rules.specs.Calls.{moved_to}
use Rattle.rules.proofs.Lists.{tabulate_same, map_tabulate}
use Rattle.charges.specs.Arrays.{Columns}
use Rattle.station.specs.declared.Feeder.{Feeder}
use Rattle.station.specs.declared.Station.{Station}
use Rattle.station.specs.View.{outside, feeder_view, feeder_at, view, Formed}
use Rattle.station.proofs.Views.{among_at, length_among}

abbrev pub passed_feeder : ℕ → rules.Feeder → rules.Feeder
passed_feeder target g = with_charges g (unfinished_charges target g.charges)

-- a feeder without its finished charges
pub record Dropped (target : ℕ) (g h : Feeder) : Type 0 where
  pub view-is : feeder_view h ≡ passed_feeder target (feeder_view g)
  pub columns : Columns h.charges

-- the first k feeders have dropped their finished charges, and the others are as they were
pub record Dropping (gs hs : List Feeder) (target k : ℕ) : Type 0 where
  pub done : (i : ℕ) → i < k → Dropped target (get_or gs i outside) (get_or hs i outside)
  pub left : (i : ℕ) → k ≤ i → get_or hs i outside ≡ get_or gs i outside

-- Once all have, with the clock at its target

module _ (s : Station) (w : Formed s) {hs : List Feeder} {target k : ℕ} (d : Dropping (take s.count s.feeders) hs target k) (n : length hs ≡ length (take s.count s.feeders)) (all : length (take s.count s.feeders) ≤ k) where
  abbrev moved : Station
  moved =
      record { count = s.count; site = s.site; clock = target; next = s.next; feeders = hs ++ drop s.count s.feeders }

  so_many : length hs ≡ s.count
  so_many = n ∙ length_among s w

  used : (i : ℕ) → i < s.count → Dropped target (feeder_at s i) (feeder_at moved i)
  used i h =
      rw (← among_at s i h, get_or_append_left hs (drop s.count s.feeders) outside i (omega (arith, h, so_many)))
      (d.done i (omega (arith, h, all, length_among s w)))

  behind : (i : ℕ) → s.count ≤ i → feeder_at moved i ≡ feeder_at s i
  behind i h =
      let e : length hs + (i - s.count) ≡ i = omega (arith, so_many, h) in
      ap (λ j. get_or (hs ++ drop s.count s.feeders) j outside) (sym e)
      ∙ get_or-append-add hs (drop s.count s.feeders) (i - s.count) outside
      ∙ get_or-drop s.count s.feeders (i - s.count) outside
      ∙ ap (λ j. get_or s.feeders j outside) (omega (arith, h))

  pub dropped_all : view moved ≡ moved_to (view s) target
  dropped_all =
      rw (map_tabulate (passed_feeder target) (λ i. feeder_view (feeder_at s i)) s.count 0)
      (ap (λ fs. record { feeders = fs; site = s.site; clock = target; next = s.next })
      (tabulate_same (λ i. feeder_view (feeder_at moved i)) (λ i. passed_feeder target (feeder_view (feeder_at s i))) s.count 0 (λ i a b. (used i (omega (arith, b))).view-is)))
