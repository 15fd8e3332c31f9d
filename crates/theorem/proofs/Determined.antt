-- The view determines a station whose unused places are 0.
use mathlib.Core.Logic.{◌⊎◌, inl, inr}
use mathlib.Core.Path.{◌≡◌, sym, ap, ◌∙◌}
use Prim.Native.Nat.{ℕ, ◌≤◌, ◌<◌}
use native.Mathlib.Omega.{arith}
use lib.ListN.{length, get_or}
use lib.Seq.{ext_get_or}
use Rattle.rules.specs.Site as rules
use Rattle.rules.specs.Site.{State, no_feeder}
use Rattle.rules.proofs.Ranges.{below_or_not}
use Rattle.charges.proofs.Holding.{charges_same}
use Rattle.station.specs.declared.Feeder.{Feeder}
use Rattle.station.specs.View.{feeder_view, outside, feeder_at}
use Rattle.station.proofs.Views.{view_length, view_at}
use Rattle.theorem.specs.Determined.{ViewDetermines}

-- a feeder by what its view shows but for the arrays, and by its arrays
same_feeder : (g h : Feeder) → feeder_view g ≡ feeder_view h → g.charges ≡ h.charges → g ≡ h
same_feeder g h shown arrays =
    λ k. record {
      limit = (shown k).limit;
      percent = (shown k).percent;
      bound = (shown k).bound;
      tail = (shown k).tail;
      charges = arrays k;
    }

pub view_determines : ViewDetermines
view_determines s t v w shown =
    λ k. record {
      count = count k;
      site = (shown k).site;
      clock = (shown k).clock;
      next = (shown k).next;
      feeders = feeders k;
    }
  where
    count : s.count ≡ t.count
    count = sym (view_length s) ∙ ap (λ (z : State). length z.feeders) shown ∙ view_length t

    -- a feeder that is there
    used : (i : ℕ) → i < s.count → feeder_at s i ≡ feeder_at t i
    used i h =
        let there : i < t.count = omega (arith, h, count) in
        let same : feeder_view (feeder_at s i) ≡ feeder_view (feeder_at t i)
        = sym (view_at s i h) ∙ ap (λ (z : State). get_or z.feeders i no_feeder) shown ∙ view_at t i there in
        same_feeder (feeder_at s i) (feeder_at t i) same
        (charges_same (feeder_at s i).charges (feeder_at t i).charges (v.columns i h) (w.columns i there)
        (ap (λ (g : rules.Feeder). g.charges) same))

    at_place : (i : ℕ) → i < 4 → (i < s.count) ⊎ (s.count ≤ i) → feeder_at s i ≡ feeder_at t i
    at_place i four (inl h) = used i h
    at_place i four (inr h) = v.rest i h four ∙ sym (w.rest i (omega (arith, h, count)) four)

    feeders : s.feeders ≡ t.feeders
    feeders =
        ext_get_or outside s.feeders t.feeders (v.four ∙ sym w.four)
        (λ i h. at_place i (omega (arith, h, v.four)) (below_or_not i s.count))
