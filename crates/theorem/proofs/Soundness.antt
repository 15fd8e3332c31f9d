-- Soundness and the earliest start, as the rules have them and spelled out over minutes and lines.
use mathlib.Core.List.{List}
use Prim.Native.Nat.{ℕ}
use Rattle.rules.specs.Load.{Load}
use Rattle.rules.specs.Charge.{loads_of}
use Rattle.rules.specs.Site.{charges_on}
use Rattle.rules.specs.Search.{added}
use Rattle.rules.specs.Calls.{draw_for}
use Rattle.guarantee.specs.DemandTwo.{SoundPlan, EarliestStart}
use Rattle.station.specs.declared.Station.{Station}
use Rattle.station.specs.View.{view}
use Rattle.ordering.specs.declared.Order.{Order}
use Rattle.theorem.specs.Soundness.{IsSound, IsEarliestStart}

pub spelled_sound : (s : Station) (f : ℕ) (loads : List Load) → SoundPlan (view s) f loads → IsSound s f loads
spelled_sound s f loads p = (
  (λ line t i h. p.limit line t i h),
  (λ line other t i j h. p.balance line other t i j h),
  (λ t h. p.site t h),
)

pub sound_spelled : (s : Station) (f : ℕ) (loads : List Load) → IsSound s f loads → SoundPlan (view s) f loads
sound_spelled s f loads p =
    record {
      limit = λ line t i h. p.0 line t i h;
      balance = λ line other t i j h. p.1 line other t i j h;
      site = λ t h. p.2 t h;
    }

module _ (s : Station) (o : Order) (start : ℕ) where
  abbrev pub IsEarliest : Type 0
  IsEarliest = EarliestStart (view s) o.feeder (draw_for (view s) o.feeder o.line o.time o.rate) start

  abbrev with : ℕ → List Load
  with u = added (loads_of (charges_on (view s) o.feeder)) (draw_for (view s) o.feeder o.line o.time o.rate) u

  pub spelled_earliest : IsEarliest → IsEarliestStart s o start
  spelled_earliest e = (
    e.not_early,
    spelled_sound s o.feeder (with start) e.sound,
    (λ u h p. e.earliest u h (sound_spelled s o.feeder (with u) p)),
  )

  pub earliest_spelled : IsEarliestStart s o start → IsEarliest
  earliest_spelled e =
      record {
        not_early = e.0;
        sound = sound_spelled s o.feeder (with start) e.1;
        earliest = λ u h p. e.2 u h (spelled_sound s o.feeder (with u) p);
      }
