-- The only feeder of a station is the whole station.
use mathlib.Core.Path.{◌≡◌, refl, sym, ◌∙◌, ap, subst}
use Prim.Native.Nat.{ℕ, zero, suc, ◌≤◌, ◌<◌}
use mathlib.Core.List.{List, [], ◌∷◌}
use native.Mathlib.Omega.{arith}
use lib.ListN.{length, get_or}
use Rattle.std.specs.Prelude.{Option, Some, None}
use Rattle.charges.specs.Arrays.{Columns}
use Rattle.station.specs.declared.Feeder.{Feeder}
use Rattle.station.specs.declared.Station.{Station}
use Rattle.station.specs.declared.only.One.{One}
use Rattle.station.specs.View.{outside, unused, feeder_at, Formed, Valid, station_of, OnlyOf, Alone}

four : (gs : List Feeder) → length gs ≡ 4 → gs ≡ get_or gs 0 outside ∷ get_or gs 1 outside ∷ get_or gs 2 outside ∷ get_or gs 3 outside ∷ []
four [] e = absurd (omega (arith, e))
four (a ∷ []) e = absurd (omega (arith, e))
four (a ∷ b ∷ []) e = absurd (omega (arith, e))
four (a ∷ b ∷ c ∷ []) e = absurd (omega (arith, e))
four (a ∷ b ∷ c ∷ d ∷ []) e = refl
four (a ∷ b ∷ c ∷ d ∷ g ∷ gs) e = absurd (omega (arith, e))

-- a station, by its count and its feeders; these are named, since a feeder that is not used is a large term
counted :
    (s : Station) (n : ℕ) (gs : List Feeder) → s.count ≡ n → s.feeders ≡ gs →
    s ≡ record { count = n; site = s.site; clock = s.clock; next = s.next; feeders = gs }
counted s n gs e f = rw (← e, ← f) refl

-- the first feeder, with what it has of the station
abbrev pub first_one : Station → One
first_one s = record { site = s.site; clock = s.clock; next = s.next; feeder = feeder_at s 0 }

-- where there is no other, the station is that of its first feeder
single : (s : Station) → Formed s → s.count ≡ 1 → s ≡ station_of (first_one s)
single s w e =
    counted s 1 (feeder_at s 0 ∷ unused ∷ unused ∷ unused ∷ []) e
    (four s.feeders w.four
    ∙ rw (w.rest 1 (omega (arith, e)) (omega arith), w.rest 2 (omega (arith, e)) (omega arith), w.rest 3 (omega (arith, e)) (omega arith)))

-- behind the only feeder there is none
others_unused : (o : One) (i : ℕ) → 1 ≤ i → i < 4 → feeder_at (station_of o) i ≡ unused
others_unused o zero h l = absurd (omega (arith, h))
others_unused o (suc zero) h l = refl
others_unused o (suc (suc zero)) h l = refl
others_unused o (suc (suc (suc zero))) h l = refl
others_unused o (suc (suc (suc (suc i)))) h l = absurd (omega (arith, l))

pub only_formed : (o : One) → Columns o.feeder.charges → Formed (station_of o)
only_formed o c =
    record {
      four = refl;
      some = omega arith;
      few = omega arith;
      columns = λ i h. first i h;
      rest = others_unused o;
    }
  where
    first : (i : ℕ) → i < 1 → Columns (feeder_at (station_of o) i).charges
    first zero h = c
    first (suc i) h = absurd (omega (arith, h))

-- taken out of it, it is the whole of it
pub taken_whole : {s : Station} {o : One} → Formed s → s.count ≡ 1 → o ≡ first_one s → station_of o ≡ s
taken_whole {s} w n e = ap station_of e ∙ sym (single s w n)

pub taken_out : (s : Station) (o : One) {r : Option One} → OnlyOf s r → r ≡ Some o → station_of o ≡ s
taken_out s o p e = rw e at p

pub none_out : (s : Station) {r : Option One} → OnlyOf s r → r ≡ None → s.count ≡ 1 → ⊥
none_out s p e = rw e at p

pub taken_alone : (s : Station) (o : One) {r : Option One} → Valid s → OnlyOf s r → r ≡ Some o → Alone o
taken_alone s o v p e = record { valid = subst Valid (sym (taken_out s o p e)) v }
