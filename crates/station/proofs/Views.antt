-- The view of a station: its feeders by their places, one of them changed, and that it determines the station.
use mathlib.Core.Path.{◌≡◌, sym, ◌∙◌, ap, subst}
use mathlib.Core.List.{List}
use Prim.Native.Nat.{ℕ, zero, suc, ◌+◌, ◌-◌, ◌<◌}
use mathlib.Core.Logic.{⊎_elim}
use native.Mathlib.Omega.{arith}
use lib.ListN.{length, get_or, set, take, length-set}
use lib.Seq.{get_or-set_same, get_or-set_other}
use Rattle.std.proofs.lemmas.List.{get_or-take, get_or_default, length-take-le}
use Rattle.rules.specs.Basics.{tabulate}
use Rattle.rules.specs.Site.{no_feeder, feeder_of}
use Rattle.rules.specs.Valid.{IsFeeder}
use Rattle.rules.proofs.Lists.{tabulate_same, length_tabulate, get_d_tabulate}
use Rattle.profile.proofs.Levels.{same_or_not}
use Rattle.charges.specs.Arrays.{Columns}
use Rattle.station.specs.declared.Feeder.{Feeder}
use Rattle.station.specs.declared.Station.{Station}
use Rattle.station.specs.View.{feeder_view, outside, feeder_at, view, Formed}

-- By place, and by number

pub view_length : (s : Station) → length (view s).feeders ≡ s.count
view_length s = length_tabulate (λ i. feeder_view (feeder_at s i)) s.count 0

pub view_at : (s : Station) (i : ℕ) → i < s.count → get_or (view s).feeders i no_feeder ≡ feeder_view (feeder_at s i)
view_at s i h = get_d_tabulate (λ k. feeder_view (feeder_at s k)) s.count 0 i no_feeder h ∙ ap (λ k. feeder_view (feeder_at s k)) (from_none i)
  where
    from_none : (i : ℕ) → 0 + i ≡ i
    from_none i = omega arith

-- feeder number i + 1 stands at place i
pub view_number : (s : Station) (i : ℕ) → i < s.count → feeder_of (view s) (i + 1) ≡ feeder_view (feeder_at s i)
view_number s i h = let e : i + 1 - 1 ≡ i = omega arith in rw e (view_at s i h)

pub is_feeder_lem : (s : Station) (i : ℕ) → i < s.count → IsFeeder (view s) (i + 1)
is_feeder_lem s i h = record { low = omega arith; high = omega (arith, view_length s) }

-- The feeders up to the count, as a loop goes through them

pub length_among : (s : Station) → Formed s → length (take s.count s.feeders) ≡ s.count
length_among s w = length-take-le s.count s.feeders (omega (arith, w.four, w.few))

pub among : (s : Station) {i : ℕ} {gs : List Feeder} → Formed s → gs ≡ take s.count s.feeders → i < length gs → i < s.count
among s w e h = omega (arith, h, ap length e, length_among s w)

pub among_at : (s : Station) (i : ℕ) → i < s.count → get_or (take s.count s.feeders) i outside ≡ feeder_at s i
among_at s i h = get_or-take s.count s.feeders i outside h

-- what is read at a place of the feeders, whatever would stand behind the last of them

abbrev pub read_at : Station → ℕ → Feeder → Feeder
read_at s i other = get_or s.feeders i other

pub feeder_read : (s : Station) {i : ℕ} → Formed s → i < s.count → (other : Feeder) → read_at s i other ≡ feeder_at s i
feeder_read s {i} w h other = get_or_default s.feeders i other outside (omega (arith, h, w.four, w.few))

pub among_read :
    (s : Station) {i : ℕ} {gs : List Feeder} → gs ≡ take s.count s.feeders → i < length gs → i < s.count → (other : Feeder) → get_or gs i other ≡ feeder_at s i
among_read s {i} {gs} e l h other = get_or_default gs i other outside l ∙ ap (λ fs. get_or fs i outside) e ∙ among_at s i h

-- One feeder changed

-- the station with a feeder at a place
abbrev pub put_at : Station → ℕ → Feeder → Station
put_at s p g = record { count = s.count; site = s.site; clock = s.clock; next = s.next; feeders = set s.feeders p g }

set_tabulate :
    {A : Type 0} (g h : ℕ → A) (n a j f : ℕ) (x : A) → j < n → f ≡ a + j → h f ≡ x → ((i : ℕ) → (i ≡ f → ⊥) → h i ≡ g i) →
    set (tabulate g n a) j x ≡ tabulate h n a
set_tabulate g h zero a j f x l e own rest = absurd (omega (arith, l))
set_tabulate g h (suc n) a zero f x l e own rest =
    let same : f ≡ a = omega arith in
    rw (tabulate_same h g n (suc a) (λ i p q. rest i (λ z. omega arith)), ← same, own)
set_tabulate g h (suc n) a (suc j) f x l e own rest =
    rw (rest a (λ z. omega arith), set_tabulate g h n (suc a) j f x (omega arith) (omega arith) own rest)

module _ (s : Station) (w : Formed s) (p : ℕ) (g : Feeder) (h : p < s.count) where
  pub put_here : feeder_at (put_at s p g) p ≡ g
  put_here = get_or-set_same s.feeders p g outside (omega (arith, w.four, w.few))

  pub put_there : (i : ℕ) → (i ≡ p → ⊥) → feeder_at (put_at s p g) i ≡ feeder_at s i
  put_there i ne = get_or-set_other s.feeders p i g outside ne

  pub view_put : (view (put_at s p g)).feeders ≡ set (view s).feeders p (feeder_view g)
  view_put =
      sym
      (set_tabulate (λ i. feeder_view (feeder_at s i)) (λ i. feeder_view (feeder_at (put_at s p g) i)) s.count 0 p p (feeder_view g) h (omega arith)
      (ap feeder_view put_here) (λ i ne. ap feeder_view (put_there i ne)))

  pub formed_put : Columns g.charges → Formed (put_at s p g)
  formed_put k =
      record {
        four = length-set s.feeders p g ∙ w.four;
        some = w.some;
        few = w.few;
        columns = λ i below.
            ⊎_elim
            (λ e. subst (λ (x : Feeder). Columns x.charges) (sym (ap (feeder_at (put_at s p g)) e ∙ put_here)) k)
            (λ ne. subst (λ (x : Feeder). Columns x.charges) (sym (put_there i ne)) (w.columns i below))
            (same_or_not i p);
        rest = λ i past four. put_there i (λ e. omega arith) ∙ w.rest i past four;
      }
