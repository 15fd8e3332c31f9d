-- The feeders, gone over from the last one to the first: those that are left to go over, and the charges of those behind.
use mathlib.Core.Path.{◌≡◌, ap, sym, ◌∙◌}
use Prim.Native.Nat.{ℕ, ◌+◌, ◌≤◌, ◌<◌}
use mathlib.Core.List.{List, [], ◌∷◌, ◌++◌}
use native.Mathlib.Omega.{arith}
use lib.ListN.{length, get_or, take, drop}
use lib.Seq.{get_or-append_seam}
use Rattle.std.specs.List.{push}
use Rattle.std.proofs.lemmas.List.{length_push, get_or_append_left}
use Rattle.rules.specs.Charge.{Charge}
use Rattle.rules.specs.Site as rules
use Rattle.rules.specs.Site.{joined}
use Rattle.charges.specs.Arrays.{charges_of}
use Rattle.charges.proofs.Feeders.{joined_from, joined-none}
use Rattle.station.specs.declared.Feeder.{Feeder}
use Rattle.station.specs.declared.Station.{Station}
use Rattle.station.specs.View.{outside, feeder_at, view, Formed}
use Rattle.station.proofs.Views.{view_length, view_at, length_among, among_at}

-- the charges of the feeders from place k on
abbrev pub held_from : Station → ℕ → List Charge
held_from s k = joined (drop k (view s).feeders)

pub from_none : (s : Station) {k : ℕ} → k ≡ s.count → held_from s k ≡ []
from_none s {k} e = ap (held_from s) (e ∙ sym (view_length s)) ∙ joined-none (view s).feeders

-- one feeder more
pub from_on : (s : Station) (k : ℕ) → k < s.count → held_from s k ≡ charges_of (feeder_at s k).charges ++ held_from s (k + 1)
from_on s k h =
    joined_from (view s).feeders k (omega (arith, h, view_length s))
    ∙ ap (λ (g : rules.Feeder). g.charges ++ held_from s (k + 1)) (view_at s k h)

-- the first feeders, which are left to go over
pub record Left (s : Station) (rest : List Feeder) : Type 0 where
  pub few : length rest ≤ s.count
  pub are : (i : ℕ) → i < length rest → get_or rest i outside ≡ feeder_at s i

-- all are, at the beginning
pub left_all : (s : Station) → Formed s → Left s (take s.count s.feeders)
left_all s w = record { few = omega (arith, length_among s w); are = λ i h. among_at s i (omega (arith, h, length_among s w)) }

-- the last of these is gone over, and those before it are left
pub record Last (s : Station) (rest : List Feeder) (g : Feeder) (rest' : List Feeder) : Type 0 where
  pub one_less : length rest ≡ length rest' + 1
  pub inside : length rest' < s.count
  pub is : g ≡ feeder_at s (length rest')
  pub left : Left s rest'
  pub held : held_from s (length rest') ≡ charges_of g.charges ++ held_from s (length rest)

pub last : {s : Station} {rest : List Feeder} (g : Feeder) (rest' : List Feeder) → Left s rest → rest ≡ push rest' g → Last s rest g rest'
last {s} {rest} g rest' l e =
    record {
      one_less = one_less;
      inside = inside;
      is = is;
      left =
          record {
            few = omega (arith, inside);
            are = λ i h.
                sym (get_or_append_left rest' (g ∷ []) outside i h)
                ∙ ap (λ gs. get_or gs i outside) (sym e)
                ∙ l.are i (omega (arith, h, one_less));
          };
      held =
          from_on s (length rest') inside
          ∙ ap (λ (h : Feeder). charges_of h.charges ++ held_from s (length rest' + 1)) (sym is)
          ∙ ap (λ k. charges_of g.charges ++ held_from s k) (sym one_less);
    }
  where
    one_less : length rest ≡ length rest' + 1
    one_less = ap length e ∙ length_push rest' g

    inside : length rest' < s.count
    inside = omega (arith, one_less, l.few)

    is : g ≡ feeder_at s (length rest')
    is =
        sym (get_or-append_seam rest' g [] outside)
        ∙ ap (λ gs. get_or gs (length rest') outside) (sym e)
        ∙ l.are (length rest') (omega (arith, one_less))
