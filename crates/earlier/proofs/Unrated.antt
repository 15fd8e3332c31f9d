-- With every rate 1, counts and searches are those before N4.
use mathlib.Core.Path.{◌≡◌, refl, ap, fun_ext, ◌∙◌}
use Prim.Native.Nat.{ℕ, suc, ◌+◌, ◌-◌}
use mathlib.Core.Bool.{Bool, true, false, cond, not, ◌&&◌}
use mathlib.Core.List.{List, [], ◌∷◌, map}
use native.Mathlib.Omega.{arith}
use lib.Dec.{leb, eqb}
use lib.ListN.{length}
use Rattle.rules.specs.Basics.{Each, first, throughout, keep}
use Rattle.rules.specs.Load.{Load, Draw, active, count, counts, whole_of, last_until, Limits, elsewhere, balanced, sound_counts, from_on, sound}
use Rattle.rules.specs.Charge.{Charge, loads_of}
use Rattle.rules.specs.Search.{added, earliest, Caps, first_unbalanced}
use Rattle.rules.specs.Priority.{fits_at}
use Rattle.earlier.specs.Unrated.{number_active, sound_before, earliest_before, fits_before, unbalanced_before, AtRateOne}
use Rattle.rules.proofs.Lists.{each_append}

-- Counts

abbrev pub One : Load → Type 0
One x = x.rate ≡ 1

count-number : (xs : List Load) → Each One xs → (l t : ℕ) → count xs l t ≡ number_active xs l t
count-number [] e l t = refl
count-number (x ∷ xs) e l t = go (eqb x.line l) (active x t) (count-number xs e.1 l t)
  where
    go :
        (a b : Bool)
        → count xs l t ≡ number_active xs l t
        → cond b (cond a x.rate 0) 0 + count xs l t
        ≡ length (cond (a && b) (x ∷ keep (λ y. eqb y.line l && active y t) xs) (keep (λ y. eqb y.line l && active y t) xs))
    go true true h = omega (arith, e.0)
    go true false h = omega arith
    go false true h = omega arith
    go false false h = omega arith

-- "The count of a line in a minute is the number of its active charges"
pub count-is : (xs : List Load) → Each One xs → count xs ≡ number_active xs
count-is xs e = fun_ext (λ l. fun_ext (λ t. count-number xs e l t))

one_more : (xs : List Load) (a : Draw) (s : ℕ) → Each One xs → a.rate ≡ 1 → Each One (added xs a s)
one_more xs a s e h = each_append One xs _ e (h, tt)

pub loads_one : (cs : List Charge) → AtRateOne cs → Each One (loads_of cs)
loads_one [] e = tt
loads_one (c ∷ cs) e = (e.0, loads_one cs e.1)

pub elsewhere_one : (xs : List Load) → Each One xs → Each One (map elsewhere xs)
elsewhere_one [] e = tt
elsewhere_one (x ∷ xs) e = (e.0, elsewhere_one xs e.1)

-- The searches

sound_is : (y : Limits) (clock : ℕ) (xs : List Load) → Each One xs → sound y clock xs ≡ sound_before y clock xs
unfolding sound
sound_is y clock xs e = ap (λ (f : ℕ → ℕ → ℕ). from_on clock xs (λ t. sound_counts y (λ l. f l t))) (count-is xs e)

module _ (xs : List Load) (e : Each One xs) where
  pub earliest_is : (y : Limits) (clock : ℕ) (a : Draw) → a.rate ≡ 1 → earliest y clock xs a ≡ earliest_before y clock xs a
  unfolding earliest
  earliest_is y clock a h =
      ap (λ (f : ℕ → Bool). first f (suc (last_until xs - clock)) clock)
      (fun_ext (λ s. sound_is y clock (added xs a s) (one_more xs a s e h)))

  pub fits-is : (w : ℕ) (cap : Caps) (s : ℕ) (c : Charge) → c.rate ≡ 1 → fits_at w cap xs s c ≡ fits_before w cap xs s c
  fits-is w cap s c h =
      ap
      (λ (r : ℕ).
      throughout (λ t. leb (count xs c.line t + r) (cap c.line t) && leb (whole_of (counts xs t) + r) w) c.active_time s)
      h
      ∙ ap
      (λ (f : ℕ → ℕ → ℕ).
      throughout (λ t. leb (f c.line t + 1) (cap c.line t) && leb (whole_of (λ l. f l t) + 1) w) c.active_time s)
      (count-is xs e)

  pub unbalanced_is : (y : Limits) (clock : ℕ) → first_unbalanced y clock xs ≡ unbalanced_before y clock xs
  unfolding first_unbalanced
  unbalanced_is y clock =
      ap (λ (f : ℕ → ℕ → ℕ). first (λ t. not (balanced y.bound (λ l. f l t))) (last_until xs - clock) clock) (count-is xs e)
