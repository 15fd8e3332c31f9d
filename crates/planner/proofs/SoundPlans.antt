-- A plan is sound exactly where the limit is kept and the lines are in balance in every minute from the clock on.
use mathlib.Core.Path.{◌≡◌, refl, ap, sym, ◌∙◌}
use Prim.Native.Nat.{ℕ, ◌-◌}
use mathlib.Core.Bool.{Bool, true, false, true≢false}
use mathlib.Core.List.{List}
use lib.Dec.{eqb}
use Rattle.rules.specs.Load.{Load, last_until, Limits, limit_at, balance_at, sound_at, from_on, sound}
use Rattle.rules.specs.Search.{first_unbalanced}
use Rattle.rules.proofs.Ranges.{and_left, and_right, and_both, fails, throughout_at, throughout_all}
use Rattle.std.specs.Prelude.{Option, Some, None, is_some, Result, Ok, Err, is_ok}
use Rattle.profile.specs.Shows.{Profile, Shows, found_at}
use Rattle.profile.specs.Balance.{WithinLimit, Unbalanced}
use Rattle.planner.proofs.Causes.{none_unbalanced, some_unbalanced}
use Rattle.planner.specs.declared.cause.Cause.{Cause}
use Rattle.planner.specs.declared.cause.Cause.TheVariants.{NoStart, AllowanceSpent, StartBelowClock, EndsLater, AboveLimit, AboveBound, LatenessNotSmaller}
use Rattle.planner.specs.Causes.{cause_in}
use Rattle.planner.specs.Judged.{broken}

module _ (y : Limits) (clock : ℕ) (xs : List Load) where
  sound_limit : sound y clock xs ≡ true → from_on clock xs (limit_at y xs) ≡ true
  unfolding sound
  sound_limit h =
      throughout_all (limit_at y xs) (last_until xs - clock) clock
      (λ t p q. and_left (limit_at y xs t) (balance_at y xs t) (throughout_at (sound_at y xs) (last_until xs - clock) clock h t p q))

  sound_balance : sound y clock xs ≡ true → from_on clock xs (balance_at y xs) ≡ true
  unfolding sound
  sound_balance h =
      throughout_all (balance_at y xs) (last_until xs - clock) clock
      (λ t p q. and_right (limit_at y xs t) (balance_at y xs t) (throughout_at (sound_at y xs) (last_until xs - clock) clock h t p q))

  sound_both : from_on clock xs (limit_at y xs) ≡ true → from_on clock xs (balance_at y xs) ≡ true → sound y clock xs ≡ true
  unfolding sound
  sound_both h l =
      throughout_all (sound_at y xs) (last_until xs - clock) clock
      (λ t p q.
      and_both (limit_at y xs t) (balance_at y xs t) (throughout_at (limit_at y xs) (last_until xs - clock) clock h t p q)
      (throughout_at (balance_at y xs) (last_until xs - clock) clock l t p q))

  -- sound is what breaks neither
  pub sound_broken : sound y clock xs ≡ eqb (broken y clock xs) 0
  sound_broken = go (from_on clock xs (limit_at y xs)) (from_on clock xs (balance_at y xs)) refl refl
    where
      go :
          (within balanced : Bool) → from_on clock xs (limit_at y xs) ≡ within → from_on clock xs (balance_at y xs) ≡ balanced →
          sound y clock xs ≡ eqb (broken y clock xs) 0
      go true true e f = sound_both e f ∙ rw (e, f)
      go true false e f = fails (sound y clock xs) (λ h. true≢false (sym (sound_balance h) ∙ f)) ∙ rw (e, f)
      go false balanced e f = fails (sound y clock xs) (λ h. true≢false (sym (sound_limit h) ∙ e)) ∙ rw e

-- there is no cause
pub no_cause : (r : Result (Unit {0}) Cause) → is_ok r ≡ eqb (cause_in r) 0
no_cause (Ok u) = refl
no_cause (Err NoStart) = refl
no_cause (Err AllowanceSpent) = refl
no_cause (Err StartBelowClock) = refl
no_cause (Err EndsLater) = refl
no_cause (Err AboveLimit) = refl
no_cause (Err AboveBound) = refl
no_cause (Err LatenessNotSmaller) = refl

-- What a profile of the loads says

module _ (y : Limits) (clock : ℕ) (xs : List Load) {p : Profile} (shows : Shows p clock xs) {within : Bool} (kept_by : WithinLimit p y.limit y.site within) where
  kept : from_on clock xs (limit_at y xs) ≡ within
  kept = sym (kept_by clock xs y.bound y.others shows)

  pub loads_above : within ≡ false → 5 ≡ broken y clock xs
  loads_above e = rw (kept ∙ e)

  module _ (first : Option ℕ) (found_by : Unbalanced p y.bound first) where
    found : first_unbalanced y clock xs ≡ found_at first
    found = found_by clock xs y.limit y.site y.others shows

    pub loads_unbalanced : within ≡ true → is_some first ≡ true → 6 ≡ broken y clock xs
    loads_unbalanced e h = go first refl h
      where
        go : (o : Option ℕ) → first ≡ o → is_some o ≡ true → 6 ≡ broken y clock xs
        go (Some x) m s = rw (kept ∙ e, some_unbalanced y clock xs x (found ∙ ap found_at m))
        go None m s = absurd (true≢false (sym s))

    pub loads_kept : within ≡ true → is_some first ≡ false → 0 ≡ broken y clock xs
    loads_kept e h = go first refl h
      where
        go : (o : Option ℕ) → first ≡ o → is_some o ≡ false → 0 ≡ broken y clock xs
        go (Some x) m s = absurd (true≢false s)
        go None m s = rw (kept ∙ e, none_unbalanced y clock xs (found ∙ ap found_at m))
