-- The minutes that are not sound, by the first and the last step that is not.
use Prim.Native.Nat.{ℕ, ◌+◌, ◌-◌, ◌≤◌, ◌<◌}
use mathlib.Core.Path.{◌≡◌, sym, ◌∙◌, ap}
use mathlib.Core.Bool.{Bool, true, true≢false}
use mathlib.Core.List.{[]}
use mathlib.Core.Logic.{⊎_elim}
use native.Mathlib.Omega.{arith}
use lib.ListN.{length, get_or}
use Rattle.std.specs.Prelude.{Some, None}
use Rattle.std.specs.declared.ops.Range.{Range}
use Rattle.rules.proofs.Ranges.{below_or_not}
use Rattle.rules.proofs.Counts.{sound_all}
use Rattle.rules.specs.Load.{sound_counts}
use Rattle.profile.specs.Steps.{minutes_of, counts_of, empty_step, In}
use Rattle.profile.specs.Shows.{Profile, line_of, Formed}
use Rattle.profile.specs.declared.steps.Step.{Step}
use Rattle.profile.proofs.Lines.{line_column, sound_tests}
use Rattle.profile.proofs.Levels.{at_step, in_more, rising_le, step_of, step_from, level_test}
use Rattle.search.specs.Numbers.{limits_beside}
use Rattle.search.specs.Starts.{EndsEmpty, sound_in, UnsoundMinutes}
use Rattle.search.specs.declared.limits.Limits.{Limits}
use Rattle.search.proofs.Places.{FirstAt, LastAt, AllPass}
use Rattle.search.proofs.Sounds.{whole_none}

-- a step is sound
abbrev pub is_sound : Limits → Step → Bool
is_sound y s = sound_counts (limits_beside y []) (counts_of s)

abbrev sound_step : Profile → Limits → ℕ → Bool
sound_step p y i = is_sound y (get_or p i (empty_step 0))

module _ {p : Profile} (y : Limits) (f : Formed p) where
  -- a minute is as sound as its step
  minute_step : (i t : ℕ) → In p i t → sound_in p y t ≡ sound_step p y i
  minute_step i t h = level_test (sound_tests (limits_beside y [])) p h

  -- the steps from step i up to k are sound, and so are their minutes
  minutes_sound :
      (i k : ℕ) → i < length p → ((j : ℕ) → i ≤ j → j < k → j < length p → sound_step p y j ≡ true)
      → (t : ℕ) → get_or (minutes_of p) i 0 ≤ t → (k < length p → t < get_or (minutes_of p) k 0) → sound_in p y t ≡ true
  minutes_sound i k below all t a b =
      let s = step_of p t f.some (omega (arith, step_from f below)) in
      minute_step s.step t s.inside
      ∙ all s.step
      (⊎_elim (λ c. absurd (omega (arith, s.inside.later i c below))) (λ c. c) (below_or_not s.step i))
      (⊎_elim
      (λ c. c)
      (λ c. ⊎_elim
      (λ d. absurd (omega (arith, b d, s.inside.begun, rising_le p f.rises k s.step c s.inside.below)))
      (λ d. absurd (omega (arith, s.inside.below)))
      (below_or_not k (length p)))
      (below_or_not s.step k))
      s.inside.below

  -- the last step is sound, since nothing is drawn in it
  last_sound : EndsEmpty p → sound_step p y (length p - 1) ≡ true
  last_sound z =
      sound_all (limits_beside y []) (λ l. line_of p l (length p - 1))
      (record {
        limit = λ l j. omega (arith, z l (line_column l j));
        site = omega (arith, whole_none (λ l. line_of p l (length p - 1)) z);
        balance = λ l m j k. omega (arith, z l (line_column l j));
      })

  -- a step that is not sound is not the last one
  pub unsound_below : {k : ℕ} → EndsEmpty p → LastAt (is_sound y) (empty_step 0) p k → k + 1 < length p
  unsound_below {k} z h =
      ⊎_elim
      (λ c. c)
      (λ c.
      let e : k ≡ length p - 1 = omega (arith, h.inside) in
      absurd (true≢false (sym (last_sound z) ∙ sym (ap (sound_step p y) e) ∙ h.fails)))
      (below_or_not (k + 1) (length p))

  -- every step is sound
  pub unsound_nowhere : AllPass (is_sound y) (empty_step 0) p → UnsoundMinutes p y None
  unsound_nowhere all =
      record { answer = λ t a. minutes_sound 0 (length p) f.some (λ j b c d. all j d) t a (λ d. absurd (omega arith)) }

  -- i is the first step that is not, and k the last
  pub unsound_from :
      {i k : ℕ} {minutes : Range ℕ} → EndsEmpty p → FirstAt (is_sound y) (empty_step 0) p i → LastAt (is_sound y) (empty_step 0) p k
      → minutes.start ≡ get_or (minutes_of p) i 0 → minutes.end ≡ get_or (minutes_of p) (k + 1) 0 → UnsoundMinutes p y (Some minutes)
  unsound_from {i} {k} {minutes} z first last begins ends =
      record {
        answer =
            record {
              low = omega (arith, begins, step_from f first.inside);
              order = omega (arith, begins, ends, rises, order);
              high = omega (arith, ends, rising_le p f.rises (k + 1) (length p - 1) (omega (arith, next)) (omega (arith, next)));
              before = λ t a b. minutes_sound 0 i f.some (λ j c d e. first.passed j d) t a (λ c. omega (arith, begins));
              after = λ t a. minutes_sound (k + 1) (length p) next (λ j c d e. last.passed j (omega arith) e) t (omega (arith, ends)) (λ c. absurd (omega arith));
              first_fails =
                  rw begins (minute_step i (get_or (minutes_of p) i 0) (at_step p i f.rises first.inside) ∙ first.fails);
              last_fails = minute_step k (minutes.end - 1) inside ∙ last.fails;
            };
      }
    where
      next : k + 1 < length p
      next = unsound_below z last

      order : get_or (minutes_of p) i 0 ≤ get_or (minutes_of p) k 0
      order =
          rising_le p f.rises i k
          (⊎_elim (λ c. absurd (true≢false (sym (first.passed k c) ∙ last.fails))) (λ c. c) (below_or_not k i)) last.inside

      rises : get_or (minutes_of p) k 0 < get_or (minutes_of p) (k + 1) 0
      rises = f.rises k (k + 1) (omega arith) next

      inside : In p k (minutes.end - 1)
      inside = in_more (minutes.end - 1) f.rises (at_step p k f.rises last.inside) (omega (arith, ends, rises)) (λ c. omega (arith, ends, rises))
