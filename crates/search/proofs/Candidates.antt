-- The test of a candidate start, step by step, is the rules' test.
use Prim.Native.Nat.{ℕ, ◌+◌, ◌-◌, ◌≤◌}
use mathlib.Core.Path.{◌≡◌, refl, sym, ◌∙◌, ap}
use mathlib.Core.Bool.{Bool, true, false, not}
use mathlib.Core.List.{List, []}
use native.Mathlib.Omega.{arith}
use lib.ListN.{length}
use Rattle.std.specs.Prelude.{Option, Some, None, Result, Ok, Err, IfOk, IfErr}
use Rattle.std.specs.Bool.{then_some}
use Rattle.std.specs.Result.{result_err}
use Rattle.rules.specs.Load.{Load, counts, sound_counts}
use Rattle.rules.specs.Search.{added}
use Rattle.rules.specs.Candidate.{tested_by, candidate}
use Rattle.rules.proofs.TestedStarts.{tested_fails, tested_passes, tested_same, counts_own}
use Rattle.profile.specs.Steps.{counts_of, In}
use Rattle.profile.specs.Shows.{Profile, draw_of, line_of, levels, Shows}
use Rattle.profile.specs.declared.loads.Draw.{Draw}
use Rattle.profile.specs.declared.steps.Step.{Step}
use Rattle.profile.proofs.Lines.{sound_tests}
use Rattle.search.specs.Numbers.{limits_beside, with_draw}
use Rattle.search.specs.Rooms.{Visit, FailsIn, FirstFailing}
use Rattle.search.specs.Candidates.{fits_in, EachFits, FailsFirst, TestShows, CanFit}
use Rattle.search.specs.declared.limits.Limits.{Limits}
use Rattle.search.specs.declared.walk.Failing.{Failing}
use Rattle.search.proofs.Rooms.{told_at, told_nothing}
use Rattle.search.proofs.Sounds.{alone_sound}
use Rattle.search.proofs.Within.{step_with}

-- One step

module _ {p : Profile} (y : Limits) (a : Draw) where
  -- where the counts of a step, with the charge, are sound all its minutes pass, and else it fails at once
  pub step_told :
      {until i t : ℕ} {held : Step} {b : Bool} {r : Option ℕ} → Visit p until i held t
      → b ≡ sound_counts (limits_beside y []) (with_draw (counts_of held) a) → r ≡ then_some (not b) t → FailsIn (fits_in p y a) p until i t r
  step_told {until} {i} {t} {held} {b} u sound e = rw e (told b refl)
    where
      here_is : {c : Bool} → b ≡ c → (v : ℕ) → In p i v → fits_in p y a v ≡ c
      here_is g v h = step_with p y a v h ∙ sym (rw u.item at sound) ∙ g

      told : (c : Bool) → b ≡ c → FailsIn (fits_in p y a) p until i t (then_some (not c) t)
      told true g = λ v k l h. here_is g v h
      told false g =
          record {
            low = omega arith;
            high = u.high;
            passed = λ v k l. absurd (omega arith);
            inside = u.inside;
            fails = λ v k h. here_is g v h;
          }

-- what the walk's answer says

pub told_first :
    (p : Profile) (y : Limits) (a : Draw) {start until : ℕ} {r : Option Failing} {m : Failing} → until ≡ start + a.time → r ≡ Some m
    → FirstFailing (fits_in p y a) p start until r → FailsFirst p y a start m
told_first p y a {start} all e h = rw (← all) (told_at (fits_in p y a) p start _ _ _ h e)

pub told_each :
    (p : Profile) (y : Limits) (a : Draw) {start until : ℕ} {r : Option Failing} → until ≡ start + a.time → r ≡ None
    → FirstFailing (fits_in p y a) p start until r → EachFits p y a start
told_each p y a {start} all e h = rw (← all) (told_nothing (fits_in p y a) p start _ _ h e)

-- the walk's answer, by which a search goes on
pub failing_first :
    (p : Profile) (y : Limits) (a : Draw) (start : ℕ) (v : Result Unit Failing)
    → IfOk v (λ _. EachFits p y a start) → IfErr v (λ m. FailsFirst p y a start m)
    → FirstFailing (fits_in p y a) p start (start + a.time) (result_err v)
failing_first p y a start (Ok u) fits next = fits
failing_first p y a start (Err m) fits next = next

-- in the last step the charge is alone
pub fits_rests :
    {p : Profile} {y : Limits} {a : Draw} {start : ℕ} → CanFit p y a start → (t : ℕ) → In p (length p - 1) t → fits_in p y a t ≡ true
fits_rests {p} {y} {a} can t h = step_with p y a t h ∙ alone_sound [] (λ l. line_of p l (length p - 1)) can.alone can.can.empty

-- What the answer says of the loads that a profile shows

module _ {p : Profile} (y : Limits) (a : Draw) {start : ℕ} where
  -- the rules' test of the loads is that of the levels
  levels_tested :
      (clock : ℕ) (loads others : List Load) → Shows p clock loads → clock ≤ start
      → candidate (limits_beside y others) loads (draw_of a) start ≡ tested_by (fits_in p y a) a.time start
  levels_tested clock loads others s le =
      sym
      (tested_same (fits_in p y a) _ a.time start
      (λ t i j.
      sound_tests (limits_beside y others) (with_draw (levels p t) a) (counts (added loads (draw_of a) start) t)
      (λ l k. omega (arith, s.counted l k t (omega arith), counts_own (limits_beside y others) clock loads (draw_of a) start t i j l))))

  -- the first failing minute is the last that it looks at
  pub first_shows :
      (m : Failing) → FailsFirst p y a start m → {looked : ℕ} → looked ≡ m.minute - start + 1
      → TestShows p y a start (record { verdict = Err m; looked = looked })
  first_shows m x e clock loads others s le =
      levels_tested clock loads others s le
      ∙ tested_fails (fits_in p y a) a.time start m.minute
      (record {
        low = x.low;
        high = x.high;
        passed = x.passed;
        fails = x.fails m.minute (omega arith) x.inside;
      })
      ∙ ap (λ (v : ℕ). record { fits = false; looked = v }) (omega arith)

  -- where no minute fails it looks at all
  pub each_shows :
      EachFits p y a start → {looked : ℕ} → looked ≡ a.time → TestShows p y a start (record { verdict = Ok _; looked = looked })
  each_shows h e clock loads others s le =
      levels_tested clock loads others s le
      ∙ tested_passes (fits_in p y a) a.time start h
      ∙ ap (λ (v : ℕ). record { fits = true; looked = v }) (omega arith)
