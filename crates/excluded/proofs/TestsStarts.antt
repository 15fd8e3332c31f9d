-- The test whether a start is the earliest is true exactly where it is.
use mathlib.Core.Logic.{◌⊎◌, inl, inr}
use mathlib.Core.Path.{◌≡◌, sym, ◌∙◌}
use Prim.Native.Nat.{ℕ, ◌-◌, ◌≤◌, ◌<◌}
use mathlib.Core.Bool.{true, false, not, false≢true}
use native.Mathlib.Omega.{arith}
use borrow.Author.Tests.{not-true}
use Rattle.rules.specs.Load.{Draw}
use Rattle.rules.specs.Charge.{loads_of}
use Rattle.rules.specs.Search.{added}
use Rattle.rules.specs.Site.{State, charges_on}
use Rattle.rules.proofs.Ranges.{fails, below_or_not, throughout_at, throughout_all}
use Rattle.guarantee.specs.DemandTwo.{SoundPlan, EarliestStart}
use Rattle.excluded.specs.Starts.{sound_with, no_earlier, is_earliest}
use Rattle.excluded.specs.LawsOfTests.{Tests}
use Rattle.excluded.proofs.Tests.{leb_tests, fails_tests, both_tests}
use Rattle.excluded.proofs.TestsMinutes.{plan_tests}

module _ (s : State) (f : ℕ) (a : Draw) where
  -- the plan with the start u
  abbrev Sound : ℕ → Type 0
  Sound u = SoundPlan s f (added (loads_of (charges_on s f)) a u)

  sound_tests : (u : ℕ) → Tests (sound_with s f a u) (Sound u)
  sound_tests u = plan_tests s f (added (loads_of (charges_on s f)) a u)

  pub no_earlier_tests : (start : ℕ) → Tests (no_earlier s f a start) ((u : ℕ) → s.clock ≤ u → Sound u → start ≤ u)
  no_earlier_tests start = (
    (λ e u h plan. go u h plan e (below_or_not u start)),
    (λ p.
        throughout_all (λ u. not (sound_with s f a u)) (start - s.clock) s.clock
        (λ u h j.
        (fails_tests (sound_with s f a u)).1
        (fails (sound_with s f a u) (λ e. let k : start ≤ u = p u h ((sound_tests u).0 e) in omega arith)))),
  )
    where
      go : (u : ℕ) → s.clock ≤ u → Sound u → no_earlier s f a start ≡ true → (u < start) ⊎ (start ≤ u) → start ≤ u
      go u h plan e (inl j) =
          let no : sound_with s f a u ≡ false
          = not-true (sound_with s f a u)
          (throughout_at (λ u. not (sound_with s f a u)) (start - s.clock) s.clock e u h (omega arith)) in
          absurd (false≢true (sym no ∙ (sound_tests u).1 plan))
      go u h plan e (inr j) = j

  pub earliest_tests : (start : ℕ) → Tests (is_earliest s f a start) (EarliestStart s f a start)
  earliest_tests start =
      let law = both_tests (leb_tests s.clock start) (both_tests (sound_tests start) (no_earlier_tests start)) in (
        (λ e. let p = law.0 e in record { not_early = p.0; sound = p.1.0; earliest = p.1.1 }),
        (λ p. law.1 (p.not_early, (p.sound, p.earliest))),
      )
