-- A walk over the steps, from the step of the first minute on: in each step a test passes in every minute, or it fails.
use Prim.Native.Nat.{ℕ, ◌+◌, ◌≤◌, ◌<◌, max}
use mathlib.Core.Path.{◌≡◌, sym, ap, subst}
use mathlib.Core.Bool.{Bool, true}
use mathlib.Core.Logic.{⊎_elim}
use native.Mathlib.Omega.{arith}
use lib.ListN.{length, get_or}
use Rattle.rules.proofs.Ranges.{below_or_not}
use Rattle.std.specs.Prelude.{None}
use Rattle.profile.specs.Steps.{minutes_of, In, Rising}
use Rattle.profile.specs.Shows.{Profile}
use Rattle.profile.specs.declared.steps.Step.{Step}
use Rattle.profile.proofs.Levels.{at_step, in_more, same_or_not}
use Rattle.search.specs.Rooms.{Visit, FailsAt, FailsIn}
use Rattle.search.proofs.Later.{IsStep}

-- of the minutes from `from` on and below `until` those before step i pass the test
pub record Walk (f : ℕ → Bool) (p : Profile) (from until i : ℕ) : Type 0 where
  pub passed : (v : ℕ) → from ≤ v → v < until → (i < length p → v < get_or (minutes_of p) i 0) → f v ≡ true

-- the walk begins in the step of minute `from`
pub walk_begin :
    {f : ℕ → Bool} {p : Profile} {from until step i : ℕ} → i ≡ step → In p step from → Walk f p from until i
walk_begin e h = rw e (record { passed = λ v a b c. absurd (omega (arith, h.begun, c h.below)) })

-- the walk looks at step k, from minute t on
module _ {p : Profile} {from step k i : ℕ} {held : Step} (r : Rising p) (start : In p step from)
    (turn : IsStep p k i held) (low : step ≤ k) (t : ℕ) (begins : t ≡ max held.minute from) where
  -- it lies in the step
  walk_inside : In p i t
  walk_inside =
      rw turn.number
      (⊎_elim
      (λ e.
      let q : from ≡ t = omega (arith, start.begun, turn.minute, ap (λ (x : ℕ). get_or (minutes_of p) x 0) e) in
      subst (λ (x : ℕ). In p x t) (sym e) (subst (λ (x : ℕ). In p step x) q start))
      (λ ne.
      let q : get_or (minutes_of p) k 0 ≡ t = omega (arith, turn.minute, start.later k (omega (arith, ne, low)) turn.below) in
      subst (λ (x : ℕ). In p k x) q (at_step p k r turn.below))
      (same_or_not k step))

  pub walk_visit : {until : ℕ} → t < until → Visit p until i held t
  walk_visit more = record { rises = r; inside = walk_inside; high = more; item = rw turn.number turn.item }

  module _ {f : ℕ → Bool} {until : ℕ} (w : Walk f p from until k) where
    -- every minute before it passes
    pub walk_passed : (v : ℕ) → from ≤ v → v < until → v < t → f v ≡ true
    walk_passed v a b c = w.passed v a b (λ h. omega (arith, turn.minute))

    -- a minute of this step fails
    pub walk_fails : {m n j : ℕ} → FailsAt f p t until m i → n ≡ m → j ≡ i → FailsAt f p from until n j
    walk_fails x same here =
        rw (same, here)
        (record {
          low = omega (arith, x.low);
          high = x.high;
          passed = λ v a b. ⊎_elim (λ c. walk_passed v a (omega (arith, x.high)) c) (λ c. x.passed v c b) (below_or_not v t);
          inside = x.inside;
          fails = x.fails;
        })

    -- none does
    pub walk_on : {next : ℕ} → next ≡ k + 1 → FailsIn f p until i t None → Walk f p from until next
    walk_on e all =
        rw e
        (record {
          passed = λ v a b c.
              ⊎_elim
              (λ d. walk_passed v a b d)
              (λ d. all v d b (in_more v r walk_inside d (rw turn.number c)))
              (below_or_not v t);
        })

-- there is no step left
pub walk_done :
    {f : ℕ → Bool} {p : Profile} {from until i : ℕ} → Walk f p from until i → length p ≤ i → (v : ℕ) → from ≤ v → v < until → f v ≡ true
walk_done w h v a b = w.passed v a b (λ c. absurd (omega arith))
