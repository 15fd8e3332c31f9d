-- The search over starts skips none that passes the test.
use Prim.Native.Nat.{ℕ, ◌+◌, ◌-◌, ◌≤◌, ◌<◌, max, min}
use mathlib.Core.Path.{◌≡◌, sym, ◌∙◌, subst}
use mathlib.Core.Bool.{Bool, true, false, true≢false}
use mathlib.Core.Logic.{⊎_elim}
use native.Mathlib.Omega.{arith}
use lib.ListN.{length, get_or}
use Rattle.std.specs.Prelude.{Option, Some}
use Rattle.rules.proofs.Ranges.{below_or_not}
use Rattle.profile.specs.Steps.{minutes_of, In}
use Rattle.profile.specs.Shows.{Profile, last_minute}
use Rattle.profile.proofs.Levels.{at_step, in_more, rising_le}
use Rattle.search.specs.Rooms.{FailsAt, Least, CanSeek, Tried, Tests, Settled, FailsBelow, FirstPassing}
use Rattle.search.specs.declared.walk.Failing.{Failing}
use Rattle.search.proofs.Rooms.{told_at}

-- the search has come to start s, which lies in step i unless it reaches `until`
pub record Reached (p : Profile) (time start until i s : ℕ) : Type 0 where
  pub low : start ≤ s
  pub high : s ≤ max start (last_minute p)
  pub here : s + time ≤ until → In p i s

-- by the minutes below `until` no start before s passes
abbrev pub Failed : (ℕ → Bool) → ℕ → ℕ → ℕ → ℕ → Type 0
Failed f time start until s = (j : ℕ) → start ≤ j → j < s → FailsBelow f time j until

module _ {p : Profile} {time start until i s : ℕ} (w : Reached p time start until i s) (more : s + time ≤ until) where
  pub reached_tried : Tried p time start until s i
  reached_tried = record { low = w.low; inside = w.here more; ends = more }

  module _ {answers : ℕ → ℕ → Option Failing → Type 0} {r : Option Failing} (told : answers s i r) where
    -- a minute fails
    module _ (can : CanSeek p time start) (m : Failing) (e : r ≡ Some m) where
      failing : (f : ℕ → Bool) → Tests answers p time start until f → FailsAt f p s (s + time) m.minute m.step
      failing f h = told_at f p s (s + time) r m (h s i reached_tried r told) e

      module _ (k : Settled answers p time start until) where
        x : FailsAt k.passes p s (s + time) m.minute m.step
        x = failing k.passes k.tests

        -- not in the last step
        pub passing_below : m.step + 1 < length p
        passing_below = ⊎_elim (λ c. c) (λ c. absurd (true≢false (last c))) (below_or_not (m.step + 1) (length p))
          where
            last : length p ≤ m.step + 1 → true ≡ false
            last c =
                let q : m.step ≡ length p - 1 = omega (arith, x.inside.below) in
                sym (k.rests m.minute (subst (λ (v : ℕ). In p v m.minute) q x.inside))
                ∙ x.fails m.minute (omega arith) x.inside

        end : m.minute < get_or (minutes_of p) (m.step + 1) 0
        end = x.inside.later (m.step + 1) (omega arith) passing_below

        -- the next start is the end of the step, as far as `until`
        module _ {u : ℕ} (begins : u ≡ min (get_or (minutes_of p) (m.step + 1) 0) until) where
          pub reached_on : {j : ℕ} → j ≡ m.step + 1 → Reached p time start until j u
          reached_on next =
              let last = rising_le p can.formed.rises (m.step + 1) (length p - 1) (omega (arith, passing_below)) (omega (arith, passing_below)) in
              record {
                low = omega (arith, w.low, x.low, end);
                high = omega (arith, last);
                here = λ c.
                    let q : u ≡ get_or (minutes_of p) (m.step + 1) 0 = omega (arith, x.low, x.high) in
                    rw (next, q) (at_step p (m.step + 1) can.formed.rises passing_below);
              }

          -- every start up to there has a minute that fails
          pub failed_on : (f : ℕ → Bool) → Tests answers p time start until f → Failed f time start until s → Failed f time start until u
          failed_on f h failed v a b =
              ⊎_elim
              (λ c. failed v a c)
              (λ c. ⊎_elim
              (λ d.
              record {
                minute = v;
                low = omega arith;
                high = omega (arith, x.low, x.high);
                below = omega arith;
                fails = y.fails v (omega arith) (in_more v can.formed.rises y.inside (omega arith) (λ z. omega arith));
              })
              (λ d.
              record {
                minute = m.minute;
                low = d;
                high = omega (arith, x.high);
                below = omega (arith, x.high);
                fails = y.fails m.minute (omega arith) y.inside;
              })
              (below_or_not m.minute v))
              (below_or_not v s)
            where
              y : FailsAt f p s (s + time) m.minute m.step
              y = failing f h

-- Where every candidate is tested, the answer is the smallest start that passes in all its minutes

pub passing_least :
    {f : ℕ → Bool} (p : Profile) {time start until r : ℕ} → start ≤ last_minute p → FirstPassing f time start until r → r ≤ max start (last_minute p)
    → last_minute p + time ≤ until → Least f time start r × (r ≤ last_minute p)
passing_least p high h most all = (
  record {
    low = h.low;
    passes = h.passes (omega arith);
    failed = λ s c d. let x = h.failed s c d in record { minute = x.minute; low = x.low; high = x.high; fails = x.fails };
  },
  omega arith,
)
