-- Facts of each line and column from those of lines 1 to 4, and tests that go by these counts alone.
use Prim.Native.Nat.{ℕ, zero, suc}
use mathlib.Core.Path.{◌≡◌}
use mathlib.Core.Bool.{Bool, ◌&&◌}
use native.Mathlib.Omega.{arith}
use Rattle.rules.specs.Load.{Limits, IsLine, IsColumn, limited, whole_of, within_site, balanced, sound_counts}
use Rattle.rules.proofs.Ranges.{same_test}
use Rattle.rules.proofs.Counts.{limited_at, limited_all, within_at, within_all, balanced_at, balanced_all}

-- what holds of lines 1, 2 and 3 holds of each line
pub each_line : (P : ℕ → Type 0) → P 1 → P 2 → P 3 → (l : ℕ) → IsLine l → P l
each_line P a b c zero h = absurd (omega (arith, h.low))
each_line P a b c (suc zero) h = a
each_line P a b c (suc (suc zero)) h = b
each_line P a b c (suc (suc (suc zero))) h = c
each_line P a b c (suc (suc (suc (suc l)))) h = absurd (omega (arith, h.high))

-- the same with the fourth, which stands for the other feeders
pub each_column : (P : ℕ → Type 0) → P 1 → P 2 → P 3 → P 4 → (l : ℕ) → IsColumn l → P l
each_column P a b c d zero h = absurd (omega (arith, h.low))
each_column P a b c d (suc zero) h = a
each_column P a b c d (suc (suc zero)) h = b
each_column P a b c d (suc (suc (suc zero))) h = c
each_column P a b c d (suc (suc (suc (suc zero)))) h = d
each_column P a b c d (suc (suc (suc (suc (suc l))))) h = absurd (omega (arith, h.high))

pub line_column : (l : ℕ) → IsLine l → IsColumn l
line_column l h = record { low = h.low; high = omega (arith, h.high) }

pub line_one : IsLine 1
line_one = record { low = omega arith; high = omega arith }

pub line_two : IsLine 2
line_two = record { low = omega arith; high = omega arith }

pub line_three : IsLine 3
line_three = record { low = omega arith; high = omega arith }

-- a test that goes by the counts of the lines alone
abbrev pub Respects : ((ℕ → ℕ) → Bool) → Type 0
Respects test = (f g : ℕ → ℕ) → ((l : ℕ) → IsColumn l → f l ≡ g l) → test f ≡ test g

pub limited_tests : (n : ℕ) → Respects (limited n)
limited_tests n f g e =
    same_test (limited n f) (limited n g)
    (λ h. limited_all n g (λ l j. rw (← e l (line_column l j)) (limited_at n f h l j)))
    (λ h. limited_all n f (λ l j. rw (e l (line_column l j)) (limited_at n g h l j)))

pub balanced_tests : (d : ℕ) → Respects (balanced d)
balanced_tests d f g e =
    same_test (balanced d f) (balanced d g)
    (λ h. balanced_all d g (λ l m j i. omega (arith, e l (line_column l j), e m (line_column m i), balanced_at d f h l m j i)))
    (λ h. balanced_all d f (λ l m j i. omega (arith, e l (line_column l j), e m (line_column m i), balanced_at d g h l m j i)))

pub within_tests : (w : ℕ) → Respects (within_site w)
within_tests w f g e =
    let same : whole_of f ≡ whole_of g
    = omega (arith, e 1 (record { low = omega arith; high = omega arith }), e 2 (record { low = omega arith; high = omega arith }), e 3 (record { low = omega arith; high = omega arith }), e 4 (record { low = omega arith; high = omega arith })) in
    same_test (within_site w f) (within_site w g)
    (λ h. within_all w g (omega (arith, within_at w f h)))
    (λ h. within_all w f (omega (arith, within_at w g h)))

-- both limits
pub limits_tests : (n w : ℕ) → Respects (λ f. limited n f && within_site w f)
limits_tests n w f g e = rw (limited_tests n f g e, within_tests w f g e)

pub sound_tests : (y : Limits) → Respects (sound_counts y)
sound_tests y f g e = rw (limited_tests y.limit f g e, within_tests y.site f g e, balanced_tests y.bound f g e)
