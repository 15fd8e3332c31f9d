-- Counts within both limits and the bound, and what a load adds to them.
use Prim.Native.Nat.{ℕ}
use mathlib.Core.Path.{◌≡◌, ◌∙◌}
use mathlib.Core.Bool.{Bool, true}
use mathlib.Core.List.{List}
use native.Mathlib.Omega.{arith}
use Rattle.rules.specs.Load as rules
use Rattle.rules.specs.Load.{Load, IsColumn, share, whole_of, sound_counts}
use Rattle.rules.proofs.Counts.{share_most, whole_share, sound_all, sound_few}
use Rattle.profile.specs.declared.loads.Draw.{Draw}
use Rattle.profile.proofs.Lines.{line_column, line_one, line_two, line_three, sound_tests}
use Rattle.search.specs.Numbers.{limits_beside, with_draw, SoundAlone}
use Rattle.search.specs.declared.limits.Limits.{Limits}

-- soundness goes by the counts of the lines and of the other feeders alone
pub sound_as : (y : rules.Limits) (f g : ℕ → ℕ) {r : Bool} → r ≡ sound_counts y f → ((l : ℕ) → IsColumn l → f l ≡ g l) → r ≡ sound_counts y g
sound_as y f g e same = e ∙ sound_tests y f g same

-- all that is drawn goes by the lines and the other feeders alone
pub whole_columns : (f g : ℕ → ℕ) → ((l : ℕ) → IsColumn l → f l ≡ g l) → whole_of f ≡ whole_of g
whole_columns f g e =
    omega (arith, e 1 (line_column 1 line_one), e 2 (line_column 2 line_two), e 3 (line_column 3 line_three), e 4 (record { low = omega arith; high = omega arith }))

-- where nothing is drawn on any line, nor elsewhere
pub whole_none : (f : ℕ → ℕ) → ((l : ℕ) → IsColumn l → f l ≡ 0) → whole_of f ≡ 0
whole_none f z = whole_columns f (λ l. 0) z

-- a charge alone
pub alone_sound :
    {y : Limits} {a : Draw} (others : List Load) (f : ℕ → ℕ) → SoundAlone y a → ((l : ℕ) → IsColumn l → f l ≡ 0)
    → sound_counts (limits_beside y others) (with_draw f a) ≡ true
alone_sound {y} {a} others f h empty =
    sound_tests (limits_beside y others) (with_draw f a) (share a.line a.rate) (λ l j. omega (arith, empty l j))
    ∙ sound_all (limits_beside y others) (share a.line a.rate)
    (sound_few (limits_beside y others) (share a.line a.rate) a.rate h.within_limit h.within_site_lem h.within_bound
    (share_most a.line a.rate) (whole_share a.line a.rate))
