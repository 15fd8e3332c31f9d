-- Step functions: the step of a minute, and the levels of its step.
use Prim.Native.Nat.{ℕ, zero, suc, ◌+◌, ◌-◌, ◌≤◌, ◌<◌}
use mathlib.Core.Path.{◌≡◌, refl, sym, ◌∙◌, ap}
use mathlib.Core.Bool.{Bool, true, false, cond}
use mathlib.Core.Logic.{◌⊎◌, inl, inr, ⊎_elim}
use native.Mathlib.Nat.{eq-or-lt_of_le}
use native.Mathlib.Omega.{arith}
use borrow.Author.Tests.{le-leb, lt-leb, eqb-true, eqb-false}
use lib.Dec.{eqb}
use lib.ListN.{length, get_or}
use Rattle.profile.specs.Steps.{minutes_of, level_at, In, Rising}
use Rattle.profile.specs.Shows.{Profile, line_of, levels, first_minute, last_minute, Formed}
use Rattle.profile.proofs.Lines.{Respects}
use Rattle.rules.proofs.Ranges.{below_or_not}

pub same_or_not : (a b : ℕ) → (a ≡ b) ⊎ (a ≡ b → ⊥)
same_or_not a b = go (eqb a b) refl
  where
    go : (x : Bool) → eqb a b ≡ x → (a ≡ b) ⊎ (a ≡ b → ⊥)
    go true e = inl (eqb-true a b e)
    go false e = inr (eqb-false a b e)

-- steps rise: what is below one is below all later
pub all_later :
    (p : Profile) (h t : ℕ) → Rising p → t < get_or (minutes_of p) h 0 → (j : ℕ) → h ≤ j → j < length p → t < get_or (minutes_of p) j 0
all_later p h t r lt j a b =
    ⊎_elim (λ q. omega (arith, lt, ap (λ (i : ℕ). get_or (minutes_of p) i 0) q)) (λ l. omega (arith, lt, r h j l b)) (eq-or-lt_of_le a)

pub rising_le : (p : Profile) → Rising p → (i j : ℕ) → i ≤ j → j < length p → get_or (minutes_of p) i 0 ≤ get_or (minutes_of p) j 0
rising_le p r i j a b = ⊎_elim (λ q. omega (arith, ap (λ (i : ℕ). get_or (minutes_of p) i 0) q)) (λ l. omega (arith, r i j l b)) (eq-or-lt_of_le a)

-- the level is that of the step
pub level_in : (p : Profile) (cs : ℕ → ℕ) {i t : ℕ} → In p i t → level_at (minutes_of p) cs (length p) t ≡ cs i
level_in p cs {i} {t} h = go (length p) h.below h.later
  where
    go : (n : ℕ) → i < n → ((j : ℕ) → i < j → j < n → t < get_or (minutes_of p) j 0) → level_at (minutes_of p) cs n t ≡ cs i
    go zero below later = absurd (omega arith)
    go (suc m) below later =
        let most : i ≤ m = omega arith in
        ⊎_elim
        (λ (q : i ≡ m).
        ap (λ (b : Bool). cond b (cs m) (level_at (minutes_of p) cs m t))
        (le-leb (get_or (minutes_of p) m 0) t (omega (arith, h.begun, ap (λ (k : ℕ). get_or (minutes_of p) k 0) q)))
        ∙ ap cs (sym q))
        (λ l.
        ap (λ (b : Bool). cond b (cs m) (level_at (minutes_of p) cs m t)) (lt-leb (get_or (minutes_of p) m 0) t (later m l (omega arith)))
        ∙ go m l (λ j a b. later j a (omega arith)))
        (eq-or-lt_of_le most)

-- each minute from the first on lies in a step
pub record Place (p : Profile) (t : ℕ) : Type 0 where
  pub step : ℕ
  pub inside : In p step t

pub step_of : (p : Profile) (t : ℕ) → 1 ≤ length p → first_minute p ≤ t → Place p t
step_of p t some low = go (length p) (omega arith) (λ j a b. absurd (omega arith))
  where
    -- the steps from step n on begin behind t
    go : (n : ℕ) → n ≤ length p → ((j : ℕ) → n ≤ j → j < length p → t < get_or (minutes_of p) j 0) → Place p t
    go zero most behind = absurd (omega (arith, low, behind 0 (omega arith) some))
    go (suc m) most behind =
        ⊎_elim
        (λ lt.
        go m (omega arith)
        (λ j a b.
        ⊎_elim (λ q. omega (arith, lt, ap (λ (i : ℕ). get_or (minutes_of p) i 0) q)) (λ l. behind j (omega arith) b) (eq-or-lt_of_le a)))
        (λ ge. record { step = m; inside = record { below = omega arith; begun = ge; later = λ j a b. behind j (omega arith) b } })
        (below_or_not t (get_or (minutes_of p) m 0))

-- the beginning of a step lies in it
pub at_step : (p : Profile) (i : ℕ) → Rising p → i < length p → In p i (get_or (minutes_of p) i 0)
at_step p i r h = record { below = h; begun = omega arith; later = λ j a b. r i j a b }

pub last_step : (p : Profile) (t : ℕ) → 1 ≤ length p → last_minute p ≤ t → In p (length p - 1) t
last_step p t h a = record { below = omega arith; begun = a; later = λ j x y. absurd (omega arith) }

-- a step goes on up to the next
pub in_more :
    {p : Profile} {i t : ℕ} (v : ℕ) → Rising p → In p i t → t ≤ v → (i + 1 < length p → v < get_or (minutes_of p) (i + 1) 0) → In p i v
in_more {p} {i} v r h a b =
    record {
      below = h.below;
      begun = omega (arith, h.begun);
      later = λ j x y. all_later p (i + 1) v r (b (omega arith)) j (omega arith) y;
    }

-- a test of the lines' levels goes by the counts of the step
pub level_test :
    {test : (ℕ → ℕ) → Bool} → Respects test → (p : Profile) {i t : ℕ} → In p i t → test (levels p t) ≡ test (λ l. line_of p l i)
level_test same p {i} {t} h = same _ _ (λ l hl. level_in p (line_of p l) h)

-- the first minute of a step is not below the first
pub step_from : {p : Profile} {i : ℕ} → Formed p → i < length p → first_minute p ≤ get_or (minutes_of p) i 0
step_from {p} {i} f h = rising_le p f.rises 0 i (omega arith) h
