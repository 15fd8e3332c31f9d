-- What is told of a ticket by the charges that are asked: nothing where none has it, and by their places.
use mathlib.Core.Path.{◌≡◌, refl}
use Prim.Native.Nat.{ℕ, zero, suc}
use mathlib.Core.Bool.{Bool, true, false, cond, ◌||◌, true≢false}
use mathlib.Core.List.{List, [], ◌∷◌}
use lib.Dec.{eqb}
use Rattle.rules.specs.Basics.{tabulate, Found, at, nothing, first, some}
use Rattle.rules.specs.Charge.{Charge, has_ticket}
use Rattle.rules.specs.Calls.{Answer, refused, told}
use Rattle.site.specs.Answers.{told_charge}

-- nothing is told of a ticket that no charge has
pub told_nobody : (clock t : ℕ) (cs : List Charge) → some (has_ticket t) cs ≡ false → told clock cs t ≡ refused 15
told_nobody clock t [] e = refl
told_nobody clock t (c ∷ cs) e = go (has_ticket t c) e (told_nobody clock t cs)
  where
    go :
        (b : Bool)
        → b || some (has_ticket t) cs ≡ false
        → (some (has_ticket t) cs ≡ false → told clock cs t ≡ refused 15)
        → cond b (told_charge clock c) (told clock cs t) ≡ refused 15
    go true z later = absurd (true≢false z)
    go false z later = later z

-- The charges of a feeder, by their places

module _ (g : ℕ → Charge) (clock ticket : ℕ) where
  abbrev told_at : Found → Answer
  told_at (at i) = told_charge clock (g i)
  told_at nothing = refused 15

  told_first : (k a : ℕ) → told clock (tabulate g k a) ticket ≡ told_at (first (λ i. eqb (g i).ticket ticket) k a)
  told_first zero a = refl
  told_first (suc k) a =
      rw (told_first k (suc a)) (go (eqb (g a).ticket ticket) (first (λ i. eqb (g i).ticket ticket) k (suc a)))
    where
      go : (b : Bool) (o : Found) → cond b (told_charge clock (g a)) (told_at o) ≡ told_at (elim b as (λ x. Found) [ true ↦ at a | false ↦ o ])
      go true o = refl
      go false o = refl

  -- of the charge that was found
  pub told_found : (n : ℕ) {k : ℕ} → first (λ i. eqb (g i).ticket ticket) n 0 ≡ at k → told clock (tabulate g n 0) ticket ≡ told_charge clock (g k)
  told_found n e = rw (told_first n 0, e)
