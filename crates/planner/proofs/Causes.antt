-- The test of a plan: balance, and the first cause that applies.
use mathlib.Core.Path.{◌≡◌, sym, ◌∙◌}
use Prim.Native.Nat.{ℕ, ◌-◌}
use mathlib.Core.Bool.{Bool, true, false, not, true≢false}
use mathlib.Core.List.{List, [], ◌∷◌}
use lib.Dec.{ltb}
use borrow.Author.Tests.{not-true, not-false}
use Rattle.rules.specs.Basics.{at, nothing, some, first_of}
use Rattle.rules.specs.Load.{Load, last_until, Limits, limit_at, balance_at, from_on}
use Rattle.rules.specs.Charge.{Charge, seen, lateness}
use Rattle.rules.specs.Search.{first_unbalanced}
use Rattle.rules.specs.Judgement.{restarted, judged}
use Rattle.rules.proofs.Ranges.{fails, throughout_at, throughout_all, first_found, first-none}

-- there is no unbalanced minute exactly when every minute is in balance
pub none_unbalanced :
    (y : Limits) (clock : ℕ) (xs : List Load)
    → first_unbalanced y clock xs ≡ nothing
    → from_on clock xs (balance_at y xs) ≡ true
unfolding first_unbalanced
none_unbalanced y clock xs e =
    throughout_all (balance_at y xs) (last_until xs - clock) clock
    (λ t h j. not-false (balance_at y xs t) (first-none (λ u. not (balance_at y xs u)) (last_until xs - clock) clock e t h j))

pub some_unbalanced :
    (y : Limits) (clock : ℕ) (xs : List Load) (t : ℕ)
    → first_unbalanced y clock xs ≡ at t
    → from_on clock xs (balance_at y xs) ≡ false
unfolding first_unbalanced
some_unbalanced y clock xs t e =
    let f = first_found (λ u. not (balance_at y xs u)) (last_until xs - clock) clock t e in
    fails (from_on clock xs (balance_at y xs))
    (λ h.
    true≢false
    (sym (throughout_at (balance_at y xs) (last_until xs - clock) clock h t f.low f.high)
    ∙ not-true (balance_at y xs t) f.here))

-- the first cause that applies, from what the tests say; those behind it need not be known
pub judged_by :
    (y : Limits) (clock : ℕ) (held : List Charge) (ss : List ℕ) (new : List Charge)
    → new ≡ restarted clock held ss
    → (early later within balanced : Bool)
    → some (λ s. ltb s clock) ss ≡ early
    → ltb (last_until (seen y held)) (last_until (seen y new)) ≡ later
    → from_on clock (seen y new) (limit_at y (seen y new)) ≡ within
    → from_on clock (seen y new) (balance_at y (seen y new)) ≡ balanced
    → judged y clock held ss
    ≡ first_of
    ((early, 3)
    ∷ (later, 4)
    ∷ (not within, 5)
    ∷ (not balanced, 6)
    ∷ (not (ltb (lateness (restarted clock held ss)) (lateness held)), 7)
    ∷ [])
unfolding judged
judged_by y clock held ss new is early later within balanced a b d e = rw (← is, a, b, d, e)
