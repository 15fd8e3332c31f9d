-- Tests that are true exactly where a fact holds, and how they are put together.
use mathlib.Core.Logic.{◌⊎◌, inl, inr, ◌↔◌}
use mathlib.Core.Path.{◌≡◌, refl}
use Prim.Native.Nat.{ℕ, ◌≤◌, ◌<◌}
use mathlib.Core.Bool.{Bool, true, false, not, ◌&&◌, ◌||◌, false≢true}
use mathlib.Core.List.{List, [], ◌∷◌}
use lib.Dec.{leb, ltb, eqb}
use borrow.Author.Tests.{leb-true, ltb-true, eqb-true, le-leb, lt-ltb, eq-eqb, not-true}
use Rattle.rules.specs.Basics.{Each}
use Rattle.rules.specs.Site.{State}
use Rattle.rules.specs.Calls.{Call, refusals}
use Rattle.rules.proofs.Ranges.{and_left, and_right, and_both}
use Rattle.guarantee.specs.DemandOne.{NoneApplies}
use Rattle.excluded.specs.Same.{every, where_so, same_test}
use Rattle.excluded.specs.Free.{Free, none_applies, free}
use Rattle.excluded.specs.LawsOfTests.{Tests}

pub leb_tests : (a b : ℕ) → Tests (leb a b) (a ≤ b)
leb_tests a b = (leb-true a b, le-leb a b)

pub ltb_tests : (a b : ℕ) → Tests (ltb a b) (a < b)
ltb_tests a b = (ltb-true a b, lt-ltb a b)

pub eqb_tests : (a b : ℕ) → Tests (eqb a b) (a ≡ b)
eqb_tests a b = (eqb-true a b, eq-eqb a b)

pub every_tests :
    {A : Type 0} {f : A → Bool} {P : A → Type 0} → ((a : A) → Tests (f a) (P a)) → (l : List A) → Tests (every f l) (Each P l)
every_tests h [] = ((λ e. tt), (λ e. refl))
every_tests {f = f} h (a ∷ l) = (
  (λ e. ((h a).0 (and_left (f a) (every f l) e), (every_tests h l).0 (and_right (f a) (every f l) e))),
  (λ p. and_both (f a) (every f l) ((h a).1 p.0) ((every_tests h l).1 p.1)),
)

pub where_so_tests : {a b : Bool} {P Q : Type 0} → Tests a P → Tests b Q → Tests (where_so a b) (P → Q)
where_so_tests {a = true} h k = ((λ e p. k.0 e), (λ f. k.1 (f (h.0 refl))))
where_so_tests {a = false} h k = ((λ e p. absurd (false≢true (h.1 p))), (λ f. refl))

pub is_true : (b : Bool) → Tests b (b ≡ true)
is_true b = ((λ e. e), (λ e. e))

pub fails_tests : (b : Bool) → Tests (not b) (b ≡ false)
fails_tests b = (not-true b, (λ e. rw e))

-- of a table, that no condition applies, and of a call that none refuses
pub none_tests : (rows : List (Bool × ℕ)) → Tests (none_applies rows) (NoneApplies rows)
none_tests rows = every_tests (λ row. fails_tests row.0) rows

pub free_tests : (s : State) (c : Call) {b : Bool} {P : Type 0} → Tests b P → Tests (free s c b) (Free s c P)
free_tests s c h = where_so_tests (none_tests (refusals s c)) h

pub both_tests : {a b : Bool} {P Q : Type 0} → Tests a P → Tests b Q → Tests (a && b) (P × Q)
both_tests {a = a} {b = b} h k = (
  (λ e. (h.0 (and_left a b e), k.0 (and_right a b e))),
  (λ p. and_both a b (h.1 p.0) (k.1 p.1)),
)

pub either_tests : {a b : Bool} {P Q : Type 0} → Tests a P → Tests b Q → Tests (a || b) (P ⊎ Q)
either_tests {a = true} h k = ((λ e. inl (h.0 refl)), (λ p. refl))
either_tests {a = false} {b = b} {P = P} {Q = Q} h k = ((λ e. inr (k.0 e)), other)
  where
    other : P ⊎ Q → b ≡ true
    other (inl p) = absurd (false≢true (h.1 p))
    other (inr q) = k.1 q

pub same_tests : {a b : Bool} {P Q : Type 0} → Tests a P → Tests b Q → Tests (same_test a b) (P ↔ Q)
same_tests {a = true} h k = (
  (λ e. ((λ p. k.0 e), (λ q. h.0 refl))),
  (λ f. k.1 (f.0 (h.0 refl))),
)
same_tests {a = false} {b = b} h k = (
  (λ e. ((λ p. absurd (false≢true (h.1 p))), (λ q. absurd (false≢true (never b e (k.1 q)))))),
  (λ f. other b (λ e. false≢true (h.1 (f.1 (k.0 e))))),
)
  where
    never : (b : Bool) → not b ≡ true → b ≡ true → false ≡ true
    never true e p = e
    never false e p = p

    other : (b : Bool) → (b ≡ true → ⊥) → not b ≡ true
    other true f = absurd (f refl)
    other false f = refl

pub not_tests : {b : Bool} {P : Type 0} → Tests b P → Tests (not b) (P → ⊥)
not_tests {b = true} h = ((λ e p. false≢true e), (λ f. absurd (f (h.0 refl))))
not_tests {b = false} h = ((λ e p. false≢true (h.1 p)), (λ f. refl))
