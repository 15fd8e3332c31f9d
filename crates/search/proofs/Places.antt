-- The first and the last place of a slice at which a test fails, as `position` and `rposition` answer.
use Prim.Native.Nat.{ℕ, ◌+◌, ◌-◌, ◌<◌}
use mathlib.Core.Path.{◌≡◌, refl, sym, ◌∙◌, ap, subst}
use mathlib.Core.Bool.{Bool, true, false, not}
use mathlib.Core.List.{List, reverse, [], ◌∷◌}
use native.Mathlib.Omega.{arith}
use borrow.Author.Tests.{not-true, not-false}
use lib.ListN.{length, get_or}
use denote.Param.Members.{Mut}
use denote.Ref.{Bor}
use Rattle.std.specs.Prelude.{Option, Some, None}
use Rattle.std.specs.Option.{MatchOption, IsSomeAnd}
use Rattle.std.specs.Fn.{Called}
use Rattle.std.specs.Iterator.{FindsPosition, FindsPositionBack}
use Rattle.std.specs.List.{AllWithin, HoldsAt}
use Rattle.std.specs.Slice.Iter.{iter_rest, iter_steps_back}
use Rattle.std.specs.declared.slice.Iter.{Iter}
use Rattle.std.proofs.iter.Yields.{fronts}
use Rattle.std.proofs.lemmas.List.{length-reverse, reverse-append, get_or-reverse}
use Rattle.std.proofs.lemmas.Iterator.{YieldsList, YieldsList-from_slice, IsFirst-from_position}
use Rattle.std.proofs.lemmas.Iterator.Consumers.{YieldsList-from_shown}

-- i is the first place of a list at which a test fails, where d stands for what is not there
pub record FirstAt {A : Type 0} (test : A → Bool) (d : A) (xs : List A) (i : ℕ) : Type 0 where
  pub inside : i < length xs
  pub fails : test (get_or xs i d) ≡ false
  pub passed : (j : ℕ) → j < i → test (get_or xs j d) ≡ true

-- it is the last
pub record LastAt {A : Type 0} (test : A → Bool) (d : A) (xs : List A) (i : ℕ) : Type 0 where
  pub inside : i < length xs
  pub fails : test (get_or xs i d) ≡ false
  pub passed : (j : ℕ) → i < j → j < length xs → test (get_or xs j d) ≡ true

-- every place passes
abbrev pub AllPass : {A : Type 0} → (A → Bool) → A → List A → Type 0
AllPass test d xs = (j : ℕ) → j < length xs → test (get_or xs j d) ≡ true

-- a slice from its back
slice_back : {A : Type 0} {s : Iter A} (xs : List A) → iter_rest s ≡ xs → YieldsList iter_steps_back (λ y. y.now) s (reverse xs)
slice_back {A} {s} xs e =
    subst (λ (l : List A). YieldsList iter_steps_back (λ y. y.now) s (reverse l)) e
    (YieldsList-from_shown iter_steps_back (λ y. y.now) (λ u. reverse (iter_rest u)) (λ u t p. length-reverse _ ∙ p.0)
    (λ u x t p. ap reverse p ∙ reverse-append (iter_rest t) (x.now ∷ [])) s)

-- f tells where the test fails
module _ {A F : Type 0} {g : Mut F (Bor A × Unit {0}) Bool} (f : F) (test : A → Bool)
    (tells : (x : Bor A) (b : Bool) (q : F) → Called g f (x, tt) b q → (q ≡ f) × (b ≡ not (test x.now))) where
  out : (x : Bor A) (q : F) → Called g f (x, tt) true q → test x.now ≡ false
  out x q k = not-true (test x.now) (sym (tells x true q k).1)

  within : (x : Bor A) (q : F) → Called g f (x, tt) false q → (q ≡ f) × (test x.now ≡ true)
  within x q k = let h = tells x false q k in (h.0, not-false (test x.now) (sym h.1))

  module _ {s : Iter A} (u : Iter A) (r : Option ℕ) (d : A) (xs : List A) (rest : iter_rest s ≡ xs) where
    pub first_place : FindsPosition fronts g s f r u → MatchOption r (AllPass test d xs) (FirstAt test d xs)
    first_place h =
        go r (IsFirst-from_position u f r (λ x. test x ≡ false) (λ x. test x ≡ true) h (YieldsList-from_slice xs rest) out within)
      where
        go :
            (r : Option ℕ)
            → MatchOption r (AllWithin (λ x. test x ≡ true) xs 0 (length xs))
            (λ i. (i < length xs) × HoldsAt (λ x. test x ≡ false) xs i × AllWithin (λ x. test x ≡ true) xs 0 i)
            → MatchOption r (AllPass test d xs) (FirstAt test d xs)
        go None k = λ j b. k j d (omega arith) b
        go (Some i) k = record { inside = k.0; fails = k.1 d; passed = λ j b. k.2 j d (omega arith) b }

    -- the first place from the back is the last one
    pub last_place : FindsPositionBack iter_steps_back g s f (length (iter_rest s)) r u → MatchOption r (AllPass test d xs) (LastAt test d xs)
    last_place h =
        go r h.1 h.5
        (IsFirst-from_position u f (counted h.1) (λ x. test x ≡ false) (λ x. test x ≡ true) (h.0, h.1, h.2, h.3, h.4, given h.1 h.5) (slice_back xs rest) out within)
      where
        -- how many items came before the one that fails
        counted : Option (Bor A) → Option ℕ
        counted None = None
        counted (Some x) = Some (length h.0)

        given :
            (o : Option (Bor A)) → MatchOption o (r ≡ None) (λ x. IsSomeAnd r (λ i. i + 1 + length h.0 ≡ length (iter_rest s)) × ((q : F) × Called g h.2 (x, tt) true q))
            → MatchOption o (counted o ≡ None) (λ x. (counted o ≡ Some (length h.0)) × ((q : F) × Called g h.2 (x, tt) true q))
        given None k = refl
        given (Some x) k = (refl, k.1)

        -- the same from the front
        turned : (k : ℕ) (b : Bool) → k < length xs → test (get_or (reverse xs) (length xs - 1 - k) d) ≡ b → test (get_or xs k d) ≡ b
        turned k b inside h =
            let e : length xs - 1 - (length xs - 1 - k) ≡ k = omega arith in
            subst (λ (i : ℕ). test (get_or xs i d) ≡ b) e (rw (get_or-reverse xs (length xs - 1 - k) d (omega arith)) at h)

        go :
            (r : Option ℕ) (o : Option (Bor A))
            → MatchOption o (r ≡ None) (λ x. IsSomeAnd r (λ i. i + 1 + length h.0 ≡ length (iter_rest s)) × ((q : F) × Called g h.2 (x, tt) true q))
            → MatchOption (counted o) (AllWithin (λ x. test x ≡ true) (reverse xs) 0 (length (reverse xs)))
            (λ i. (i < length (reverse xs)) × HoldsAt (λ x. test x ≡ false) (reverse xs) i × AllWithin (λ x. test x ≡ true) (reverse xs) 0 i)
            → MatchOption r (AllPass test d xs) (LastAt test d xs)
        go r None k m = rw k (λ j b. turned j true b (m (length xs - 1 - j) d (omega arith) (omega (arith, length-reverse xs))))
        go (Some i) (Some x) k m =
            let n : i + 1 + length h.0 ≡ length xs = k.0 ∙ ap length rest in
            let q : length h.0 ≡ length xs - 1 - i = omega arith in
            record {
              inside = omega arith;
              fails = turned i false (omega arith) (rw (← q) (m.1 d));
              passed = λ j b c. turned j true c (m.2 (length xs - 1 - j) d (omega arith) (omega arith));
            }
        go None (Some x) k m = absurd k.0
