-- "any one changed byte in a block is found": refusal 21, whatever byte of the 512 changed.
use mathlib.Core.Logic.{◌⊎◌, inl, inr}
use mathlib.Core.Path.{◌≡◌, ap, sym, ◌∙◌}
use Prim.Native.Nat.{ℕ, zero, suc, ◌+◌, ◌*◌, ◌/◌, ◌%◌, ◌≤◌, ◌<◌}
use mathlib.Core.Bool.{true, false}
use mathlib.Core.List.{List}
use native.Mathlib.Omega.{arith}
use native.Mathlib.Nat.{le_of_mul-le-mul_left}
use lib.ListN.{length, get_or, set, length-set}
use lib.Seq.{get_or-set_same, get_or-set_other}
use borrow.Author.Tests.{eqb-true, ne_eqb}
use Rattle.layout.specs.Bytes.{number_at}
use Rattle.layout.specs.Image.{weighed, check_of}
use Rattle.layout.specs.Reading.{in_block, checked}
use Rattle.layout.specs.LawsOfRestoring.{ChangeInBlockIsFound, ChangeOfAcceptedIsFound}
use Rattle.rules.proofs.Ranges.{below_or_not}
use Rattle.layout.proofs.Listing.{every_at, every_not}
use Rattle.layout.proofs.Numbers.{number_same}
use Rattle.layout.proofs.Checks.{weighed_same, check_same}
use Rattle.layout.proofs.Refusing.{refused_check, Accepted, accepted}

times_same : (k m n : ℕ) → 0 < k → k * m ≡ k * n → m ≡ n
times_same k m n h e =
    let p : m ≤ n = le_of_mul-le-mul_left {k = k} (omega arith) h in
    let q : n ≤ m = le_of_mul-le-mul_left {k = k} (omega arith) h in
    omega arith

-- f and g differ at place i at most
module _ (f g : ℕ → ℕ) (i : ℕ) (else_same : (j : ℕ) → (j ≡ i → ⊥) → f j ≡ g j) where
  weighed_changed : (n : ℕ) → i < n → weighed f n + suc i * g i ≡ weighed g n + suc i * f i
  unfolding weighed
  weighed_changed zero h = absurd (omega arith)
  weighed_changed (suc n) h = go (below_or_not i n) (weighed_changed n)
    where
      go :
          (i < n) ⊎ (n ≤ i)
          → (i < n → weighed f n + suc i * g i ≡ weighed g n + suc i * f i)
          → weighed f n + suc n * f n + suc i * g i ≡ weighed g n + suc n * g n + suc i * f i
      go (inl l) ih = omega (arith, ih l, ap (λ x. suc n * x) (else_same n (λ e. omega arith)))
      go (inr l) ih =
          let e : i ≡ n = omega arith in
          rw e (omega (arith, weighed_same f g n (λ j m. else_same j (λ d. omega arith))))

  -- equal checks, or equal numbers, and the place is the same too
  pub check_tells : i < 508 → check_of f ≡ check_of g → f i ≡ g i
  unfolding check_of
  check_tells h e = times_same (suc i) (f i) (g i) (omega arith) (omega (arith, weighed_changed 508 h))

  pub number_tells : (a n : ℕ) → a ≤ i → i < a + n → number_at f a n ≡ number_at g a n → f i ≡ g i
  number_tells a zero p q e = absurd (omega arith)
  number_tells a (suc n) p q e = go (below_or_not a i) (number_tells (suc a) n)
    where
      go :
          (a < i) ⊎ (i ≤ a)
          → (suc a ≤ i → i < suc a + n → number_at f (suc a) n ≡ number_at g (suc a) n → f i ≡ g i)
          → f i ≡ g i
      go (inl l) ih = ih (omega arith) (omega arith) (omega (arith, e, else_same a (λ d. omega arith)))
      go (inr l) ih =
          let s : i ≡ a = omega arith in
          rw s (omega (arith, e, number_same f g (suc a) n (λ j m k. else_same j (λ d. omega arith))))

module _
    (xs : List ℕ) (b i v : ℕ) (size : length xs ≡ 4608) (block : b < 9) (place : i < 512) (right : checked xs b ≡ true)
    (changed : v ≡ in_block xs b i → ⊥)
  where
    abbrev after : List ℕ
    after = set xs (512 * b + i) v

    new : in_block after b i ≡ v
    new = get_or-set_same xs (512 * b + i) v 0 (omega arith)

    old : (j : ℕ) → (j ≡ i → ⊥) → in_block xs b j ≡ in_block after b j
    old j n = sym (get_or-set_other xs (512 * b + i) (512 * b + j) v 0 (λ e. n (omega arith)))

    before_right : check_of (in_block xs b) ≡ number_at (in_block xs b) 508 4
    unfolding checked
    before_right = eqb-true (check_of (in_block xs b)) (number_at (in_block xs b) 508 4) right

    found : check_of (in_block after b) ≡ number_at (in_block after b) 508 4 → ⊥
    found e = changed (sym new ∙ sym (go (below_or_not i 508)))
      where
        go : (i < 508) ⊎ (508 ≤ i) → in_block xs b i ≡ in_block after b i
        go (inl l) =
            check_tells (in_block xs b) (in_block after b) i old l
            (before_right
            ∙ number_same (in_block xs b) (in_block after b) 508 4 (λ j p q. old j (λ d. omega arith))
            ∙ sym e)
        go (inr l) =
            number_tells (in_block xs b) (in_block after b) i old 508 4 l (omega arith)
            (sym before_right
            ∙ check_same (in_block xs b) (in_block after b) (λ j m. old j (λ d. omega arith))
            ∙ e)

    pub change_unchecked : checked after b ≡ false
    unfolding checked
    change_unchecked = ne_eqb (check_of (in_block after b)) (number_at (in_block after b) 508 4) found

pub change_found : ChangeInBlockIsFound
change_found xs b i v size block place right changed =
    refused_check (after xs b i v size block place right changed) (length-set xs (512 * b + i) v ∙ size)
    (every_not (checked (after xs b i v size block place right changed)) 9 b block (change_unchecked xs b i v size block place right changed))

pub accepted_change_found : ChangeOfAcceptedIsFound
accepted_change_found xs k v e h n =
    let w : 512 * (k / 512) + k % 512 ≡ k = omega arith in
    let a : Accepted xs = accepted xs e in
    rw w at (change_found xs (k / 512) (k % 512) v a.size (omega arith) (omega arith)
    (every_at (checked xs) 9 a.checks (k / 512) (omega arith))
    (λ d. n (d ∙ ap (λ i. get_or xs i 0) w)))
