-- Which charges a board looks at: those before some place, and none from it on.
use mathlib.Core.Path.{◌≡◌, refl, sym, ap, ◌∙◌}
use Prim.Native.Nat.{ℕ, zero, suc, ◌+◌, ◌-◌, ◌≤◌, ◌<◌}
use mathlib.Core.Bool.{Bool, true, false, ◌||◌}
use mathlib.Core.List.{List, [], ◌∷◌, append-nil}
use native.Mathlib.Omega.{arith}
use lib.ListN.{length, get_or}
use Rattle.rules.specs.Basics.{Each, tabulate, keep, some}
use Rattle.rules.proofs.Lists.{length_tabulate, keep_append, keep_all, each_tabulate}
use Rattle.charges.proofs.Members.{tabulate_parts}

-- a test that one of the numbers passes, or none

pub some_at : (f : ℕ → Bool) (xs : List ℕ) (i : ℕ) → i < length xs → f (get_or xs i 0) ≡ true → some f xs ≡ true
some_at f [] i h e = absurd (omega arith)
some_at f (x ∷ xs) zero h e = rw e
some_at f (x ∷ xs) (suc i) h e = rw (some_at f xs i (omega arith) e) (either (f x))
  where
    either : (b : Bool) → b || true ≡ true
    either true = refl
    either false = refl

pub some_not : (f : ℕ → Bool) (xs : List ℕ) → ((i : ℕ) → i < length xs → f (get_or xs i 0) ≡ false) → some f xs ≡ false
some_not f [] h = refl
some_not f (x ∷ xs) h = rw (h 0 (omega arith)) (some_not f xs (λ i l. h (suc i) (omega arith)))

keep_no : {A : Type 0} (f : A → Bool) (xs : List A) → Each (λ x. f x ≡ false) xs → keep f xs ≡ []
keep_no f [] e = refl
keep_no f (x ∷ xs) e = rw e.0 (keep_no f xs e.1)

-- a test that the first i members pass, and no other
pub keep_first :
    {A : Type 0} (f : A → Bool) (g : ℕ → A) (i n : ℕ)
    → i ≤ n
    → ((k : ℕ) → k < i → f (g k) ≡ true)
    → ((k : ℕ) → i ≤ k → k < n → f (g k) ≡ false)
    → length (keep f (tabulate g n 0)) ≡ i
keep_first f g i n le hit miss =
    let whole : i + (n - i) ≡ n = omega arith in
    ap (λ (m : ℕ). length (keep f (tabulate g m 0))) (sym whole)
    ∙ rw (
      tabulate_parts g i (n - i),
      keep_append f (tabulate g i 0) (tabulate g (n - i) i),
      keep_all f (tabulate g i 0) (each_tabulate (λ x. f x ≡ true) g i 0 (λ k a b. hit k (omega arith))),
      keep_no f (tabulate g (n - i) i) (each_tabulate (λ x. f x ≡ false) g (n - i) i (λ k a b. miss k a (omega arith))),
      append-nil (tabulate g i 0),
    )
    (length_tabulate g i 0)
