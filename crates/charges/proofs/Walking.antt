-- Walks along the places from 0 on: what one turn adds to the members that pass a test.
use mathlib.Core.Path.{◌≡◌}
use Prim.Native.Nat.{ℕ, ◌+◌}
use mathlib.Core.Bool.{Bool, true, false}
use mathlib.Core.List.{[], ◌∷◌, ◌++◌, append-nil}
use lib.ListN.{length, length-append}
use Rattle.rules.specs.Basics.{tabulate, keep}
use Rattle.rules.proofs.Lists.{tabulate_next, keep_append}

-- The members that pass a test

module _ {A : Type 0} (f : A → Bool) (g : ℕ → A) (i : ℕ) where
  pub keep_hit : f (g i) ≡ true → keep f (tabulate g (i + 1) 0) ≡ keep f (tabulate g i 0) ++ (g i ∷ [])
  keep_hit e = rw (tabulate_next g i, keep_append f (tabulate g i 0) (g i ∷ []), e)

  pub keep_miss : f (g i) ≡ false → keep f (tabulate g (i + 1) 0) ≡ keep f (tabulate g i 0)
  keep_miss e = rw (tabulate_next g i, keep_append f (tabulate g i 0) (g i ∷ []), e, append-nil)

  pub count_hit : f (g i) ≡ true → length (keep f (tabulate g (i + 1) 0)) ≡ length (keep f (tabulate g i 0)) + 1
  count_hit e = rw (keep_hit e) (length-append (keep f (tabulate g i 0)) (g i ∷ []))

-- A charge that waits, and one that does not
