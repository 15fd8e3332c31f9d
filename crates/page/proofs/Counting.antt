-- How many pages there are: enough for the charges held, at least one, and no more than that.
use mathlib.Core.Path.{◌≡◌}
use mathlib.Core.Logic.{⊎_elim}
use Prim.Native.Nat.{ℕ, ◌+◌, ◌/◌, max}
use native.Mathlib.Omega.{arith}
use borrow.Author.Tests.{eq-eqb, ne_eqb}
use Rattle.std.specs.Int.{div_ceil}
use Rattle.rules.proofs.Ranges.{below_or_not}
use Rattle.page.specs.Pages.{page_count}
use Rattle.page.specs.LawsOfPages.{PagesHaveRoom, ThereIsAPage, NoPageIsSpare}

module _ (held : ℕ) where
  pub one_page : held ≡ 0 → page_count held ≡ 1
  unfolding page_count
  one_page e = rw (eq-eqb held 0 e)

  pub some_pages : (held ≡ 0 → ⊥) → page_count held ≡ (held + 23) / 24
  unfolding page_count
  some_pages n = rw (ne_eqb held 0 n)

  -- as the library counts them
  pub counted : max (div_ceil held 24) 1 ≡ page_count held
  counted =
      ⊎_elim
      (λ h. let e = some_pages (λ e. omega arith) in omega (arith, e))
      (λ h. let e = one_page (omega arith) in omega (arith, e))
      (below_or_not 0 held)

pub pages_enough : PagesHaveRoom
unfolding page_count
pages_enough held =
    ⊎_elim (λ h. rw (ne_eqb held 0 (λ e. omega arith)) (omega arith)) (λ h. omega arith) (below_or_not 0 held)

pub pages_some : ThereIsAPage
unfolding page_count
pages_some held =
    ⊎_elim (λ h. rw (ne_eqb held 0 (λ e. omega arith)) (omega arith)) (λ h. rw (eq-eqb held 0 (omega arith)) (omega arith)) (below_or_not 0 held)

pub pages_needed : NoPageIsSpare
unfolding page_count
pages_needed held =
    ⊎_elim
    (λ h. rw (ne_eqb held 0 (λ e. omega arith)) (λ k. omega arith))
    (λ h. rw (eq-eqb held 0 (omega arith)) (λ k. absurd (omega arith)))
    (below_or_not 0 held)
