-- What the answer of a preview says of a commit, on the same station.
use mathlib.Core.Path.{◌≡◌, refl, sym, ap, ◌∙◌}
use Prim.Native.Nat.{ℕ, zero, suc}
use mathlib.Core.Bool.{not}
use mathlib.Core.List.{[], ◌∷◌}
use native.Mathlib.Omega.{arith}
use borrow.Author.Tests.{ne_eqb}
use Rattle.rules.specs.Basics.{Found, at, nothing, first_of}
use Rattle.rules.specs.Site.{State}
use Rattle.rules.specs.Calls.{refused, previewed, answering, preview, commit, draw_for, start_for, is_start, order_refusals, refusals, previewed_at, previewing, committing, step}
use Rattle.rules.specs.Valid.{ValidState}
use Rattle.rules.proofs.Tables.{NoneHolds, none_first_of, first_of_front, first_of_more}
use Rattle.rules.proofs.Granted.{refusals_none, order_granted, granted_commit}
use Rattle.rules.proofs.Validity.{order_found}

module _ (s : State) (f line p d rate : ℕ) where
  -- a start that is shown
  pub preview_shown :
      (start : ℕ)
      → previewed start ≡ (step s (preview f line p d rate)).answer
      → NoneHolds (order_refusals s f line p d rate) × (start_for s f (draw_for s f line p rate) ≡ at start)
  unfolding previewing
  preview_shown start e = go (first_of (order_refusals s f line p d rate)) refl (start_for s f (draw_for s f line p rate)) refl e
    where
      go :
          (i : ℕ)
          → first_of (order_refusals s f line p d rate) ≡ i
          → (r : Found)
          → start_for s f (draw_for s f line p rate) ≡ r
          → previewed start ≡ (answering i s [] (previewed_at s r)).answer
          → NoneHolds (order_refusals s f line p d rate) × (start_for s f (draw_for s f line p rate) ≡ at start)
      go zero h (at u) q a = let same : u ≡ start = cc in (refusals_none s (preview f line p d rate) h, q ∙ ap at same)
      go zero h nothing q a = let z : ◌≡◌ {A = ℕ} 0 1 = cc in absurd (omega arith)
      go (suc i) h r q a = let z : ◌≡◌ {A = ℕ} 0 1 = cc in absurd (omega arith)

  -- "Both meet the order's refusals": where a preview is refused, every commit is, by the same number
  pub commit_refused :
      (k shown : ℕ)
      → ValidState s
      → refused k ≡ (step s (preview f line p d rate)).answer
      → step s (commit f line p d rate shown) ≡ record { answer = refused k; state = s; list = [] }
  unfolding previewing
  commit_refused k shown v e =
      go (first_of (order_refusals s f line p d rate)) refl (start_for s f (draw_for s f line p rate)) refl e
    where
      found : first_of (order_refusals s f line p d rate) ≡ 0 → start_for s f (draw_for s f line p rate) ≡ nothing → ⊥
      found h q =
          let u = order_found s f line p d rate v (order_granted s f line p d rate (refusals_none s (preview f line p d rate) h)) in
          let same : at u.0 ≡ nothing = sym u.1 ∙ q in let z : ◌≡◌ {A = ℕ} 0 1 = cc in omega arith

      go :
          (i : ℕ)
          → first_of (order_refusals s f line p d rate) ≡ i
          → (r : Found)
          → start_for s f (draw_for s f line p rate) ≡ r
          → refused k ≡ (answering i s [] (previewed_at s r)).answer
          → step s (commit f line p d rate shown) ≡ record { answer = refused k; state = s; list = [] }
      go zero h (at u) q a = let z : ◌≡◌ {A = ℕ} 0 1 = cc in absurd (omega arith)
      go zero h nothing q a = absurd (found h q)
      go (suc i) h r q a =
          let same : suc i ≡ k = cc in
          rw (first_of_front (order_refusals s f line p d rate) ((not (is_start (start_for s f (draw_for s f line p rate)) shown), 16) ∷ []) i h, ← same)

  module _ (free : NoneHolds (order_refusals s f line p d rate)) where
    -- "commit whose shown start is not the earliest start at that moment"
    pub commit_other :
        (start shown : ℕ)
        → start_for s f (draw_for s f line p rate) ≡ at start
        → (start ≡ shown → ⊥)
        → step s (commit f line p d rate shown) ≡ record { answer = refused 16; state = s; list = [] }
    commit_other start shown e other =
        rw (
          first_of_more (order_refusals s f line p d rate) ((not (is_start (start_for s f (draw_for s f line p rate)) shown), 16) ∷ []) free,
          e,
          ne_eqb start shown other,
        )

    pub commit_taken :
        (shown : ℕ)
        → start_for s f (draw_for s f line p rate) ≡ at shown
        → step s (commit f line p d rate shown) ≡ committing s f line p d rate shown
    commit_taken shown e =
        rw (none_first_of (refusals s (commit f line p d rate shown)) (granted_commit s f line p d rate shown free e))
