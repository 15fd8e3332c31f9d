-- What was promised of calls as they were before a request, on every station, valid or not.
use mathlib.Core.Logic.{inl, inr}
use mathlib.Core.Path.{◌≡◌, refl, ap, subst}
use Prim.Native.Nat.{ℕ, zero, suc, ◌+◌}
use mathlib.Core.Bool.{Bool, false, not, ◌||◌}
use mathlib.Core.List.{List, [], ◌∷◌}
use lib.Dec.{ltb, leb}
use lib.ListN.{length}
use borrow.Author.Tests.{le-ltb}
use Rattle.rules.specs.Basics.{Found, at, nothing, first_of}
use Rattle.rules.specs.Site.{places, feeder_of, charges_on}
use Rattle.rules.specs.Calls.{Result, answering, preview, no_such_feeder, draw_for, start_for, is_start, order_refusals, previewed_at, previewing, committing, step}
use Rattle.earlier.specs.Earlier.{ordered_at, Together}
use Rattle.earlier.specs.LawsOfBefore.{TwoCallsGiveTheOrder, OthersGiveTheSame, DueHasNoPart}
use Rattle.rules.proofs.Tables.{row_left_out}
use Rattle.rules.proofs.Granted.{refusals_none}
use Rattle.rules.proofs.Shown.{commit_taken}

pub same_as_order : TwoCallsGiveTheOrder
unfolding previewing committing
same_as_order s f line p d rate = go (first_of (order_refusals s f line p d rate)) refl (start_for s f (draw_for s f line p rate)) refl
  where
    go :
        (i : ℕ)
        → first_of (order_refusals s f line p d rate) ≡ i
        → (r : Found)
        → start_for s f (draw_for s f line p rate) ≡ r
        → Together f line p d rate (answering i s [] (previewed_at s r)) (answering i s [] (ordered_at s f line p d rate r))
    go zero e (at start) q =
        inl (start, refl, commit_taken s f line p d rate (refusals_none s (preview f line p d rate) e) start q)
    go zero e nothing q = inr (0, refl, refl)
    go (suc i) e r q = inr (suc i, refl, refl)

pub same_as_before : OthersGiveTheSame
same_as_before s f line p d rate h =
    subst (λ (r : Result). Together f line p d rate (step s (preview f line p d rate)) r)
    (ap (λ k. answering k s [] (ordered_at s f line p d rate (start_for s f (draw_for s f line p rate))))
    (row_left_out
    (no_such_feeder s f
    ∷ (ltb line 1 || ltb 3 line, 4)
    ∷ (ltb p 1 || ltb 1440 p, 5)
    ∷ (ltb rate 1 || ltb 2 rate, 17)
    ∷ (ltb (feeder_of s f).limit rate || ltb (feeder_of s f).bound rate || ltb s.site rate, 18)
    ∷ (ltb 2000000 d, 6)
    ∷ [])
    (ltb d (s.clock + p), 7)
    ((leb places (length (charges_on s f)), 13) ∷ (ltb 65535 s.next, 14) ∷ [])
    h))
    (same_as_order s f line p d rate)

pub like_any_other : DueHasNoPart
unfolding previewing committing
like_any_other s f line p d e rate h k =
    rw (le-ltb 2000000 d h, le-ltb 2000000 e k) (refl, (λ shown. refused_or shown (first_of (rows shown))))
  where
    rows : ℕ → List (Bool × ℕ)
    rows shown =
        no_such_feeder s f
        ∷ (ltb line 1 || ltb 3 line, 4)
        ∷ (ltb p 1 || ltb 1440 p, 5)
        ∷ (ltb rate 1 || ltb 2 rate, 17)
        ∷ (ltb (feeder_of s f).limit rate || ltb (feeder_of s f).bound rate || ltb s.site rate, 18)
        ∷ (false, 6)
        ∷ (leb places (length (charges_on s f)), 13)
        ∷ (ltb 65535 s.next, 14)
        ∷ (not (is_start (start_for s f (draw_for s f line p rate)) shown), 16)
        ∷ []

    refused_or :
        (shown number : ℕ)
        → (answering number s [] (committing s f line p d rate shown)).answer
        ≡ (answering number s [] (committing s f line p e rate shown)).answer
    refused_or shown zero = refl
    refused_or shown (suc k) = refl
