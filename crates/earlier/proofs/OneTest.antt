-- One feeder under W 720: the test of a plan is that before N14. With one r, the largest s + p + r compares as the last end does.
use mathlib.Core.Path.{◌≡◌, refl, ap, fun_ext}
use Prim.Native.Nat.{ℕ, suc, ◌+◌, ◌≤◌}
use mathlib.Core.Bool.{Bool, true, false, cond, not}
use mathlib.Core.List.{List, [], ◌∷◌}
use native.Mathlib.Omega.{arith}
use lib.Dec.{ltb}
use lib.ListN.{length}
use borrow.Author.Tests.{ltb-true, lt-ltb}
use Rattle.rules.specs.Basics.{Each, first_of, some}
use Rattle.rules.specs.Load.{counts, last_until, balanced, from_on}
use Rattle.rules.specs.Charge.{Charge, starting, loads_of, is_begun, last_end, lateness}
use Rattle.rules.specs.Judgement.{restarted, judged}
use Rattle.rules.proofs.Ranges.{same_test}
use Rattle.rules.proofs.Restarts.{each_restarted}
use Rattle.earlier.specs.LawsOfBefore.{WithTail, CauseOfOneIsSame}
use Rattle.earlier.proofs.Rates.{rates_in, rates_in_loads, rates_restarted}
use Rattle.earlier.proofs.OnePlans.{limit_is}

last_tail :
    (r : ℕ) (c : Charge) (cs : List Charge)
    → Each (WithTail r) (c ∷ cs)
    → last_until (loads_of (c ∷ cs)) ≡ last_end (c ∷ cs) + r
last_tail r c [] e = omega (arith, e.0)
last_tail r c (d ∷ cs) e = omega (arith, e.0, last_tail r d cs e.1)

length_restarted : (k : ℕ) (cs : List Charge) (ss : List ℕ) → length (restarted k cs ss) ≡ length cs
length_restarted k [] ss = refl
length_restarted k (c ∷ cs) [] = refl
length_restarted k (c ∷ cs) (s ∷ ss) = go (is_begun k c) (length_restarted k cs (s ∷ ss)) (length_restarted k cs ss)
  where
    go :
        (b : Bool)
        → length (restarted k cs (s ∷ ss)) ≡ length cs
        → length (restarted k cs ss) ≡ length cs
        → length (cond b (c ∷ restarted k cs (s ∷ ss)) (starting c s ∷ restarted k cs ss)) ≡ suc (length cs)
    go true u v = rw u
    go false u v = rw v

later_ends :
    (r : ℕ) (cs ds : List Charge)
    → Each (WithTail r) cs
    → Each (WithTail r) ds
    → length ds ≡ length cs
    → ltb (last_until (loads_of cs)) (last_until (loads_of ds)) ≡ ltb (last_end cs) (last_end ds)
later_ends r [] [] e f h = refl
later_ends r [] (d ∷ ds) e f h = absurd (omega arith)
later_ends r (c ∷ cs) [] e f h = absurd (omega arith)
later_ends r (c ∷ cs) (d ∷ ds) e f h =
    rw (last_tail r c cs e, last_tail r d ds f) (alike (last_end (c ∷ cs)) (last_end (d ∷ ds)))
  where
    alike : (a b : ℕ) → ltb (a + r) (b + r) ≡ ltb a b
    alike a b =
        same_test (ltb (a + r) (b + r)) (ltb a b)
        (λ q. lt-ltb a b (omega (arith, ltb-true (a + r) (b + r) q)))
        (λ q. lt-ltb (a + r) (b + r) (omega (arith, ltb-true a b q)))

pub judged_is : CauseOfOneIsSame
unfolding judged
judged_is g k few tails ss =
    let new : List Charge = restarted k g.charges ss in
    let most : rates_in (loads_of new) ≤ 720 = omega (arith, rates_in_loads new, rates_restarted k g.charges ss) in
    rw (later_ends g.tail g.charges (restarted k g.charges ss) tails
    (each_restarted (WithTail g.tail) (λ c s h. h) k g.charges ss tails)
    (length_restarted k g.charges ss))
    (ap
    (λ (f : ℕ → Bool).
    first_of
    ((some (λ s. ltb s k) ss, 3)
    ∷ (ltb (last_end g.charges) (last_end new), 4)
    ∷ (not (from_on k (loads_of new) f), 5)
    ∷ (not (from_on k (loads_of new) (λ t. balanced g.bound (counts (loads_of new) t))), 6)
    ∷ (not (ltb (lateness new) (lateness g.charges)), 7)
    ∷ []))
    (fun_ext (limit_is g.limit (loads_of new) most)))
