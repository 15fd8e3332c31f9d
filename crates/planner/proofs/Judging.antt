-- The test of a plan, from what the code finds: one law for each way out.
use mathlib.Core.Path.{◌≡◌, refl, sym, ◌∙◌}
use Prim.Native.Nat.{ℕ, max, ◌≤◌}
use mathlib.Core.Bool.{Bool, true, false, not}
use mathlib.Core.List.{List, [], ◌∷◌}
use native.Mathlib.Omega.{arith}
use lib.Dec.{ltb}
use borrow.Author.Tests.{ltb-false}
use Rattle.rules.specs.Basics.{some, first_of}
use Rattle.rules.specs.Load.{IsRate, last_until, limit_at, balance_at, from_on}
use Rattle.rules.specs.Charge.{seen, loads_of, lateness}
use Rattle.rules.specs.Judgement.{restarted}
use Rattle.rules.proofs.Lists.{each_tabulate}
use Rattle.rules.proofs.Ends.{each_until}
use Rattle.rules.proofs.Restarts.{each_restarted}
use Rattle.rules.proofs.Sites.{last_until_append}
use Rattle.charges.specs.declared.Charges.{Charges}
use Rattle.charges.specs.Arrays.{charge_at, charges_of, Holds}
use Rattle.charges.specs.Held.{Listed}
use Rattle.charges.specs.Drawn.{loads_lent}
use Rattle.planner.specs.declared.Beside.{Beside}
use Rattle.planner.specs.Ready.{terms_of, Profiled}
use Rattle.planner.specs.Judged.{broken, or_late, CauseOf}
use Rattle.planner.proofs.Showing.{held_end_most, plannable}
use Rattle.planner.proofs.Causes.{judged_by}

-- Whether the site's last draw is later

pub later_lem :
    (b : Beside) (c next : Charges) {others held new : ℕ} → others ≡ last_until (loads_lent b.others) → held ≡ last_until (loads_of (charges_of c)) →
    new ≡ last_until (loads_of (charges_of next)) →
    ltb (max others held) (max others new) ≡ ltb (last_until (seen (terms_of b) (charges_of c))) (last_until (seen (terms_of b) (charges_of next)))
later_lem b c next eo eh en =
    rw (last_until_append (loads_lent b.others) (loads_of (charges_of c)), last_until_append (loads_lent b.others) (loads_of (charges_of next)), eo, eh, en) refl

-- The new plan goes into a profile, where it does not end later

module _ (b : Beside) {c next : Charges} (ss : List ℕ) (listed : Listed c) (h : Holds (restarted b.clock (charges_of c) ss) next)
    (e : ltb (last_until (seen (terms_of b) (charges_of c))) (last_until (seen (terms_of b) (charges_of next))) ≡ false) where
  ends : last_until (loads_of (charges_of next)) ≤ 100001445
  ends =
      omega (
        arith,
        ltb-false (last_until (seen (terms_of b) (charges_of c))) (last_until (seen (terms_of b) (charges_of next))) e,
        last_until_append (loads_lent b.others) (loads_of (charges_of c)),
        last_until_append (loads_lent b.others) (loads_of (charges_of next)),
        held_end_most listed,
        b.others_fit.end_most,
      )

  pub next_profiled : Profiled next
  next_profiled =
      record {
        plannable =
            plannable (charges_of next)
            (rw h.charges
            (each_restarted (λ x. IsRate x.rate) (λ x s r. r) b.clock (charges_of c) ss
            (each_tabulate (λ x. IsRate x.rate) (charge_at c) c.held 0 (λ i p q. (listed.small i (omega arith)).is_rate))))
            (each_until 100001445 (charges_of next) ends);
      }

-- The causes but for lateness

-- causes 5 and 6, then 7
then_late :
    (within balanced : Bool) (before after : ℕ) →
    first_of ((false, 3) ∷ (false, 4) ∷ (not within, 5) ∷ (not balanced, 6) ∷ (not (ltb after before), 7) ∷ [])
    ≡ or_late (first_of ((not within, 5) ∷ (not balanced, 6) ∷ [])) before after
then_late true true before after = refl
then_late true false before after = refl
then_late false balanced before after = refl

module _ (b : Beside) (ss : List ℕ) {c next : Charges} (h : Holds (restarted b.clock (charges_of c) ss) next)
    {early : Bool} (a : early ≡ some (λ s. ltb s b.clock) ss) where
  pub judges_three : early ≡ true → CauseOf b c ss 3
  judges_three e =
      record {
        same = judged_by (terms_of b) b.clock (charges_of c) ss (charges_of next) h.charges true _ _ _ (sym a ∙ e) refl refl refl;
      }

  module _ (no : early ≡ false) {later : Bool} (l : later ≡ ltb (last_until (seen (terms_of b) (charges_of c))) (last_until (seen (terms_of b) (charges_of next)))) where
    pub judges_four : later ≡ true → CauseOf b c ss 4
    judges_four e =
        record {
          same =
              judged_by (terms_of b) b.clock (charges_of c) ss (charges_of next) h.charges false true _ _ (sym a ∙ no) (sym l ∙ e)
              refl refl;
        }

    pub judges_broken : later ≡ false → {r : ℕ} → r ≡ broken (terms_of b) b.clock (seen (terms_of b) (charges_of next)) → CauseOf b c ss r
    judges_broken e {r} is =
        record {
          same =
              judged_by (terms_of b) b.clock (charges_of c) ss (charges_of next) h.charges false false _ _ (sym a ∙ no) (sym l ∙ e)
              refl refl
              ∙ rw is
              (then_late
              (from_on b.clock (seen (terms_of b) (charges_of next)) (limit_at (terms_of b) (seen (terms_of b) (charges_of next))))
              (from_on b.clock (seen (terms_of b) (charges_of next)) (balance_at (terms_of b) (seen (terms_of b) (charges_of next))))
              (lateness (charges_of c)) (lateness (restarted b.clock (charges_of c) ss)));
        }
