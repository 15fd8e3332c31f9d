-- The test of each field of demand 2 for offers and replans is true exactly where the field holds, and the fields one by one
-- are `Tested`.
use mathlib.Core.Path.{◌≡◌, refl}
use Prim.Native.Nat.{ℕ}
use mathlib.Core.Bool.{Bool, true, false, false≢true}
use mathlib.Core.List.{List, map}
use native.Mathlib.Omega.{arith}
use Rattle.rules.specs.Charge.{Charge, starting, begun_charges, waiting_charges, lateness}
use Rattle.rules.specs.Replan.{Proposal, starts, none}
use Rattle.rules.specs.Judgement.{restarted}
use Rattle.rules.specs.Site.{holding}
use Rattle.rules.specs.Calls.{Answer, planned, lent, refusals}
use Rattle.guarantee.specs.DemandTwo.{Better, Taken, cause_of, Tested}
use Rattle.excluded.specs.Same.{every, where_so, number_in}
use Rattle.excluded.specs.FieldsBetter.{merits, merited}
use Rattle.excluded.specs.FieldsTwoPlans.{Field, taken, waiting_starts, begun_same, charges_same, station_same, unchanged, answer, same_list_lem, Trial, held_of, result_of, then_of, Given, Holds, is_taken, of_starts, given, tested}
use Rattle.excluded.specs.LawsOfTests.{Tests}
use Rattle.excluded.specs.LawsOfFields.{PlanIsItsFields}
use Rattle.excluded.specs.LawsOfTests.{PlansAreTested}
use Rattle.excluded.proofs.Tests.{none_tests, free_tests, both_tests, same_tests, not_tests, where_so_tests}
use Rattle.excluded.proofs.TestsBetter.{merits_tests}
use Rattle.excluded.proofs.Same.{same_list_lem as same_lists, same_answer_lem, same_charges_lem, same_state_lem}

-- Taken

taken_tests : (a : Answer) → Tests (is_taken a) (Taken a)
taken_tests a = ((λ e. (_, _, _, (same_answer_lem a (planned 0 (number_in 2 a) (number_in 3 a) (number_in 4 a))).0 e)), back)
  where
    back : Taken a → is_taken a ≡ true
    back (b, c, n, e) = rw e ((same_answer_lem (planned 0 b c n) (planned 0 b c n)).1 refl)

-- what is proposed

module _ (f : List ℕ → Bool) (P : List ℕ → Type 0) (right : (ss : List ℕ) → Tests (f ss) (P ss)) where
  proposed_tests : (p : Proposal) → Tests (of_starts false f p) ((ss : List ℕ) × (p ≡ starts ss) × P ss)
  proposed_tests (starts ss) = ((λ e. (ss, refl, (right ss).0 e)), back)
    where
      back : (us : List ℕ) × (starts ss ≡ starts us) × P us → f ss ≡ true
      back (us, e, p) = let same : ss ≡ us = cc in rw same ((right us).1 p)
  proposed_tests (none cause) = ((λ e. absurd (false≢true e)), back)
    where
      back : (us : List ℕ) × (none cause ≡ starts us) × P us → false ≡ true
      back (us, e, p) = let z : ◌≡◌ {A = ℕ} 0 1 = cc in absurd (omega arith)

  each_tests : (p : Proposal) → Tests (of_starts true f p) ((ss : List ℕ) → p ≡ starts ss → P ss)
  each_tests (starts ss) = ((λ e. there e), (λ h. (right ss).1 (h ss refl)))
    where
      there : f ss ≡ true → (us : List ℕ) → starts ss ≡ starts us → P us
      there e us q = let same : us ≡ ss = cc in rw same ((right ss).0 e)
  each_tests (none cause) = (there, (λ h. refl))
    where
      there : true ≡ true → (us : List ℕ) → none cause ≡ starts us → P us
      there e us q = let z : ◌≡◌ {A = ℕ} 0 1 = cc in absurd (omega arith)

-- Each field

module _ (r : Trial) where
  given_tests : (f : List ℕ → Bool) (P : List ℕ → Type 0) → ((ss : List ℕ) → Tests (f ss) (P ss)) → Tests (given r f) (Given r P)
  given_tests f P right =
      each_tests (λ ss. where_so (is_taken (result_of r).answer) (f ss)) (λ ss. Taken (result_of r).answer → P ss)
      (λ ss. where_so_tests (taken_tests (result_of r).answer) (right ss))
      r.proposal

  each_tested : (f : Field) → Tests (tested r f) (Holds r f)
  each_tested taken =
      same_tests (taken_tests (result_of r).answer)
      (both_tests (none_tests (refusals r.station r.call))
      (proposed_tests (λ ss. every (merited (record { station = r.station; feeder = r.feeder; list = ss })) merits)
      (λ ss. Better r.station r.feeder ss (restarted r.station.clock (held_of r) ss))
      (λ ss. merits_tests (record { station = r.station; feeder = r.feeder; list = ss }))
      r.proposal))
  each_tested waiting_starts =
      given_tests _ _
      (λ ss. same_lists (map (λ (c : Charge). c.start) (waiting_charges r.station.clock (then_of r))) ss)
  each_tested begun_same =
      given_tests _ _
      (λ ss.
      same_charges_lem (begun_charges r.station.clock (then_of r))
      (begun_charges r.station.clock (held_of r)))
  each_tested charges_same =
      given_tests _ _
      (λ ss.
      same_charges_lem (map (λ c. starting c 0) (then_of r)) (map (λ c. starting c 0) (held_of r)))
  each_tested station_same =
      given_tests _ _
      (λ ss. same_state_lem (result_of r).state (holding r.station r.feeder (then_of r) r.station.next))
  each_tested unchanged =
      where_so_tests (not_tests (taken_tests (result_of r).answer)) (same_state_lem (result_of r).state r.station)
  each_tested answer =
      free_tests r.station r.call
      (same_answer_lem (result_of r).answer
      (planned (cause_of r.station r.feeder r.proposal) (lateness (held_of r)) (lateness (then_of r)) r.rounds))
  each_tested same_list_lem = same_lists (result_of r).list (lent r.call)

pub plans_tested : PlansAreTested
plans_tested r f = each_tested r f

-- The fields one by one

pub plan_fields : PlanIsItsFields
plan_fields r = (
  there,
  (λ h. record {
    taken = h taken;
    given = λ ss e t. record {
      waiting_starts = h waiting_starts ss e t;
      begun_same = h begun_same ss e t;
      charges_same = h charges_same ss e t;
      station_same = h station_same ss e t;
    };
    unchanged = h unchanged;
    answer = h answer;
    same_list_lem = h same_list_lem;
  }),
)
  where
    there : Tested r.station r.feeder r.call r.proposal r.rounds (result_of r) → (f : Field) → Holds r f
    there d taken = d.taken
    there d waiting_starts = λ ss e t. (d.given ss e t).waiting_starts
    there d begun_same = λ ss e t. (d.given ss e t).begun_same
    there d charges_same = λ ss e t. (d.given ss e t).charges_same
    there d station_same = λ ss e t. (d.given ss e t).station_same
    there d unchanged = d.unchanged
    there d answer = d.answer
    there d same_list_lem = d.same_list_lem
