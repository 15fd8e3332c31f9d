-- The test of each field of demand 2 for withdrawals is true exactly where the field holds, and the fields one by one are what
-- demand 2 says of a withdrawal.
use Prim.Native.Nat.{suc}
use lib.ListN.{length}
use Rattle.rules.specs.Charge.{without_ticket}
use Rattle.rules.specs.Site.{charges_on, holding}
use Rattle.rules.specs.Calls.{withdrawn}
use Rattle.guarantee.specs.DemandTwo.{SoundPlan, Withdrawal}
use Rattle.excluded.specs.FieldsTwoWithdrawals.{Field, removed, others_same, place_free, unchanged, Trial, result_of, feeder_in, held_of, rest, Withdrawn, Holds, is_withdrawal, waits, rest_sound, tested}
use Rattle.excluded.specs.LawsOfTests.{Tests}
use Rattle.excluded.specs.LawsOfFields.{WithdrawalIsItsFields}
use Rattle.excluded.specs.LawsOfTests.{WithdrawalsAreTested}
use Rattle.excluded.proofs.Tests.{is_true, eqb_tests, both_tests, where_so_tests, same_tests, not_tests}
use Rattle.excluded.proofs.TestsMinutes.{plan_tests}
use Rattle.excluded.proofs.Same.{same_answer_lem, same_state_lem}

module _ (r : Trial) where
  withdrawn_tests : Tests (is_withdrawal r) (Withdrawn r)
  withdrawn_tests = same_answer_lem (result_of r).answer withdrawn

  rest_tests : Tests (rest_sound r) (SoundPlan r.station (feeder_in r) (rest r))
  rest_tests = plan_tests r.station (feeder_in r) (rest r)

  each_tested : (f : Field) → Tests (tested r f) (Holds r f)
  each_tested removed = same_tests withdrawn_tests (both_tests (is_true (waits r)) rest_tests)
  each_tested others_same =
      where_so_tests withdrawn_tests
      (same_state_lem (result_of r).state
      (holding r.station (feeder_in r) (without_ticket r.ticket (held_of r)) r.station.next))
  each_tested place_free =
      where_so_tests withdrawn_tests (eqb_tests (suc (length (charges_on (result_of r).state (feeder_in r)))) (length (held_of r)))
  each_tested unchanged = where_so_tests (not_tests withdrawn_tests) (same_state_lem (result_of r).state r.station)

  -- The fields one by one

  abbrev Whole : Type 0
  Whole = Withdrawal r.station (feeder_in r) r.ticket (result_of r)

  field_holds : Whole → (f : Field) → Holds r f
  field_holds o removed = o.removed
  field_holds o others_same = o.others_same
  field_holds o place_free = o.place_free
  field_holds o unchanged = o.unchanged

pub withdrawals_tested : WithdrawalsAreTested
withdrawals_tested r f = each_tested r f

pub withdrawal_fields : WithdrawalIsItsFields
withdrawal_fields r = (
  field_holds r,
  (λ h.
      record {
        removed = h removed;
        others_same = h others_same;
        place_free = h place_free;
        unchanged = h unchanged;
      }),
)
