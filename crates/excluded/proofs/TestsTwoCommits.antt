-- The test of each field of demand 2 for commits is true exactly where the field holds, and the fields one by one are what
-- demand 2 says of a commit.
use Rattle.rules.specs.Calls.{refused, committed, draw_for}
use Rattle.guarantee.specs.DemandTwo.{CommitStart}
use Rattle.excluded.specs.FieldsTwoCommits.{Field, answer, refusal, others_same, Trial, result_of, order_of, Earliest, taken, Claim, earliest, test}
use Rattle.excluded.specs.LawsOfTests.{Tests}
use Rattle.excluded.specs.LawsOfFields.{CommitIsItsFields}
use Rattle.excluded.specs.LawsOfTests.{CommitsAreTested}
use Rattle.excluded.proofs.Tests.{free_tests, where_so_tests, same_tests, not_tests}
use Rattle.excluded.proofs.TestsStarts.{earliest_tests}
use Rattle.excluded.proofs.Same.{same_answer_lem, same_state_lem}

shown_tests : (r : Trial) → Tests (earliest r) (Earliest r)
shown_tests r = earliest_tests r.station r.feeder (draw_for r.station r.feeder r.line r.time r.rate) r.shown

claim_tested : (r : Trial) (f : Field) → Tests (test r f) (Claim r f)
claim_tested r answer =
    same_tests (same_answer_lem (result_of r).answer (committed r.station.next r.shown)) (shown_tests r)
claim_tested r refusal = where_so_tests (not_tests (shown_tests r)) (same_answer_lem (result_of r).answer (refused 16))
claim_tested r others_same = where_so_tests (shown_tests r) (same_state_lem (result_of r).state (taken r))

pub commits_tested : CommitsAreTested
commits_tested r f =
    free_tests r.station (order_of r) (claim_tested r f)

-- The fields one by one

module _ (r : Trial) where
  abbrev Whole : Type 0
  Whole = CommitStart r.station r.feeder r.line r.time r.due r.rate r.shown (result_of r)

  field_holds : Whole → (f : Field) → Claim r f
  field_holds o answer = o.answer
  field_holds o refusal = o.refusal
  field_holds o others_same = o.others_same

pub commit_fields : CommitIsItsFields
commit_fields r = (
  (λ o f q. field_holds r (o q) f),
  (λ h q. record { answer = h answer q; refusal = h refusal q; others_same = h others_same q }),
)
