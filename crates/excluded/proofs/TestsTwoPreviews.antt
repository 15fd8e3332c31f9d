-- The test of each field of demand 2 for previews is true exactly where the field holds, and the fields one by one are what
-- demand 2 says of a preview.
use mathlib.Core.Path.{◌≡◌, sym, ap, subst, ◌∙◌}
use Prim.Native.Nat.{ℕ}
use Rattle.rules.specs.Charge.{loads_of}
use Rattle.rules.specs.Site.{feeder_of, others_of}
use Rattle.rules.specs.Calls.{previewed, lent, draw_for, refusals}
use Rattle.guarantee.specs.DemandOne.{NoneApplies}
use Rattle.guarantee.specs.DemandTwo.{EarliestStart, PreviewStart}
use Rattle.excluded.specs.Same.{number_in}
use Rattle.excluded.specs.FieldsTwoPreviews.{Field, answer, not_early, limit, balance, site, earliest, same_station, same_list_lem, Trial, call_of, result_of, start_of, loads_with, Holds}
use Rattle.excluded.specs.LawsOfFields.{PreviewIsItsFields}
use Rattle.excluded.specs.LawsOfTests.{PreviewsAreTested}
use Rattle.excluded.proofs.Tests.{leb_tests, free_tests}
use Rattle.excluded.proofs.TestsMinutes.{limit_tests, balance_tests, site_tests}
use Rattle.excluded.proofs.TestsStarts.{no_earlier_tests}
use Rattle.excluded.proofs.Same.{same_list_lem as same_lists, same_answer_lem, same_state_lem}

pub previews_tested : PreviewsAreTested
previews_tested r answer = free_tests r.station (call_of r) (same_answer_lem (result_of r).answer (previewed (start_of r)))
previews_tested r not_early = free_tests r.station (call_of r) (leb_tests r.station.clock (start_of r))
previews_tested r limit =
    free_tests r.station (call_of r)
    (limit_tests (feeder_of r.station r.feeder).limit r.station.clock (loads_with r (start_of r)))
previews_tested r balance =
    free_tests r.station (call_of r)
    (balance_tests (feeder_of r.station r.feeder).bound r.station.clock (loads_with r (start_of r)))
previews_tested r site =
    free_tests r.station (call_of r)
    (site_tests r.station.site r.station.clock (loads_of (others_of r.station r.feeder)) (loads_with r (start_of r)))
previews_tested r earliest =
    free_tests r.station (call_of r)
    (no_earlier_tests r.station r.feeder (draw_for r.station r.feeder r.line r.time r.rate) (start_of r))
previews_tested r same_station = same_state_lem (result_of r).state r.station
previews_tested r same_list_lem = same_lists (result_of r).list (lent (call_of r))

-- The fields one by one

module _ (r : Trial) where
  abbrev Whole : Type 0
  Whole = PreviewStart r.station r.feeder r.line r.time r.due r.rate (result_of r)

  abbrev Start : ℕ → Type 0
  Start u = EarliestStart r.station r.feeder (draw_for r.station r.feeder r.line r.time r.rate) u

  -- the start is that of the answer
  started : Whole → NoneApplies (refusals r.station (call_of r)) → Start (start_of r)
  started o q = go (o.answer q)
    where
      go : (u : ℕ) × ((result_of r).answer ≡ previewed u) × Start u → Start (start_of r)
      go (u, e, h) = subst Start (sym (ap (number_in 1) e)) h

  answered : Whole → NoneApplies (refusals r.station (call_of r)) → (result_of r).answer ≡ previewed (start_of r)
  answered o q = go (o.answer q)
    where
      go : (u : ℕ) × ((result_of r).answer ≡ previewed u) × Start u → (result_of r).answer ≡ previewed (start_of r)
      go (u, e, h) = e ∙ ap previewed (sym (ap (number_in 1) e))

  field_holds : Whole → (f : Field) → Holds r f
  field_holds o answer = answered o
  field_holds o not_early = λ q. (started o q).not_early
  field_holds o limit = λ q. (started o q).sound.limit
  field_holds o balance = λ q. (started o q).sound.balance
  field_holds o site = λ q. (started o q).sound.site
  field_holds o earliest = λ q. (started o q).earliest
  field_holds o same_station = o.same_station
  field_holds o same_list_lem = o.same_list_lem

pub preview_fields : PreviewIsItsFields
preview_fields r = (
  field_holds r,
  (λ h.
      record {
        answer =
            λ q. (
              start_of r,
              h answer q,
              record {
                not_early = h not_early q;
                sound = record { limit = h limit q; balance = h balance q; site = h site q };
                earliest = h earliest q;
              },
            );
        same_station = h same_station;
        same_list_lem = h same_list_lem;
      }),
)
