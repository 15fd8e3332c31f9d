-- The test of each field of `Better` is true exactly where the field holds, and the fields one by one are `Better`.
use mathlib.Core.Path.{refl}
use Rattle.rules.specs.Basics.{Each}
use Rattle.rules.specs.Load.{last_until}
use Rattle.rules.specs.Charge.{loads_of, lateness}
use Rattle.rules.specs.Site.{feeder_of, site_charges, others_of}
use Rattle.guarantee.specs.DemandTwo.{Better}
use Rattle.excluded.specs.Same.{every}
use Rattle.excluded.specs.FieldsBetter.{Merit, not_before_clock, not_before_order, unbroken, limit, balance, site, no_later, less_late, merits, Plan, held_of, new_of, last_of, Merits, merited}
use Rattle.excluded.specs.LawsOfTests.{Tests}
use Rattle.excluded.specs.LawsOfFields.{BetterIsItsFields}
use Rattle.excluded.specs.LawsOfTests.{BetterIsTested}
use Rattle.guarantee.proofs.Taking.{each_unbroken}
use Rattle.excluded.proofs.Tests.{leb_tests, ltb_tests, every_tests}
use Rattle.excluded.proofs.TestsMinutes.{limit_tests, balance_tests, site_tests}

pub better_tested : BetterIsTested
better_tested x not_before_clock = every_tests (λ u. leb_tests x.station.clock u) x.list
better_tested x not_before_order = every_tests (λ c. leb_tests c.order_minute c.start) (new_of x)
better_tested x unbroken = ((λ e. each_unbroken (new_of x)), (λ p. refl))
better_tested x limit = limit_tests (feeder_of x.station x.feeder).limit x.station.clock (loads_of (new_of x))
better_tested x balance = balance_tests (feeder_of x.station x.feeder).bound x.station.clock (loads_of (new_of x))
better_tested x site =
    site_tests x.station.site x.station.clock (loads_of (others_of x.station x.feeder)) (loads_of (new_of x))
better_tested x no_later = leb_tests (last_of x) (last_until (loads_of (site_charges x.station)))
better_tested x less_late = ltb_tests (lateness (new_of x)) (lateness (held_of x))

module _ (x : Plan) where
  field_merits : Better x.station x.feeder x.list (new_of x) → (m : Merit) → Merits x m
  field_merits b not_before_clock = b.not_before_clock
  field_merits b not_before_order = b.not_before_order
  field_merits b unbroken = b.unbroken
  field_merits b limit = b.sound.limit
  field_merits b balance = b.sound.balance
  field_merits b site = b.sound.site
  field_merits b no_later = b.no_later
  field_merits b less_late = b.less_late

  merits_better : ((m : Merit) → Merits x m) → Better x.station x.feeder x.list (new_of x)
  merits_better h =
      record {
        not_before_clock = h not_before_clock;
        not_before_order = h not_before_order;
        unbroken = h unbroken;
        sound = record { limit = h limit; balance = h balance; site = h site };
        no_later = h no_later;
        less_late = h less_late;
      }

  every_merit : Each (Merits x) merits → (m : Merit) → Merits x m
  every_merit p not_before_clock = p.0
  every_merit p not_before_order = p.1.0
  every_merit p unbroken = p.1.1.0
  every_merit p limit = p.1.1.1.0
  every_merit p balance = p.1.1.1.1.0
  every_merit p site = p.1.1.1.1.1.0
  every_merit p no_later = p.1.1.1.1.1.1.0
  every_merit p less_late = p.1.1.1.1.1.1.1.0

  all_merits : ((m : Merit) → Merits x m) → Each (Merits x) merits
  all_merits h =
      (h not_before_clock, (h not_before_order, (h unbroken, (h limit, (h balance, (h site, (h no_later, (h less_late, tt))))))))

  pub merits_tests : Tests (every (merited x) merits) (Better x.station x.feeder x.list (new_of x))
  merits_tests = (
    (λ e. merits_better (every_merit ((every_tests (better_tested x) merits).0 e))),
    (λ b. (every_tests (better_tested x) merits).1 (all_merits (field_merits b))),
  )

pub better_fields : BetterIsItsFields
better_fields x = (field_merits x, merits_better x)
