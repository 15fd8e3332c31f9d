-- The test of a station (specs/Validity.antt) holds exactly for the sites of one feeder that the rules call valid.
use mathlib.Core.Path.{◌≡◌, sym, subst}
use Prim.Native.Nat.{ℕ, ◌+◌, ◌≤◌}
use mathlib.Core.Bool.{true}
use native.Mathlib.Omega.{arith}
use lib.Dec.{eqb, leb}
use lib.ListN.{length}
use borrow.Author.Tests.{eqb-true, eq-eqb, leb-true, le-leb}
use Rattle.rules.specs.Basics.{Each}
use Rattle.rules.specs.Load.{sound}
use Rattle.rules.specs.Charge.{seen}
use Rattle.rules.specs.Site.{State, feeder_of, charges_on, limits_of}
use Rattle.rules.specs.Calls.{bound_of}
use Rattle.rules.specs.Valid.{ValidSettings, ValidPlan, IsFeeder, ValidState}
use Rattle.rules.proofs.Lists.{each_map}
use Rattle.layout.specs.Image.{only}
use Rattle.layout.specs.Validity.{between, settings_ranged, bound_right, record_right, is_valid}
use Rattle.layout.specs.LawsOfRestoring.{TestIsValidity}
use Rattle.layout.proofs.Listing.{every_all}
use Rattle.layout.proofs.Single.{first-is, is_first, ends_only, ends_most}
use Rattle.layout.proofs.Judging.{two_hold, six_hold, between_low, between_high, is_between, RightCharge}
use Rattle.layout.proofs.Holding.{EndsBy, plan_valid, record_valid}
use Rattle.layout.proofs.Testing.{valid_tested, tested_valid, each_right}

module _ (s : State) (one : length s.feeders ≡ 1) where
  -- what holds of feeder 1 holds of each
  each_feeder : (P : ℕ → Type 0) → P 1 → (f : ℕ) → IsFeeder s f → P f
  each_feeder P p f h = subst P (sym (is_first s one f h)) p

  pub valid_by_test : is_valid s ≡ true → ValidState s
  unfolding settings_ranged bound_right
  valid_by_test e =
      let t = valid_tested s e in
      let p = six_hold (between 1 (only s).limit 60) (leb (only s).percent 100) (leb (only s).tail 5) (leb s.clock 1000000) (between 1 s.next 65536) (between 1 s.site 720) t.settings_ranged_lem in
      let b = two_hold (eqb (only s).bound (bound_of (only s).limit (only s).percent)) (leb 1 (only s).bound) t.bound_right_lem in
      let next_low : 1 ≤ s.next = between_low 1 s.next 65536 p.4 in
      let right : Each (RightCharge s) (only s).charges = each_right s t.records in
      record {
        feeders_low = omega (arith, one);
        feeders_high = omega (arith, one);
        site_low = between_low 1 s.site 720 p.5;
        site_high = between_high 1 s.site 720 p.5;
        clock_high = leb-true s.clock 1000000 p.3;
        next_low = next_low;
        next_high = between_high 1 s.next 65536 p.4;
        settings =
            each_feeder (λ f. ValidSettings (feeder_of s f))
            (
            record {
              limit_low = between_low 1 (only s).limit 60 p.0;
              limit_high = between_high 1 (only s).limit 60 p.0;
              percent_high = leb-true (only s).percent 100 p.1;
              bound_is = eqb-true (only s).bound (bound_of (only s).limit (only s).percent) b.0;
              bound_low = leb-true 1 (only s).bound b.1;
              tail_high = leb-true (only s).tail 5 p.2;
            }
            );
        plan = each_feeder (λ f. ValidPlan s.site s.clock s.next (feeder_of s f)) (plan_valid s t next_low);
        sound_on =
            each_feeder (λ f. sound (limits_of s f) s.clock (seen (limits_of s f) (charges_on s f)) ≡ true) t.sound_on;
        apart = λ f g h j d. absurd (d (omega (arith, is_first s one f h, is_first s one g j)));
        ends_high = ends_most s one
            (each_map (RightCharge s) (λ c. c.active_time ≡ c.time + (only s).tail) (λ c r. r.active) (only s).charges right)
            (each_map (RightCharge s) (EndsBy s) (λ c r. r.end_high) (only s).charges right);
      }

  pub test_of_valid : ValidState s → is_valid s ≡ true
  unfolding settings_ranged bound_right
  test_of_valid v =
      tested_valid s
      (
      record {
        few = plan.few;
        settings_ranged_lem = rw (
          is_between 1 (only s).limit 60 set.limit_low set.limit_high,
          le-leb (only s).percent 100 set.percent_high,
          le-leb (only s).tail 5 set.tail_high,
          le-leb s.clock 1000000 v.clock_high,
          is_between 1 s.next 65536 v.next_low v.next_high,
          is_between 1 s.site 720 v.site_low v.site_high,
        );
        bound_right_lem = rw (eq-eqb (only s).bound (bound_of (only s).limit (only s).percent) set.bound_is, le-leb 1 (only s).bound set.bound_low);
        records = every_all (record_right s) (length (only s).charges) (record_valid s plan (ends_only s one v) v.next_low);
        sound_on = v.sound_on 1 (first-is s one);
      }
      )
    where
      set : ValidSettings (only s)
      set = v.settings 1 (first-is s one)

      plan : ValidPlan s.site s.clock s.next (only s)
      plan = v.plan 1 (first-is s one)

pub valid_exactly : TestIsValidity
valid_exactly s one = (valid_by_test s one, test_of_valid s one)
