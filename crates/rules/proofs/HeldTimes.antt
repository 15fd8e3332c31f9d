-- How large the numbers of a valid station are: no held time reaches 100,000,000, and lateness fits 64 bits.
use Prim.Native.Nat.{ℕ, ◌*◌, ◌≤◌}
use mathlib.Core.List.{List, [], ◌∷◌}
use native.Mathlib.Omega.{arith}
use lib.ListN.{length}
use Rattle.rules.specs.Basics.{Each}
use Rattle.rules.specs.Load.{last_until}
use Rattle.rules.specs.Charge.{Charge, active_until, loads_of, lateness}
use Rattle.rules.specs.Site.{Feeder, State, feeder_of, charges_on, others_of}
use Rattle.rules.specs.Valid.{ValidCharge, IsFeeder, ValidState}
use Rattle.rules.specs.laws.Stations.{TimesBelow, NoHeldTimeReachesAHundredMillion, LastMinuteHasACeiling, LatenessFits64Bits}
use Rattle.rules.proofs.Ends.{each_until}
use Rattle.rules.proofs.Sites.{until_joins, until_append, others_own, by_place, tails_high}
use Rattle.rules.proofs.Distinct.{each_joined}

pub last_ceiling : LastMinuteHasACeiling
last_ceiling s v = omega (arith, v.ends_high, v.clock_high, v.next_high, tails_high s v)

-- a feeder draws no longer than the site
feeder_until : (s : State) → ValidState s → (f : ℕ) → IsFeeder s f → last_until (loads_of (charges_on s f)) ≤ 95698080
feeder_until s v f h =
    omega (
      arith,
      last_ceiling s v,
      others_own (λ cs. last_until (loads_of cs)) until_joins s f h,
      until_append (others_of s f) (charges_on s f),
    )

times_below :
    (g : Feeder) (site clock next : ℕ) (cs : List Charge)
    → clock ≤ 1000000
    → Each (ValidCharge g site clock next) cs
    → Each (λ c. active_until c ≤ 95698080) cs
    → Each (TimesBelow 100000000) cs
times_below g site clock next [] k e u = tt
times_below g site clock next (c ∷ cs) k e u = (
  record {
    start = omega (arith, u.0);
    end = omega (arith, u.0, e.0.active);
    until = omega (arith, u.0);
    order_minute = omega (arith, e.0.ordered);
    due = omega (arith, e.0.due_high);
  },
  times_below g site clock next cs k e.1 u.1,
)

pub held_times : NoHeldTimeReachesAHundredMillion
held_times s v =
    each_joined (TimesBelow 100000000) s.feeders
    (by_place s (λ g. Each (TimesBelow 100000000) g.charges)
    (λ f h.
    times_below (feeder_of s f) s.site s.clock s.next (charges_on s f) v.clock_high (v.plan f h).each
    (each_until 95698080 (charges_on s f) (feeder_until s v f h))))

-- no charge is later than its end
late_most :
    (g : Feeder) (site clock next : ℕ) (cs : List Charge)
    → Each (ValidCharge g site clock next) cs
    → Each (λ c. active_until c ≤ 95698080) cs
    → lateness cs ≤ length cs * 95698080
late_most g site clock next [] e u = omega arith
late_most g site clock next (c ∷ cs) e u = omega (arith, u.0, e.0.active, late_most g site clock next cs e.1 u.1)

pub lateness_fits : LatenessFits64Bits
lateness_fits s v f h =
    let most : lateness (charges_on s f) ≤ length (charges_on s f) * 95698080
    = late_most (feeder_of s f) s.site s.clock s.next (charges_on s f) (v.plan f h).each
    (each_until 95698080 (charges_on s f) (feeder_until s v f h)) in
    record { most = omega (arith, most, (v.plan f h).few); fits = omega (arith, most, (v.plan f h).few) }
