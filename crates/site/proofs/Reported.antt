-- The report of a clock move, feeder by feeder.
use mathlib.Core.Path.{◌≡◌, refl, sym, subst, ◌∙◌}
use Prim.Native.Nat.{ℕ, ◌+◌, ◌-◌, ◌*◌, ◌≤◌}
use mathlib.Core.List.{List, ◌++◌}
use native.Mathlib.Omega.{arith}
use lib.ListN.{length, take}
use Rattle.rules.specs.Site.{site_charges}
use Rattle.rules.specs.Calls.{reported, pairs, written}
use Rattle.rules.proofs.Queues.{Distinct}
use Rattle.rules.proofs.Distinct.{site_distinct}
use Rattle.charges.specs.Arrays.{charges_of}
use Rattle.charges.specs.Held.{Listed}
use Rattle.queues.specs.Queues.{Ordered}
use Rattle.queues.specs.Reports.{together, CanReport}
use Rattle.queues.proofs.Feeders.{distinct_from, Reports, reports_none, can_report, reports_join}
use Rattle.station.specs.declared.Feeder.{Feeder}
use Rattle.station.specs.declared.Station.{Station}
use Rattle.station.specs.View.{view, Formed, Valid}
use Rattle.station.proofs.Views.{length_among}
use Rattle.station.proofs.Held.{valid_listed}
use Rattle.site.proofs.FromTheLast.{held_from, from_none, Left, left_all, Last}

-- a report of all charges that the clock passes
abbrev pub AllReported : Station → ℕ → List ℕ → List ℕ → ℕ → Type 0
AllReported s target entry list n =
    (n ≡ length (reported s.clock target (site_charges (view s))))
    × (list ≡ written (pairs (reported s.clock target (site_charges (view s)))) entry)

-- that of all feeders but those that are left
pub record ReportedBehind (s : Station) (rest : List Feeder) (target : ℕ) (entry list : List ℕ) (n : ℕ) : Type 0 where
  pub left : Left s rest
  pub same_length : length list ≡ length entry
  pub few : n ≤ 180 * (s.count - length rest)
  pub reports : Reports s.clock target (held_from s (length rest)) entry list n

pub reported_none :
    (s : Station) (target : ℕ) (entry : List ℕ) {rest : List Feeder} {n : ℕ} → Formed s → rest ≡ take s.count s.feeders → n ≡ 0 →
    ReportedBehind s rest target entry entry n
reported_none s target entry w e z =
    rw (e, z)
    (record {
      left = left_all s w;
      same_length = refl;
      few = omega arith;
      reports = rw (from_none s (length_among s w)) (reports_none s.clock target entry);
    })

pub reported_all :
    {s : Station} {rest : List Feeder} {target : ℕ} {entry list : List ℕ} {n : ℕ} → ReportedBehind s rest target entry list n → length rest ≡ 0 →
    AllReported s target entry list n
reported_all {s} {rest} {target} {entry} {list} {n} r e =
    let v : Reports s.clock target (held_from s 0) entry list n = subst (λ (j : ℕ). Reports s.clock target (held_from s j) entry list n) e r.reports in
    (v.as_many, v.list_is)

module _ (s : Station) (v : Valid s) {rest rest' : List Feeder} {g : Feeder} (x : Last s rest g rest') where
  pub last_listed : Listed g.charges
  last_listed = subst (λ (h : Feeder). Listed h.charges) (sym x.is) (valid_listed s v (length rest') x.inside)

  module _
      {target : ℕ} {entry list : List ℕ} {n : ℕ} (room : 360 * s.count ≤ length entry) (r : ReportedBehind s rest target entry list n)
      {is : List ℕ} (o : Ordered g.charges (reported s.clock target (charges_of g.charges)) is) where
    apart : Distinct (charges_of g.charges ++ held_from s (length rest))
    apart = subst Distinct x.held (distinct_from (view s).feeders (length rest') (site_distinct (view s) v.state))

    pub report_few : n + length is ≤ 180 * (s.count - length rest')
    report_few =
        omega (arith, x.one_less, x.inside, r.few, o.places.few, g.charges.few)

    fits : 2 * (n + length is) ≤ length entry
    fits = omega (arith, report_few, room)

    pub feeder_can : CanReport g.charges is list n
    feeder_can = can_report o apart r.reports fits

    pub reported_on :
        {list' : List ℕ} {n' : ℕ}
        → list' ≡ written (pairs (together g.charges is list n)) list
        → length list' ≡ length list
        → n' ≡ n + length is
        → ReportedBehind s rest' target entry list' n'
    reported_on {list'} {n'} w l m =
        record {
          left = x.left;
          same_length = l ∙ r.same_length;
          few = omega (arith, report_few, m);
          reports = rw x.held (reports_join o apart r.reports fits w m);
        }
