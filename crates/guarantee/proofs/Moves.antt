-- A clock move keeps the invariant.
use mathlib.Core.Path.{◌∙◌}
use Prim.Native.Nat.{ℕ, ◌≤◌}
use mathlib.Core.List.{List, ◌++◌}
use native.Mathlib.Omega.{arith}
use lib.ListN.{length}
use Rattle.rules.specs.Basics.{keep}
use Rattle.rules.specs.Site.{State, site_charges}
use Rattle.rules.specs.Calls.{is_passed, start_before, reported, pairs}
use Rattle.guarantee.specs.Past.{Order, Report, first_pairs}
use Rattle.guarantee.proofs.Each.{each_in}
use Rattle.guarantee.proofs.History.{Booked, charges_in, Lasts, charges_each, fit_lasts}
use Rattle.guarantee.proofs.Held.{station_of}
use Rattle.guarantee.proofs.Holdings.{station_site_lem}
use Rattle.guarantee.proofs.Reports.{sum_reports_append, sum_sorted, sum_pairs, sum_passed, sum_kept}
use Rattle.guarantee.proofs.Invariant.{Invariant}

module _
    (b : State) (k n : ℕ) (os : List Order) (ws : List ℕ) (hs : List Booked) (rs : List Report)
    (inv : Invariant b k n os ws hs rs)
  where
    pub after_move :
        (m : ℕ) (rest : List ℕ)
        → k ≤ m
        → let report = reported k m (site_charges (station_of b k n hs)) in
        Invariant b m n os ws hs (rs ++ first_pairs (length report) (pairs report ++ rest))
    after_move m rest h =
        record {
          accepted = inv.accepted;
          last = omega (arith, inv.last);
          orders = inv.orders;
          off = inv.off;
          fit =
              each_in
              (λ x i.
              record {
                is_feeder_lem = i.is_feeder_lem;
                line = i.line;
                lasts = i.lasts;
                active = i.active;
                known = omega (arith, i.known);
                not_early = i.not_early;
              })
              hs
              inv.fit;
          in_time = inv.in_time;
          always = inv.always;
          reports =
              λ w.
              sum_reports_append w rs _
              ∙ rw (
                sum_pairs w (reported k m (site_charges (station_of b k n hs))) rest,
                sum_sorted w start_before (keep (is_passed k m) (site_charges (station_of b k n hs))),
                sum_kept w (is_passed k m) (station_site_lem b k n hs inv.fit),
                inv.reports w,
              )
              (sum_passed w k m (charges_in hs) h (charges_each Lasts (fit_lasts b k) hs inv.fit));
        }
