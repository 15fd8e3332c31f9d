-- Of every accepted order.
use mathlib.Core.Logic.{◌↔◌}
use mathlib.Core.Path.{◌≡◌, sym, ap, subst, ◌∙◌}
use Prim.Native.Nat.{ℕ, ◌≤◌, ◌<◌}
use mathlib.Core.Bool.{true, ◌&&◌}
use mathlib.Core.List.{map}
use lib.Dec.{ltb, leb}
use native.Mathlib.Omega.{arith}
use Rattle.rules.specs.Basics.{Each}
use Rattle.rules.specs.Load.{active}
use Rattle.rules.specs.Calls.{step}
use Rattle.rules.proofs.Lists.{map-append}
use Rattle.guarantee.specs.Past.{Order, Past, past, start_of, active_until, load_of, staying_orders}
use Rattle.guarantee.specs.DemandThree.{Unmoved}
use Rattle.guarantee.proofs.Each.{each_in}
use Rattle.station.specs.View.{view}
use Rattle.theorem.specs.Theorem.{Chain, call_made}
use Rattle.theorem.specs.AfterCalls.{ForAnyCalls, known_after, AfterAnyCalls}
use Rattle.theorem.specs.EveryOrder.{OnAFeeder, NotBeforeItsOrderMinute, UnbrokenForItsFullTime, ReportedOnceBegun, NotReportedBefore, EndsUnderTheCeiling, BegunStartsStay}
use Rattle.theorem.proofs.Chains.{theorem}
use Rattle.theorem.proofs.Conditions.{below_is, most_is, both_is}
use Rattle.theorem.proofs.Carried.{carried, kept, chain_part}

pub on_a_feeder : AfterAnyCalls OnAFeeder
on_a_feeder = carried OnAFeeder (λ s calls three. three.feeders)

pub not_before : AfterAnyCalls NotBeforeItsOrderMinute
not_before x answer first opens calls chain =
    each_in (λ o k. k.not_early) (staying_orders (known_after first calls)) (kept x answer first opens calls chain)

drawn_unbroken :
    (h : Past) (o : Order) (t : ℕ)
    → (active (load_of step h o) t ≡ true) ↔ ((start_of step h o ≤ t) × (t < active_until step h o))
drawn_unbroken h o t =
    subst
    (λ (until : ℕ).
    (leb (start_of step h o) t && ltb t until ≡ true) ↔ ((start_of step h o ≤ t) × (t < active_until step h o)))
    (omega arith)
    (both_is (leb (start_of step h o) t) (ltb t (active_until step h o)) (most_is (start_of step h o) t)
    (below_is t (active_until step h o)))

pub unbroken : AfterAnyCalls UnbrokenForItsFullTime
unbroken x answer first opens calls chain =
    each_in
    (λ o k t. drawn_unbroken (known_after first calls) o t)
    (staying_orders (known_after first calls))
    (kept x answer first opens calls chain)

pub reported_once : AfterAnyCalls ReportedOnceBegun
reported_once x answer first opens calls chain =
    each_in (λ o k. k.reported) (staying_orders (known_after first calls)) (kept x answer first opens calls chain)

pub not_reported : AfterAnyCalls NotReportedBefore
not_reported x answer first opens calls chain =
    each_in (λ o k. k.not_reported) (staying_orders (known_after first calls)) (kept x answer first opens calls chain)

pub under_the_ceiling : AfterAnyCalls EndsUnderTheCeiling
under_the_ceiling = carried EndsUnderTheCeiling (λ s calls three. three.in_time)

pub begun_starts_stay : ForAnyCalls BegunStartsStay
begun_starts_stay x answer first opens calls chain part rest e =
    let g = theorem x answer first opens calls chain in
    let p = theorem x answer first opens part (chain_part first part rest (subst (Chain first) e chain)) in
    subst (λ (here : Past). Each (Unmoved step here (known_after first calls)) (staying_orders here)) (sym p.seen)
    (subst
    (λ (there : Past).
    Each (Unmoved step (past step (view first) (map call_made part)) there)
    (staying_orders (past step (view first) (map call_made part))))
    (sym g.seen)
    (g.three.unmoved (map call_made part) (map call_made rest) (ap (map call_made) e ∙ map-append call_made part rest)))
