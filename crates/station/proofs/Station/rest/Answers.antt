use mathlib.Core.Path.{◌≡◌, refl, ap, ◌∙◌}
use Prim.Native.Nat.{◌<◌}
use native.Mathlib.Omega.{arith}
use mathlib.Core.Bool.{false}
use mathlib.Core.List.{◌++◌}
use lib.ListN.{length}
use Rattle.std.proofs.Common.{rules}
use Rattle.rules.specs.Charge.{loads_of}
use Rattle.charges.specs.Arrays.{charges_of}
use Rattle.charges.specs.Drawn.{seen_from}
use Rattle.charges.proofs.Feeders.{others_pass, others_join}
use Rattle.station.specs.View.{feeder_at, view}
use Rattle.station.proofs.Views.{view_length, length_among, among, among_read}
use Rattle.station.proofs.Rests.{all_gathered, held_at_lem, length_gathered}
use Rattle.station.proofs.Station.rest.Goals.{then-i-place, else-i-place}
use Rattle.station.proofs.Station.rest.Goals as goal

pub loop-i-preserved : goal.loop-i-preserved
loop-i-preserved c =
    let s = c.args.self.now in
    let i = c.loop-i.i in
    let before = c.loop-i.invariant in
    let here : i < s.count = among s c.requires.0 c.feeders-other-items.ensures c.loop-i-test.true in
    elim c.if-i-place.branch [
      | then-i-place w ↦
          let joined : w.append.new.self ≡ c.loop-i.rest ++ seen_from false (loads_of (charges_of (feeder_at s i).charges)) =
          w.append.ensures ∙ rw (c.other-item.is ∙ among_read s c.feeders-other-items.ensures c.loop-i-test.true here _) refl in (
            rw w.rest-is (others_join before.0 (λ e. w.if-i-place.true (omega (arith, e))) (omega (arith, here, view_length s)) (held_at_lem s i c.requires.0 here) joined),
            λ h. rw w.rest-is (omega (arith, before.1 (omega (arith, h, w.if-i-place.true)), (feeder_at s i).charges.few, length_gathered false c.loop-i.rest (feeder_at s i).charges joined)),
          )
      | else-i-place w ↦ (
        rw w.rest-is (others_pass before.0 (omega (arith, w.if-i-place.false))),
        λ h. rw w.rest-is (omega (arith, before.0.few)),
      )
    ]

pub returns : goal.returns
returns c =
    let s = c.args.self.now in
    let gathered = c.loop-i.invariant in
    let last : c.loop-i.i ≡ s.count =
    omega (arith, length_among s c.requires.0, ap length c.feeders-other-items.ensures, c.loop-i-test.false, c.loop-i.auto) in
    let whole : c.loop-i.i ≡ length (view s).feeders = omega (arith, last, view_length s) in (
      search (rules, all_gathered (view s) gathered.0 whole),
      omega (arith, last, c.requires.0.few, gathered.1 (omega (arith, last, c.requires.1))),
    )
