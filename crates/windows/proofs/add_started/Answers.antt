use native.Mathlib.Omega.{arith}
use mathlib.Core.Path.{◌≡◌}
use lib.ListN.{length}
use Rattle.windows.proofs.Extending.{next_drawable, extended_can_add, extended_on, extended_past}
use Rattle.windows.proofs.add_started.Goals.{then-contains, else-contains}
use Rattle.windows.proofs.add_started.Goals as goal

pub loop-i-preserved : goal.loop-i-preserved
loop-i-preserved g c =
    elim c.if-contains.branch [
      | then-contains w ↦
          rw w.profile-is (extended_on c.requires c.loop-i.invariant c.loop-i-test.true c.contains.ensures.value w.if-contains.true
          (omega arith) (omega arith) (omega arith) (omega arith) w.add.ensures)
      | else-contains w ↦ rw w.profile-is (extended_past c.requires c.loop-i.invariant c.loop-i-test.true c.contains.ensures.value w.if-contains.false)
    ]

pub add-requires : goal.add-requires
add-requires g c =
    let d = next_drawable c.requires c.loop-i.invariant c.loop-i-test.true c.contains.ensures.value in (
      omega (arith, c.requires.room.most),
      extended_can_add c.requires c.loop-i.invariant c.loop-i-test.true c.contains.ensures.value c.if-contains.true
          (omega (arith, d.is_rate.low)) (omega (arith, d.is_rate.high)) (omega (arith, d.ends_fit)),
    )

pub returns : goal.returns
returns g c = let e : c.loop-i.i ≡ length c.args.loads.starts.now = omega arith in λ clock loads s. rw (← e) (c.loop-i.invariant.shown clock loads s)
