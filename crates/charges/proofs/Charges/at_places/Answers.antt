use native.Mathlib.Omega.{arith}
use Rattle.charges.proofs.Gathering.{held_so_far, holds_next}
use Rattle.charges.proofs.Charges.at_places.Goals as goal

pub push-requires : goal.push-requires
push-requires c =
    omega (arith, held_so_far c.args.self.now c.as_slice-place-items.result.now c.loop-place.place-index c.loop-place.invariant c.loop-place-test.true, c.as_slice-place-items.ensures.1.few)

pub loop-place-preserved : goal.loop-place-preserved
loop-place-preserved c =
    holds_next c.args.self.now c.as_slice-place-items.result.now c.loop-place.place-index c.loop-place.invariant c.loop-place-test.true
    c.at.ensures c.push.ensures.charges c.push.ensures.columns
