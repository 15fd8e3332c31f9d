use Prim.Native.Nat.{◌+◌}
use native.Mathlib.Omega.{arith}
use Rattle.profile.proofs.Edited.{minute_at}
use Rattle.search.proofs.Passings.{passing_below, reached_on, failed_on}
use Rattle.search.proofs.walk.first_passing.Goals as goal

pub bounds-steps-i : goal.bounds-steps-i
bounds-steps-i g c = passing_below c.loop-s.invariant.0 (omega (arith, c.loop-s-test.true)) c.test.ensures c.requires.seek c.in-Some.failing c.in-Some.is c.requires.settled

pub loop-s-preserved : goal.loop-s-preserved
loop-s-preserved g c =
    let next = minute_at c.args.steps.now (c.in-Some.failing.step + 1) in (
      reached_on c.loop-s.invariant.0 (omega (arith, c.loop-s-test.true)) c.test.ensures c.requires.seek c.in-Some.failing c.in-Some.is c.requires.settled
          (omega (arith, next)) (omega arith),
      λ f h.
          failed_on c.loop-s.invariant.0 (omega (arith, c.loop-s-test.true)) c.test.ensures c.requires.seek c.in-Some.failing c.in-Some.is c.requires.settled
          (omega (arith, next)) f h (c.loop-s.invariant.1 f h),
    )
