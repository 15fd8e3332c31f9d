-- These steps have the rate more on the line, and stand in the list again.
use Prim.Native.Nat.{◌≤◌}
use mathlib.Core.Path.{ap}
use native.Mathlib.Omega.{arith}
use lib.ListN.{length, length-take}
use Rattle.profile.proofs.Edited.{raised_part}
use Rattle.profile.proofs.loads.Profile.raise.Goals as goal

pub returns : goal.returns
returns g c =
    let below : c.args.steps.end ≤ c.self.inside.count = omega (arith, c.requires.below, ap length c.self.view_is, length-take c.self.inside.count c.self.inside.list) in
    rw (← c.self.view_is)
    (raised_part c.self.inside.list (omega (arith, c.self.invariant, c.self.told)) c.requires.order below c.requires.on_column c.loop-step.invariant c.loop-step.auto.step-items c.loop-step-test.false)
