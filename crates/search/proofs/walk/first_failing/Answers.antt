-- `search::walk::first_failing` meets its contract.
use mathlib.Core.Path.{subst}
use Prim.Native.Nat.{ℕ, ◌+◌}
use native.Mathlib.Omega.{arith}
use mathlib.Core.Bool.{Bool}
use Rattle.search.specs.Rooms.{FirstFailing}
use Rattle.search.proofs.Unders.{others_under}
use Rattle.search.proofs.walk.first_failing.Goals as goal

pub returns-in_default : goal.returns-in_default
returns-in_default c =
    subst (λ (f : ℕ → Bool). FirstFailing f c.args.steps.now c.args.from (c.args.from + c.args.draw.time) c.first_failing_on-in_default.result)
    (others_under c.args.draw.line (omega arith) (omega arith) (omega arith) c.args.steps.now c.args.caps.now c.args.draw.rate)
    c.first_failing_on-in_default.ensures
