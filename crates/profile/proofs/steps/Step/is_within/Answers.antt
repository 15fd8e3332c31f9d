use mathlib.Core.Path.{sym, ◌∙◌, ap}
use mathlib.Core.Bool.{Bool, ◌&&◌}
use Prim.Native.Nat.{max}
use native.Mathlib.Omega.{arith}
use borrow.Author.Tests.{le-leb, lt-leb}
use lib.Dec.{leb}
use Rattle.rules.specs.Load.{whole_of}
use Rattle.profile.specs.Steps.{counts_of}
use Rattle.profile.proofs.Balances.{limits_told}
use Rattle.profile.proofs.steps.Step.is_within.Goals as goal

pub returns-then-largest-limit : goal.returns-then-largest-limit
returns-then-largest-limit c =
    let x = c.args.self in
    rw (c.whole.ensures.0, c.from.ensures)
    (sym (ap (λ (b : Bool). b && leb (whole_of (counts_of x)) c.args.site) (le-leb (max x.one (max x.two x.three)) c.args.limit (omega (arith, c.largest.ensures, c.if-largest-limit.true))))
    ∙ limits_told x c.args.limit c.args.site)

pub returns-else-largest-limit : goal.returns-else-largest-limit
returns-else-largest-limit c =
    let x = c.args.self in
    let above = lt-leb (max x.one (max x.two x.three)) c.args.limit (omega (arith, c.largest.ensures, c.if-largest-limit.false)) in
    rw c.largest.ensures (above ∙ sym (ap (λ (b : Bool). b && leb (whole_of (counts_of x)) c.args.site) above) ∙ limits_told x c.args.limit c.args.site)
