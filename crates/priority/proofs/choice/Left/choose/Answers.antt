use mathlib.Core.Path.{◌∙◌, sym}
use native.Mathlib.Omega.{arith}
use borrow.Author.Tests.{ltb-true, ltb-false}
use Rattle.priority.proofs.Choosing.{best_stop, best_stays, best_moves}
use Rattle.priority.proofs.choice.Left.choose.Goals.{then-is_heavier, else-is_heavier}
use Rattle.priority.proofs.choice.Left.choose.Goals as goal

pub returns-then-not-is_heavier : goal.returns-then-not-is_heavier
returns-then-not-is_heavier c =
    best_stop c.loop-j.invariant c.requires c.in-Some.ensures c.weigh-next.ensures
    (omega (arith, ltb-false, sym c.is_heavier.ensures ∙ c.if-not-is_heavier.true))

pub loop-j-preserved : goal.loop-j-preserved
loop-j-preserved c =
    elim c.if-is_heavier.branch [
      | then-is_heavier x ↦ rw (x.best-is, x.taken-is) (best_moves c.loop-j.invariant c.requires c.in-Some.ensures c.weigh-next.ensures (omega (arith, ltb-true, sym c.is_heavier-in-Some.ensures ∙ x.if-is_heavier.true)))
      | else-is_heavier x ↦ rw (x.best-is, x.taken-is) (best_stays c.loop-j.invariant c.requires c.in-Some.ensures c.weigh-next.ensures (omega (arith, ltb-false, sym c.is_heavier-in-Some.ensures ∙ x.if-is_heavier.false)))
    ]
