use Rattle.std.proofs.Common.{rules}
use native.Mathlib.Omega.{arith}
use lib.ListN.{get_or}
use Rattle.charges.specs.Arrays.{charge_at}
use Rattle.boards.proofs.Boarding.{walked_none, walked_on, walked_answered, walked_end}
use Rattle.boards.proofs.Showing.{shown_here, shown_before}
use Rattle.boards.proofs.board.Goals.{then-charges-place, else-charges-place}
use Rattle.boards.proofs.board.Goals as goal

pub loop-answered-init : goal.loop-answered-init
loop-answered-init c = walked_none _ _ _

-- the charge that is looked at is held

pub loop-answered-preserved-then-is_looked_at : goal.loop-answered-preserved-then-is_looked_at
loop-answered-preserved-then-is_looked_at c =
    let next = walked_on c.requires c.loop-answered.invariant (omega arith) c.is_looked_at.ensures c.if-is_looked_at.true in
    let charge = charge_at c.args.charges.now c.loop-answered.place in
    let asked = get_or c.args.asked.now c.loop-answered.answered 0 in
    elim c.if-charges-place.branch [
      | then-charges-place w ↦ next (shown_here c.loop-answered.answers c.loop-answered.answered charge.start charge.ticket asked (omega (arith, w.if-charges-place.true)) (search rules)) (omega arith)
      | else-charges-place w ↦ next (shown_before c.loop-answered.answers c.loop-answered.answered charge.start charge.ticket asked (λ e. omega (arith, e, w.if-charges-place.false)) (search rules)) (omega arith)
    ]

pub loop-answered-preserved : goal.loop-answered-preserved
loop-answered-preserved c = walked_answered c.requires c.loop-answered.invariant (omega arith) c.is_looked_at.ensures c.if-is_looked_at.false (omega arith)

pub returns : goal.returns
returns c = walked_end c.requires c.loop-answered.invariant (omega (arith, c.loop-answered-test.false, c.loop-answered.invariant.answered))
