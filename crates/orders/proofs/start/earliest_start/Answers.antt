use native.Mathlib.Omega.{arith}
use Rattle.orders.proofs.Windows.{window_can_add}
use Rattle.orders.proofs.Seeking.{seeking_begin, seeking_can, seeking_bounds, seeking_found, seeking_on}
use Rattle.orders.proofs.start.earliest_start.Goals as goal

pub returns-then-reach-until : goal.returns-then-reach-until
returns-then-reach-until g c = seeking_found c.requires.plan c.loop-until.invariant c.add_started.ensures (rw c.steps.ensures at c.first_fitting-start.ensures.high) (rw c.steps.ensures at c.first_fitting-start.ensures.first) (omega (arith, c.if-reach-until.true))

pub loop-until-init : goal.loop-until-init
loop-until-init g c = seeking_begin c.new-profile.ensures (omega arith) (omega arith)

pub loop-until-preserved : goal.loop-until-preserved
loop-until-preserved g c = seeking_on c.requires.plan c.loop-until.invariant c.add_started.ensures (rw c.steps.ensures at c.first_fitting-start.ensures.high) (rw c.steps.ensures at c.first_fitting-start.ensures.first) (omega (arith, c.if-reach-until.false)) (omega arith) (omega arith)

pub add_started-requires : goal.add_started-requires
add_started-requires g c =
    (omega (arith, c.requires.most), window_can_add c.loop-until.invariant.window c.loop-until.invariant.order c.requires.plan.drawable c.requires.enough c.requires.most)

pub first_fitting-start-requires : goal.first_fitting-start-requires
first_fitting-start-requires g c = rw c.steps.ensures (seeking_can c.requires.plan c.loop-until.invariant c.add_started.ensures (omega (arith, c.requires.enough, c.requires.most)))

pub overflow_add-reach : goal.overflow_add-reach
overflow_add-reach g c = omega (arith, seeking_bounds c.requires.plan c.loop-until.invariant c.add_started.ensures (rw c.steps.ensures at c.first_fitting-start.ensures.high))

pub overflow_sub-until : goal.overflow_sub-until
overflow_sub-until g c = omega (arith, seeking_bounds c.requires.plan c.loop-until.invariant c.add_started.ensures (rw c.steps.ensures at c.first_fitting-start.ensures.high))

pub overflow_add-until-in-loop-until : goal.overflow_add-until-in-loop-until
overflow_add-until-in-loop-until g c = omega (arith, seeking_bounds c.requires.plan c.loop-until.invariant c.add_started.ensures (rw c.steps.ensures at c.first_fitting-start.ensures.high), c.if-reach-until.false)

pub overflow_add-until-in-loop-until-2 : goal.overflow_add-until-in-loop-until-2
overflow_add-until-in-loop-until-2 g c = omega (arith, seeking_bounds c.requires.plan c.loop-until.invariant c.add_started.ensures (rw c.steps.ensures at c.first_fitting-start.ensures.high), c.if-reach-until.false)

pub loop-until-smaller : goal.loop-until-smaller
loop-until-smaller g c = omega (arith, seeking_bounds c.requires.plan c.loop-until.invariant c.add_started.ensures (rw c.steps.ensures at c.first_fitting-start.ensures.high), c.if-reach-until.false)
