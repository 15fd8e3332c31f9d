use native.Mathlib.Omega.{arith}
use Rattle.profile.specs.Steps.{empty_step}
use Rattle.search.proofs.Walks.{walk_begin, walk_visit, walk_passed, walk_fails, walk_on, walk_done}
use Rattle.search.proofs.Later.{later_step, later_end}
use Rattle.search.proofs.walk.first_failing_by.Goals as goal
use Rattle.search.proofs.walk.first_failing_by.Goals.{else-loop-k-test, then-loop-k-test+then-minutes-t}

pub loop-k-init : goal.loop-k-init
loop-k-init g c = λ f h. walk_begin (omega arith) c.requires.walk.1

pub fails-requires : goal.fails-requires
fails-requires g c =
    let turn = later_step c.args.steps.now c.args.first c.loop-k.k _ c.loop-k-test.true (omega arith) in
    c.requires.callable _ _ _ (walk_visit c.requires.walk.0.rises c.requires.walk.1 turn (omega arith) c.max-t.result (omega arith) (omega arith))

pub returns-in-Some : goal.returns-in-Some
returns-in-Some g c =
    let turn = later_step c.args.steps.now c.args.first c.loop-k.k _ c.loop-k-test.true (omega arith) in
    λ f h.
    walk_fails c.requires.walk.0.rises c.requires.walk.1 turn (omega arith) c.max-t.result (omega arith) (c.loop-k.invariant f h)
    (h _ _ _ (walk_visit c.requires.walk.0.rises c.requires.walk.1 turn (omega arith) c.max-t.result (omega arith) (omega arith)) _ c.in-Some.ensures)
    (omega arith) (omega arith)

pub loop-k-preserved : goal.loop-k-preserved
loop-k-preserved g c =
    let turn = later_step c.args.steps.now c.args.first c.loop-k.k _ c.loop-k-test.true (omega arith) in
    λ f h.
    walk_on c.requires.walk.0.rises c.requires.walk.1 turn (omega arith) c.max-t.result (omega arith) (c.loop-k.invariant f h) (omega arith)
    (h _ _ _ (walk_visit c.requires.walk.0.rises c.requires.walk.1 turn (omega arith) c.max-t.result (omega arith) (omega arith)) _ c.in_default.ensures)

pub returns : goal.returns
returns g c =
    λ f h v a b.
    elim c.loop-k-test.branch [
      | else-loop-k-test w ↦
          walk_done (c.loop-k.invariant f h) (later_end c.args.steps.now c.args.first c.loop-k.k w.loop-k-test.false (omega arith)) v a b
      | then-loop-k-test+then-minutes-t w ↦
          let turn = later_step c.args.steps.now c.args.first c.loop-k.k (empty_step 0) w.loop-k-test.true (omega arith) in
          walk_passed c.requires.walk.0.rises c.requires.walk.1 turn (omega arith) w.max-t.result (omega arith) (c.loop-k.invariant f h) v a b (omega arith)
    ]
