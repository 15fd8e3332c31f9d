-- Each round that lowers a cap leaves one less.
use native.Mathlib.Omega.{arith}
use Rattle.planner.proofs.Showing.{listed_profiled}
use Rattle.lines.proofs.Counting.{rounds_start, rounds_spent, rounds_done, rounds_next}
use Rattle.lines.proofs.rounds.by_lines.Goals.{else-loop-rounds-test, then-loop-rounds-test+in-Continue+else-rounds-most}
use Rattle.lines.proofs.rounds.by_lines.Goals as goal

pub add_standing-requires : goal.add_standing-requires
add_standing-requires g c = (omega (arith, c.requires.0.most), (c.requires.0, c.new-standing.ensures, listed_profiled c.requires.1.listed))

pub loop-rounds-init : goal.loop-rounds-init
loop-rounds-init g c = rounds_start c.args.allowance c.requires.1 c.new-caps.ensures

pub returns-in-Break : goal.returns-in-Break
returns-in-Break g c = rounds_done c.loop-rounds.invariant (omega arith) c.play.ensures c.in-Break.is (omega arith)

pub loop-rounds-preserved : goal.loop-rounds-preserved
loop-rounds-preserved g c = rounds_next c.loop-rounds.invariant (omega arith) c.play.ensures c.in-Continue.is c.requires.1 c.lower.ensures (omega (arith, c.loop-rounds.auto.rounds))

pub returns : goal.returns
returns g c =
    elim c.loop-rounds-test.branch [
      | else-loop-rounds-test w ↦ absurd (omega (arith, w.loop-rounds-test.false))
      | then-loop-rounds-test+in-Continue+else-rounds-most w ↦
          rounds_spent c.loop-rounds.invariant (omega (arith, w.loop-rounds-test.true)) w.play.ensures w.in-Continue.is (omega (arith, c.loop-rounds.auto.rounds)) (omega arith)
    ]
