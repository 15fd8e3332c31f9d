use native.Mathlib.Omega.{arith}
use Rattle.site.proofs.OnTheBoard.{boarded_first, boarded_last, feeder_boardable, board_few, boarded_on}
use Rattle.site.proofs.FromTheLast.{last}
use borrow.Author.Rules.{rules}
use Rattle.site.proofs.board.board_feeders.Goals as goal

pub loop-feeder-init : goal.loop-feeder-init
loop-feeder-init c = boarded_first c.args.station.now _ _ c.requires.0.formed (search rules) (omega arith)

pub board-looked-requires : goal.board-looked-requires
board-looked-requires c =
    feeder_boardable c.args.station.now c.requires.0 c.loop-feeder.invariant (last c.in-Some.feeder.now c.next.new.self.iter.rest.now c.loop-feeder.invariant.left c.in-Some.ensures.steps) c.args.answers.now c.requires.1 c.none_held.ensures

pub overflow_add-looked : goal.overflow_add-looked
overflow_add-looked c =
    omega (
      arith,
      c.requires.0.formed.few,
      board_few c.args.station.now c.requires.0 c.loop-feeder.invariant (last c.in-Some.feeder.now c.next.new.self.iter.rest.now c.loop-feeder.invariant.left c.in-Some.ensures.steps) c.board-looked.ensures,
    )

pub loop-feeder-preserved : goal.loop-feeder-preserved
loop-feeder-preserved c =
    boarded_on c.args.station.now c.requires.0 c.loop-feeder.invariant (last c.in-Some.feeder.now c.next.new.self.iter.rest.now c.loop-feeder.invariant.left c.in-Some.ensures.steps) c.board-looked.ensures
    (search rules)
    (search)

pub returns : goal.returns
returns c = boarded_last c.args.answers.now c.loop-feeder.invariant c.in-None.ensures.steps.0 c.none_held.ensures
