-- With no refusal the tickets rise and the list has room, as the walk asks; it writes and counts what the rules do.
use mathlib.Core.Path.{refl}
use Rattle.rules.specs.Calls.{board}
use Rattle.station.specs.View.{view}
use Rattle.station.proofs.Refusing.{refusal_passed, keeps_refused}
use Rattle.site.proofs.OnTheBoard.{boardable, call_boarded}
use Rattle.site.proofs.board.board.Goals as goal

pub returns-in_err-board_refusal : goal.returns-in_err-board_refusal
returns-in_err-board_refusal c =
    let s = c.args.station.now in
    let refusal = c.in_err-board_refusal.field-0.0 in
    rw (refusal_passed c.from_residual.result refusal c.from_residual.ensures.1)
    (keeps_refused s (board c.args.asked.now c.args.answers.now) refusal (c.in_err-board_refusal.ensures (view s)) refl)

pub board_feeders-looked-requires : goal.board_feeders-looked-requires
board_feeders-looked-requires c =
    let m = boardable (view c.args.station.now) c.args.asked.now c.args.answers.now (c.in_ok-board_refusal.ensures (view c.args.station.now)) in
    (c.requires, m.rises, m.room)

pub returns : goal.returns
returns c =
    search (call_boarded c.args.station.now c.args.asked.now c.args.answers.now (c.in_ok-board_refusal.ensures (view c.args.station.now)) c.board_feeders-looked.ensures)
