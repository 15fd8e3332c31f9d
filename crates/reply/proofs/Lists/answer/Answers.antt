-- `reply::Lists::answer` meets its contract, by what was read.
use borrow.Author.Rules.{rules}
use native.Mathlib.Omega.{arith}
use Rattle.reply.proofs.Replies.{can_reply, replied, refused}
use Rattle.station.specs.View.{view}
use Rattle.reply.proofs.Lists.answer.Goals as goal

pub reply-said-requires : goal.reply-said-requires
reply-said-requires g c =
    let can = can_reply c.in-Ok.request c.args.self.now.list (omega arith) c.in-Ok.is c.read.ensures.asks c.read.ensures.list_after in
    (search, (c.requires.0, can.0, can.1))

pub returns-in-Ok : goal.returns-in-Ok
returns-in-Ok g c = replied (view c.args.station.now) c.args.text.now c.in-Ok.request c.args.out.now c.in-Ok.is c.read.ensures.asks c.reply-said.ensures.says (search rules)

pub returns-in-Err : goal.returns-in-Err
returns-in-Err g c = refused c.args.text.now c.in-Err.reason c.args.out.now c.requires.0 c.in-Err.is c.read.ensures.asks (search rules)
