-- `reply::Lists::reply` meets its contract: the numbers that the call reads, the list that is lent, and what the call leaves there.
use mathlib.Core.Path.{refl}
use borrow.Author.Rules.{rules}
use native.Mathlib.Omega.{arith}
use Rattle.reply.proofs.Replies.{call_replied, length_between, says_as}
use Rattle.reply.proofs.Lists.reply.Goals as goal

pub returns-in-Call : goal.returns-in-Call
returns-in-Call g c =
    let fits = rw c.in-Call.is at c.requires.1 in
    let h =
    call_replied c.in-Call.call c.args.self.now.numbers c.args.self.now.list c.in-Call.read.start c.in-Call.read.end c.in-Call.places c.requires.0 (omega arith) (rw c.in-Call.is at c.requires.2) (omega (arith, fits)) fits.1.1
    c.places_lent-lent.ensures.0 c.places_lent-lent.ensures.1 c.make-answer.auto.list (length_between c.in-Call.read.start c.in-Call.read.end c.args.self.now.numbers (omega (arith, fits))) c.make-answer.ensures (search rules) (search rules)
    in
    rw c.in-Call.is (record { says = says_as h.0 (search rules) (search rules); list_after = h.1; numbers_stay = refl })
