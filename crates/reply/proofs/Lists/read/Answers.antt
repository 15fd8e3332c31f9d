-- `reply::Lists::read` meets its contract: the request as it is read, and the list as it is filled for it.
use mathlib.Core.Path.{ap, ◌∙◌}
use Prim.Native.Nat.{ℕ}
use native.Mathlib.Omega.{arith}
use borrow.Author.Rules.{rules}
use lib.Seq.{sets}
use Rattle.requests.specs.Requests.{lent_list}
use Rattle.reply.proofs.Replies.{filled_lent}
use Rattle.reply.proofs.Lists.read.Goals as goal

pub returns-clause-list_after : goal.returns-clause-list_after
returns-clause-list_after g c =
    filled_lent c.places_lent-lent.result c.places_asked.result c.args.self.now.list c.places_lent-lent.ensures.0 (omega (arith, c.places_lent-lent.ensures.1)) (search rules)
    ∙ ap (λ (n : ℕ). sets c.args.self.now.list 0 (lent_list n)) c.places_asked.ensures
