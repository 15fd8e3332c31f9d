use mathlib.Core.Path.{◌≡◌}
use borrow.Author.Rules.{rules}
use Rattle.std.specs.Prelude.{Some}
use Rattle.text.specs.Parts.{FirstPart}
use Rattle.session.proofs.Serving.{answers_more, left_less}
use Rattle.session.proofs.turn.Buffers.answer_requests.Goals as goal

pub loop-lists-preserved : goal.loop-lists-preserved
loop-lists-preserved g c =
    let l = c.loop-lists.invariant in
    let split : c.split_once.result ≡ Some (c.in-Some.request, c.in-Some.rest) = search rules in
    let part : FirstPart 10 c.loop-lists.left.now c.in-Some.request.now c.in-Some.rest.now = rw split at c.split_once.ensures in
    record {
      answers = answers_more l.answers l.left part c.answer.ensures;
      left = left_less l.left part;
    }
