-- Refused by the call, where the image stays, and saved, which is never refused.
use mathlib.Core.Path.{refl}
use Rattle.std.proofs.lemmas.Result.{err_from_is_err_and}
use Rattle.calls.specs.Applied.{call_of}
use Rattle.service.proofs.Serving.{call_refused, not_unsaved, call_saved}
use borrow.Author.Rules.{rules}
use Rattle.service.proofs.serve_restored.Goals as goal

pub returns-in_err-answer-clause-serves : goal.returns-in_err-answer-clause-serves
returns-in_err-answer-clause-serves c = λ h.
    let p = err_from_is_err_and c.from_residual.result c.from_residual.ensures.1 in
    rw (p.1, p.2)
    (call_refused h refl (call_of c.args.call c.args.numbers.now c.args.list.now) _ c.of_only-station.ensures
    c.make.ensures.gives _ (search rules) (search rules) (search rules))

pub returns-in_err-blocks-clause-serves : goal.returns-in_err-blocks-clause-serves
returns-in_err-blocks-clause-serves c = λ h.
    absurd
    (not_unsaved h refl (call_of c.args.call c.args.numbers.now c.args.list.now) _ c.of_only-station.ensures
    c.make.ensures.gives c.save_back.ensures (search rules) c.in_err-blocks.field-0.0 (search rules))

pub returns-clause-serves : goal.returns-clause-serves
returns-clause-serves c = λ h.
    call_saved h refl (call_of c.args.call c.args.numbers.now c.args.list.now) _ c.of_only-station.ensures
    c.make.ensures.gives c.save_back.ensures (search rules) _ _ (search rules) c.from.ensures (search rules) (search rules)
