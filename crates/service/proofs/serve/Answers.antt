-- Refused by the restore, or what the call to the station of an accepted image leaves.
use mathlib.Core.Path.{◌≡◌}
use Rattle.std.specs.Prelude.{Ok}
use Rattle.std.proofs.lemmas.Result.{err_from_is_err_and}
use Rattle.service.proofs.Serving.{list_kept, restore_refused}
use borrow.Author.Rules.{rules}
use Rattle.service.proofs.serve.Goals as goal

pub returns-in_err-restored-clause-serves : goal.returns-in_err-restored-clause-serves
returns-in_err-restored-clause-serves c =
    let p = err_from_is_err_and c.from_residual.result c.from_residual.ensures.1 in
    rw (p.1, p.2)
    (restore_refused _ c.restore-restored.ensures (search rules) (search rules) (list_kept c.args.call c.args.numbers.now (search rules)))

pub returns-clause-serves : goal.returns-clause-serves
returns-clause-serves c =
    let granted : c.restore-restored.result.answer ≡ Ok tt = search rules in
    c.serve_restored.ensures.serves (rw granted at c.restore-restored.ensures)
