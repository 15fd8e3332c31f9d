-- Refused by the restore, and saved or refused by the save.
use Rattle.std.proofs.lemmas.Result.{err_from_is_err_and}
use Rattle.bus.proofs.Copying.{copy_refused, copy_saved}
use borrow.Author.Rules.{rules}
use Rattle.bus.proofs.copy.copied.Goals as goal

pub returns-in_err-restored : goal.returns-in_err-restored
returns-in_err-restored c =
    let p = err_from_is_err_and c.from_residual.result c.from_residual.ensures.1 in
    rw (p.1, p.2) (copy_refused _ c.restore-restored.ensures (search rules) (search rules))

pub returns : goal.returns
returns c = copy_saved c.restore-restored.ensures (search rules) _ c.save_only.ensures
