-- As the order is refused, or the start that it is granted.
use mathlib.Core.Path.{refl}
use Rattle.std.proofs.lemmas.Result.{err_from_is_err_and}
use Rattle.station.proofs.Refusing.{keeps_refused}
use Rattle.ordering.specs.Ordered.{preview_of}
use Rattle.ordering.proofs.Answering.{preview_found}
use Rattle.ordering.proofs.start.preview.Goals as goal

pub returns-in_err-granted : goal.returns-in_err-granted
returns-in_err-granted c =
    let p = err_from_is_err_and c.from_residual.result c.from_residual.ensures.1 in
    rw (p.1, p.2) (keeps_refused c.args.station.now (preview_of c.args.order) c.in_err-granted.field-0.0 c.in_err-granted.ensures refl)

pub returns : goal.returns
returns c = preview_found c.in_ok-granted.ensures
