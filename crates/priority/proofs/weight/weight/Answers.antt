use mathlib.Core.Path.{◌∙◌}
use native.Mathlib.Omega.{arith}
use Rattle.rules.proofs.Weights.{weight_most}
use Rattle.priority.proofs.Weighing.{table_at}
use Rattle.priority.proofs.weight.weight.Goals as goal

pub returns : goal.returns
returns c =
    let e = rw c.copied.ensures at c.unwrap_or.ensures ∙ c.get.ensures.lookup.4 (omega arith) _ ∙ table_at c.args.k in
    (e, omega (arith, e, weight_most c.args.k))
