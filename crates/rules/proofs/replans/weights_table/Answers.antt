use Rattle.rules.proofs.Weights.{keeps_rule, fading_bounded, table_weight}
use Rattle.rules.proofs.replans.weights_table.Goals as goal

pub returns-clause-tested : goal.returns-clause-tested
returns-clause-tested c = keeps_rule

pub returns-clause-bounded : goal.returns-clause-bounded
returns-clause-bounded c = fading_bounded

pub returns-clause-same_weights : goal.returns-clause-same_weights
returns-clause-same_weights c = table_weight
