-- The closure is the test of one record, and the range has every one.
use Rattle.std.proofs.Common.{refl, ◌∙◌, rules, tests, arith}
use Rattle.std.proofs.lemmas.Iterator.{YieldsList-from_range}
use Rattle.std.proofs.lemmas.Iterator.Search.{all_from_yields_List}
use Rattle.layout.specs.Validity.{record_right}
use Rattle.validity.specs.Settled.{held_by, single}
use Rattle.validity.proofs.Settling.{all_every}
use Rattle.validity.proofs.records.records_right.Goals as goal

pub returns : goal.returns
returns c =
    all_from_yields_List (record_right (single c.args.one.now)) _ _ _ c.all.ensures.ran (YieldsList-from_range 0 _ (held_by c.args.one.now).held refl (omega arith)) (λ x b q k. search (rules, tests))
    ∙ all_every _ _
