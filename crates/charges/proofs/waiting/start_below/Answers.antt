use lib.Dec.{ltb}
use Rattle.std.proofs.Common.{rules, tests}
use Rattle.std.proofs.lemmas.Iterator.{YieldsList-from_slice}
use Rattle.std.proofs.lemmas.Iterator.Search.{any_from_yields_List}
use Rattle.charges.proofs.Words.{some_is}
use Rattle.charges.proofs.waiting.start_below.Goals as goal

pub returns : goal.returns
returns c =
    rw some_is
    (any_from_yields_List (λ s. ltb s c.args.clock) _ _ _ c.any.ensures.ran (YieldsList-from_slice c.args.starts.now cc) (λ x b q k. search (rules, tests)))
