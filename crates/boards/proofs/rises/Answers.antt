use lib.Dec.{ltb}
use Rattle.std.proofs.Common.{rules, tests}
use Rattle.std.proofs.lemmas.List.Sorted.{answers_always}
use Rattle.boards.proofs.Ascending.{rises_answer}
use Rattle.boards.proofs.rises.Goals as goal

pub returns : goal.returns
returns c = rises_answer c.args.list.now _ (c.is_sorted_by.ensures.cases ltb (answers_always _ _ _ (λ f a r g h. search (rules, tests)))) (search rules)
