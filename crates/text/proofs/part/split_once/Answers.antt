-- `text::split_once` meets its contract, by the place of the first separator.
use borrow.Author.Rules.{rules}
use lib.Dec.{eqb}
use Rattle.std.proofs.lemmas.Iterator.{YieldsList-from_slice}
use Rattle.std.proofs.lemmas.Iterator.Search.{position_from_yields_List}
use Rattle.text.proofs.Splitting.{by_place}
use Rattle.text.proofs.part.split_once.Goals as goal

pub returns-in_err-end : goal.returns-in_err-end
returns-in_err-end c =
    let place = position_from_yields_List (λ b. eqb b c.args.separator) _ _ _ c.position.ensures.ran (YieldsList-from_slice c.args.bytes.now cc) (λ x b q k. search rules) in
    rw c.from_residual.ensures (rw c.in_err-end.was at (by_place c.args.separator c.args.bytes.now place))

pub returns : goal.returns
returns c =
    let place = position_from_yields_List (λ b. eqb b c.args.separator) _ _ _ c.position.ensures.ran (YieldsList-from_slice c.args.bytes.now cc) (λ x b q k. search rules) in
    rw c.in_ok-end.was at (by_place c.args.separator c.args.bytes.now place)
