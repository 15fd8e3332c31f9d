use mathlib.Core.Path.{sym, ◌∙◌}
use borrow.Author.Rules.{rules}
use native.Mathlib.Omega.{arith}
use Rattle.std.proofs.lemmas.Iterator.Consumers.{YieldsList-turn, YieldsList-end}
use Rattle.requests.proofs.Reading.{error_is, word_read, words_of, word_left, words_end, reads_extra, reads_wrong, reads_more, reads_missing, reads_all}
use Rattle.std.proofs.lemmas.List.{length_push}
use Rattle.requests.proofs.request.read_numbers.Goals as goal

pub returns-then-count-most : goal.returns-then-count-most
returns-then-count-most c =
    let turn = YieldsList-turn (words_of c.args.text.now c.split.ensures.rest c.split.ensures.done c.split.ensures.closure (λ x b q k. search rules) c.skip-word-items.ensures.source c.skip-word-items.ensures.count c.into_iter-word-iterator.ensures.into_iter_gives) c.loop-word.yielded _ c.loop-word.yielded_by _ _ c.in-Some.word c.in-Some.is c.next.ensures.steps in
    reads_extra c.loop-word.invariant.1 (word_left c.args.text.now turn c.loop-word.invariant.0) (omega (arith, c.if-count-most.true))

pub returns-in_err-numbers : goal.returns-in_err-numbers
returns-in_err-numbers c =
    let turn = YieldsList-turn (words_of c.args.text.now c.split.ensures.rest c.split.ensures.done c.split.ensures.closure (λ x b q k. search rules) c.skip-word-items.ensures.source c.skip-word-items.ensures.count c.into_iter-word-iterator.ensures.into_iter_gives) c.loop-word.yielded _ c.loop-word.yielded_by _ _ c.in-Some.word c.in-Some.is c.next.ensures.steps in
    rw (error_is c.from_residual.result c.in_err-numbers.field-0.0 c.from_residual.ensures.1)
    (reads_wrong c.loop-word.invariant.1 (word_left c.args.text.now turn c.loop-word.invariant.0) (omega arith) c.in_err-numbers.field-0.0 (sym (word_read _ _ c.read_number.ensures (search rules)) ∙ c.in_err-numbers.was))

pub loop-word-preserved : goal.loop-word-preserved
loop-word-preserved c =
    let turn = YieldsList-turn (words_of c.args.text.now c.split.ensures.rest c.split.ensures.done c.split.ensures.closure (λ x b q k. search rules) c.skip-word-items.ensures.source c.skip-word-items.ensures.count c.into_iter-word-iterator.ensures.into_iter_gives) c.loop-word.yielded _ c.loop-word.yielded_by _ _ c.in-Some.word c.in-Some.is c.next.ensures.steps in
    (omega (arith, length_push c.loop-word.yielded c.in-Some.word), reads_more c.loop-word.invariant.1 (word_left c.args.text.now turn c.loop-word.invariant.0) (omega arith) c.in_ok-numbers.field-0 (omega arith) (sym (word_read _ _ c.read_number.ensures (search rules)) ∙ c.in_ok-numbers.was))

pub returns-then-count-least : goal.returns-then-count-least
returns-then-count-least c =
    let end = YieldsList-end (words_of c.args.text.now c.split.ensures.rest c.split.ensures.done c.split.ensures.closure (λ x b q k. search rules) c.skip-word-items.ensures.source c.skip-word-items.ensures.count c.into_iter-word-iterator.ensures.into_iter_gives) c.loop-word.yielded _ c.loop-word.yielded_by _ _ c.in-None.is c.next.ensures.steps in
    reads_missing c.loop-word.invariant.1 (words_end c.args.text.now end.1 c.loop-word.invariant.0) (omega (arith, c.if-count-least.true))

pub returns : goal.returns
returns c =
    let end = YieldsList-end (words_of c.args.text.now c.split.ensures.rest c.split.ensures.done c.split.ensures.closure (λ x b q k. search rules) c.skip-word-items.ensures.source c.skip-word-items.ensures.count c.into_iter-word-iterator.ensures.into_iter_gives) c.loop-word.yielded _ c.loop-word.yielded_by _ _ c.in-None.is c.next.ensures.steps in
    reads_all c.loop-word.invariant.1 (words_end c.args.text.now end.1 c.loop-word.invariant.0) (omega (arith, c.if-count-least.false))
