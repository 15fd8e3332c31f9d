-- `requests::read_request` meets its contract: the tests in their order, and then the call.
use mathlib.Core.Path.{sym, ap, ◌∙◌}
use borrow.Author.Rules.{rules}
use native.Mathlib.Omega.{arith}
use Rattle.std.specs.Result.{result_ok}
use Rattle.requests.proofs.Reading.{error_is, text_too_long, passes, text_passed, text_call, call_unknown, call_wrong, call_read}
use Rattle.requests.proofs.request.read_request.Goals as goal

pub returns-then-text-gt-LONGEST : goal.returns-then-text-gt-LONGEST
returns-then-text-gt-LONGEST c = text_too_long c.args.text.now c.args.numbers.now (omega (arith, c.if-text-gt-LONGEST.true))

pub returns-then-is_none_or : goal.returns-then-is_none_or
returns-then-is_none_or c =
    text_passed c.args.text.now c.args.numbers.now (omega (arith, c.if-text-gt-LONGEST.false)) (sym (passes c.args.text.now _ c.first.ensures.value (search rules)) ∙ c.if-is_none_or.true)

pub returns-in_err-name : goal.returns-in_err-name
returns-in_err-name c =
    rw (error_is c.from_residual.result c.in_err-name.field-0.0 c.from_residual.ensures.1)
    (text_call c.args.text.now c.args.numbers.now (omega (arith, c.if-text-gt-LONGEST.false)) c.first_word.result.now c.call_named.result (sym (passes c.args.text.now _ c.first.ensures.value (search rules)) ∙ c.if-is_none_or.false) c.first_word.ensures c.call_named.ensures
    (call_unknown c.call_named.result _ c.args.numbers.now c.in_err-name.field-0.0 (sym c.ok_or.ensures.value ∙ c.in_err-name.was)))

pub returns-in_err-count : goal.returns-in_err-count
returns-in_err-count c =
    rw (error_is c.from_residual-in_err-count.result c.in_err-count.field-0.0 c.from_residual-in_err-count.ensures.1)
    (text_call c.args.text.now c.args.numbers.now (omega (arith, c.if-text-gt-LONGEST.false)) c.first_word.result.now c.call_named.result (sym (passes c.args.text.now _ c.first.ensures.value (search rules)) ∙ c.if-is_none_or.false) c.first_word.ensures c.call_named.ensures
    (call_wrong _ c.args.numbers.now (c.ok_or.ensures.ok_part ∙ ap result_ok c.in_ok-name.was) c.taken.ensures.0 c.read_numbers.ensures c.in_err-count.field-0.0 c.in_err-count.was))

pub returns : goal.returns
returns c =
    let few = rw c.in_ok-count.was at c.read_numbers.ensures.few in
    text_call c.args.text.now c.args.numbers.now (omega (arith, c.if-text-gt-LONGEST.false)) c.first_word.result.now c.call_named.result (sym (passes c.args.text.now _ c.first.ensures.value (search rules)) ∙ c.if-is_none_or.false) c.first_word.ensures c.call_named.ensures
    (call_read _ c.args.numbers.now (c.ok_or.ensures.ok_part ∙ ap result_ok c.in_ok-name.was) c.taken.ensures.0 c.read_numbers.ensures c.in_ok-count.count c.in_ok-count.was (omega (arith, few, c.taken.ensures.1)) (omega (arith, few, c.taken.ensures.1, c.read_numbers.auto.numbers, c.requires)) c.request_of.ensures)
