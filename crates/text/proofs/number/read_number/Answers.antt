use mathlib.Core.Path.{sym, ◌∙◌}
use borrow.Author.Rules.{rules}
use Prim.Native.Nat.{◌+◌, ◌-◌}
use native.Mathlib.Omega.{arith}
use lib.ListN.{get_or, drop}
use Rattle.text.proofs.Values.{no_word, some_word, a_digit, no_digit, digit_kept, settled, value_left}
use Rattle.text.proofs.number.read_number.Goals as goal

pub returns-then-is_empty : goal.returns-then-is_empty
returns-then-is_empty c = sym (no_word c.args.word.now (sym c.if-is_empty.ensures))

pub loop-byte-init : goal.loop-byte-init
loop-byte-init c = some_word c.args.word.now (sym c.if-is_empty.ensures)

pub returns-then-not-is_ascii_digit : goal.returns-then-not-is_ascii_digit
returns-then-not-is_ascii_digit c =
    sym (c.loop-byte.invariant ∙ no_digit c.loop-byte.value c.loop-byte.byte-index c.args.word.now c.loop-byte-test.true (cc))

pub loop-byte-preserved : goal.loop-byte-preserved
loop-byte-preserved c =
    let d = get_or c.args.word.now c.loop-byte.byte-index 0 in
    c.loop-byte.invariant
    ∙ a_digit c.loop-byte.value c.loop-byte.byte-index c.args.word.now c.loop-byte-test.true (cc)
    ∙ digit_kept c.loop-byte.value (d - 48) c.saturating_add-value.result (drop (c.loop-byte.byte-index + 1) c.args.word.now) (omega arith)

pub returns : goal.returns
returns c =
    settled c.loop-byte.value c.try_from.result c.map_err.result c.try_from.ensures (search rules)
    ∙ sym (c.loop-byte.invariant ∙ value_left c.loop-byte.value c.loop-byte.byte-index c.args.word.now c.loop-byte-test.false)
