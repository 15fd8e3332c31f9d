-- Refused for the length, a check, block 0 and the rest of the contents; and accepted.
use mathlib.Core.Path.{refl, ap, sym, ◌∙◌}
use native.Mathlib.Omega.{arith}
use Rattle.image.specs.Answers.{is_from}
use Rattle.layout.proofs.Refusing.{refused_length, refused_check}
use Rattle.image.proofs.Answering.{header_wrong, contents_wrong, contents_right, restores_refused, restores_accepted}
use borrow.Author.Rules.{rules}
use Rattle.image.proofs.restoring.restore.Goals as goal

pub returns-in_default : goal.returns-in_default
returns-in_default c = restores_refused c.args.image.now 20 _ _ _ refl c.refused.ensures (search rules) (refused_length c.args.image.now c.in_default.ensures.cases)

pub returns-then-not-is_undamaged : goal.returns-then-not-is_undamaged
returns-then-not-is_undamaged c =
    let same = c.in-Some.ensures.cases.same in
    restores_refused c.args.image.now 21 _ _ _ refl c.refused-then-not-is_undamaged.ensures (search rules)
    (refused_check c.args.image.now c.in-Some.ensures.cases.long (sym (rw same at c.is_undamaged.ensures) ∙ c.if-not-is_undamaged.true))

pub returns-in_default-of : goal.returns-in_default-of
returns-in_default-of c =
    let same = c.in-Some.ensures.cases.same in
    restores_refused c.args.image.now 22 _ _ _ refl c.refused-in_default-of.ensures (search rules)
    (contents_wrong c.args.image.now _ c.in-Some.ensures.cases.long (λ i. omega (arith, c.type_inv.image i)) (sym (rw same at c.is_undamaged.ensures) ∙ c.if-not-is_undamaged.false) (rw same at c.take_blocks.ensures)
    (header_wrong _ c.in_default-of.ensures))

pub returns-then-not-is_of : goal.returns-then-not-is_of
returns-then-not-is_of c =
    let same = c.in-Some.ensures.cases.same in
    restores_refused c.args.image.now 22 _ _ _ refl c.refused-then-not-is_of.ensures (search rules)
    (contents_wrong c.args.image.now _ c.in-Some.ensures.cases.long (λ i. omega (arith, c.type_inv.image i)) (sym (rw same at c.is_undamaged.ensures) ∙ c.if-not-is_undamaged.false) (rw same at c.take_blocks.ensures)
    (ap (is_from _) (sym (rw c.in-Some-of.ensures at c.read-one.ensures).state) ∙ sym c.is_of.ensures ∙ c.if-not-is_of.true))

pub returns : goal.returns
returns c =
    let same = c.in-Some.ensures.cases.same in
    restores_accepted c.args.image.now _ _ c.in-Some.ensures.cases.long (rw same at c.take_blocks.ensures) (rw c.in-Some-of.ensures at c.read-one.ensures)
    (contents_right c.args.image.now _ c.in-Some.ensures.cases.long (λ i. omega (arith, c.type_inv.image i)) (sym (rw same at c.is_undamaged.ensures) ∙ c.if-not-is_undamaged.false) (rw same at c.take_blocks.ensures)
    (ap (is_from _) (sym (rw c.in-Some-of.ensures at c.read-one.ensures).state) ∙ sym c.is_of.ensures ∙ c.if-not-is_of.false))
