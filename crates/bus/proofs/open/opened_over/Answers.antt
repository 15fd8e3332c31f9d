-- Of another size, refused, of several feeders, and saved over whatever the list held.
use Rattle.std.proofs.lemmas.Result.{err_from_is_err_and}
use Rattle.bus.proofs.Openings.{open_unsized, open_refused, open_several, open_saved}
use borrow.Author.Rules.{rules}
use Rattle.bus.proofs.open.opened_over.Goals as goal

pub returns-then-image-ne-IMAGE : goal.returns-then-image-ne-IMAGE
returns-then-image-ne-IMAGE c = open_unsized _ c.if-image-ne-IMAGE.true (search rules) (search rules)

pub returns-in_err-bounds : goal.returns-in_err-bounds
returns-in_err-bounds c =
    let p = err_from_is_err_and c.from_residual.result c.from_residual.ensures.1 in
    rw (p.1, p.2) (open_refused c.if-image-ne-IMAGE.false _ c.open-opened.ensures (search rules) (search rules))

pub returns-in_err-blocks : goal.returns-in_err-blocks
returns-in_err-blocks c =
    let p = err_from_is_err_and c.from_residual-in_err-blocks.result c.from_residual-in_err-blocks.ensures.1 in
    rw (p.1, p.2) (open_several _ c.open-opened.ensures c.save_back.ensures (search rules))

pub returns : goal.returns
returns c =
    open_saved c.if-image-ne-IMAGE.false c.in_ok-bounds.field-0 _ c.open-opened.ensures c.save_back.ensures (search rules) (search rules) (search rules)
