-- Not valid, or compared with its own contents.
use Rattle.image.proofs.Answering.{not_of, of_told}
use Rattle.image.proofs.restoring.is_of.Goals as goal

pub returns-then-is_valid : goal.returns-then-is_valid
returns-then-is_valid c = of_told _ _ _ _ _ c.is_valid.ensures c.if-is_valid.true c.contents_of.ensures c.told-contents c.eq.ensures

pub returns-else-is_valid : goal.returns-else-is_valid
returns-else-is_valid c = not_of _ _ _ c.is_valid.ensures c.if-is_valid.false
