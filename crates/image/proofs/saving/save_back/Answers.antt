-- A list of another size, and saved beside a copy of it.
use borrow.Author.Rules.{rules}
use Rattle.station.proofs.Refusing.{refusal_passed}
use Rattle.image.proofs.SavedImages.{list_unsized}
use Rattle.image.proofs.saving.save_back.Goals as goal

pub returns-in_err-before : goal.returns-in_err-before
returns-in_err-before c =
    rw (refusal_passed c.from_residual.result _ c.from_residual.ensures.1)
    (list_unsized _ _ _ _ (search rules) (rw c.in_err-before.ensures.ok_part at c.as_array.ensures.cases))
