-- A list of another size; the only feeder of a valid station is written.
use native.Mathlib.Omega.{arith}
use borrow.Author.Rules.{rules}
use Rattle.station.proofs.Refusing.{refusal_passed}
use Rattle.image.proofs.SavedImages.{list_unsized}
use Rattle.image.proofs.saving.save_only.Goals as goal

pub returns-in_err-image : goal.returns-in_err-image
returns-in_err-image c =
    rw (refusal_passed c.from_residual.result _ c.from_residual.ensures.1)
    (list_unsized _ _ _ _ (search rules) (rw c.in_err-image.ensures.ok_part at c.as_mut_array.ensures.cases))

pub write-requires : goal.write-requires
write-requires c = c.requires.valid.formed.columns 0 (omega arith)
