-- Either list of another size, several feeders, and saved as the only feeder that is taken out.
use mathlib.Core.Path.{refl, ap, sym, ◌∙◌}
use native.Mathlib.Omega.{arith}
use borrow.Author.Rules.{rules}
use Rattle.station.specs.View.{view}
use Rattle.station.proofs.Views.{view_length}
use Rattle.station.proofs.Ones.{taken_out, none_out, taken_alone}
use Rattle.station.proofs.Refusing.{refusal_passed}
use Rattle.image.proofs.SavedImages.{previous_unsized, list_unsized, several, lent}
use Rattle.image.proofs.saving.save.Goals as goal

pub returns-in_err-previous : goal.returns-in_err-previous
returns-in_err-previous c =
    rw (refusal_passed c.from_residual.result _ c.from_residual.ensures.1)
    (previous_unsized _ _ _ _ (search rules) (search rules))

pub returns-in_err-image : goal.returns-in_err-image
returns-in_err-image c =
    rw (refusal_passed c.from_residual-in_err-image.result _ c.from_residual-in_err-image.ensures.1)
    (list_unsized _ _ _ _ (search rules) (rw c.in_err-image.ensures.ok_part at c.as_mut_array.ensures.cases))

pub returns-in_err-one : goal.returns-in_err-one
returns-in_err-one c =
    let s = c.args.station.now in
    rw (refusal_passed c.from_residual-in_err-one.result _ c.from_residual-in_err-one.ensures.1)
    (lent
    (several (view s) c.in_ok-previous.previous.now _ _ (search rules) (λ n. none_out s c.only.ensures (search rules) (sym (view_length s) ∙ n)) (search rules) (search rules))
    refl (search rules) (search rules))

pub returns : goal.returns
returns c =
    lent c.write.ensures (ap view (taken_out c.args.station.now c.in_ok-one.one c.only.ensures (search rules))) (search rules) (search rules)

pub write-requires : goal.write-requires
write-requires c =
    (taken_alone c.args.station.now c.in_ok-one.one c.requires c.only.ensures (search rules)).valid.formed.columns 0 (omega arith)
