-- `search::limits::Limits::allow_with` meets its contract.
use mathlib.Core.Path.{◌≡◌}
use mathlib.Core.List.{[]}
use Prim.Native.Nat.{◌+◌}
use native.Mathlib.Omega.{arith}
use Rattle.profile.specs.Steps.{of_lines, counts_of}
use Rattle.profile.proofs.Lines.{each_column}
use Rattle.search.specs.Numbers.{limits_beside, with_draw}
use Rattle.search.proofs.Sounds.{sound_as}
use Rattle.search.proofs.limits.Limits.allow_with.Goals as goal

pub returns : goal.returns
returns c =
    sound_as (limits_beside c.args.self []) _ _ c.allow.ensures
    (each_column (λ l. of_lines (c.args.step.one + c.share.result) (c.args.step.two + c.share-2.result) (c.args.step.three + c.share-3.result) (c.args.step.others + c.share-4.result) l ≡ with_draw (counts_of c.args.step) c.args.draw l)
    (omega (arith, c.share.ensures.0)) (omega (arith, c.share-2.ensures.0)) (omega (arith, c.share-3.ensures.0)) (omega (arith, c.share-4.ensures.0)))
