-- In the end the starts at all the waiting places are listed.
use mathlib.Core.Path.{ap, ◌∙◌}
use native.Mathlib.Omega.{arith}
use Rattle.std.proofs.lemmas.List.{take_all}
use Rattle.planner.proofs.Collecting.{starts_at, starts_listed}
use Rattle.planner.proofs.starts.waiting_starts.Goals as goal

pub returns : goal.returns
returns c =
    let is = c.as_slice-place-items.result.now in
    starts_listed c.as_slice-place-items.ensures.0 (search)
    (c.loop-place.invariant ∙ ap (starts_at c.args.by_place.now) (take_all c.loop-place.place-index is (omega arith)))
