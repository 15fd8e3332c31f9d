-- All that the site draws is lent, as the feeder sees it.
use native.Mathlib.Omega.{arith}
use Rattle.ordering.proofs.Seeking.{inside, drawn_can_seek, drawn_found}
use Rattle.ordering.proofs.start.start_beside_others.Goals as goal

pub drawn-drawn-requires : goal.drawn-drawn-requires
drawn-drawn-requires c = (c.requires.0.valid.formed, inside c.requires.0 _ c.requires.1)

pub earliest_start-requires : goal.earliest_start-requires
earliest_start-requires c =
    drawn_can_seek c.requires.0 _ c.requires.1 c.sought.ensures (search c.loads.ensures) c.drawn-drawn.ensures.0 c.drawn-drawn.ensures.1 (omega arith) (omega arith)

pub returns : goal.returns
returns c = drawn_found c.requires.0 _ c.requires.1 c.sought.ensures (search c.loads.ensures) c.drawn-drawn.ensures.0 c.earliest_start.ensures
