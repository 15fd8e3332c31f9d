-- The columns lent are all that the only feeder sees.
use native.Mathlib.Omega.{arith}
use Rattle.station.proofs.Views.{read_at}
use Rattle.ordering.proofs.Seeking.{only, own_can_seek, own_found}
use Rattle.ordering.proofs.start.start_alone.Goals as goal

pub earliest_start-requires : goal.earliest_start-requires
earliest_start-requires c =
    own_can_seek c.requires.0 0 (only c.requires.0 c.requires.1) c.sought-own.ensures c.requires.1 _ c.loads.ensures (omega arith) (omega arith)

pub earliest_start-requires-else-held-le-FEW : goal.earliest_start-requires-else-held-le-FEW
earliest_start-requires-else-held-le-FEW c =
    own_can_seek c.requires.0 0 (only c.requires.0 c.requires.1) c.sought-own.ensures c.requires.1 _ c.loads-else-held-le-FEW.ensures (omega (arith, (read_at c.args.station.now 0 c.index-station-0.result).charges.few)) (omega arith)

pub returns-then-held-le-FEW : goal.returns-then-held-le-FEW
returns-then-held-le-FEW c =
    own_found c.requires.0 0 (only c.requires.0 c.requires.1) c.sought-own.ensures c.requires.1 _ c.loads.ensures c.earliest_start.ensures

pub returns-else-held-le-FEW : goal.returns-else-held-le-FEW
returns-else-held-le-FEW c =
    own_found c.requires.0 0 (only c.requires.0 c.requires.1) c.sought-own.ensures c.requires.1 _ c.loads-else-held-le-FEW.ensures c.earliest_start-else-held-le-FEW.ensures
