-- By the limits and the tail of the feeder, which is there since nothing refuses the order.
use mathlib.Core.Path.{refl, ap}
use native.Mathlib.Omega.{arith}
use Rattle.station.proofs.Views.{feeder_read}
use Rattle.ordering.proofs.Seeking.{inside, active_most}
use Rattle.ordering.proofs.start.sought.Goals as goal

pub overflow_add-result : goal.overflow_add-result
overflow_add-result c =
    let e = feeder_read c.args.station.now c.requires.0.valid.formed (inside c.requires.0 c.args.place c.requires.1) c.index-station-place.result in
    omega (arith, active_most c.requires.0 c.args.place c.requires.1, ap (λ g. g.tail) e)

pub returns : goal.returns
returns c =
    rw (c.limits.ensures, feeder_read c.args.station.now c.requires.0.valid.formed (inside c.requires.0 c.args.place c.requires.1) c.index-station-place.result) refl
