use lib.ListN.{take}
use native.Mathlib.Omega.{arith}
use Rattle.std.proofs.Common.{rules, ◌∙◌}
use Rattle.std.proofs.lemmas.Iterator.{YieldsList-from_slice, YieldsList-from_map}
use Rattle.std.proofs.lemmas.Iterator.Consumers.{sum_by_from_yields_List}
use Rattle.std.proofs.lemmas.Iterator.Adapters.{fits_from_length, at_most_from_yields_List}
use Rattle.station.proofs.Views.{length_among}
use Rattle.site.proofs.Dropped.{held_by, held_all}
use Rattle.site.proofs.clock.held.Goals as goal

pub returns : goal.returns
returns c =
    let s = c.args.station.now in
    sum_by_from_yields_List held_by (take s.count s.feeders) c.map.result c.sum.result c.sum.ensures.ran
    (YieldsList-from_map _ held_by (YieldsList-from_slice (take s.count s.feeders) cc) c.map.ensures.closure (λ x r q k. search rules))
    ∙ held_all s c.requires

-- Each of four feeders at most holds 180 charges at most.
pub sum-requires-clause-fits : goal.sum-requires-clause-fits
sum-requires-clause-fits c =
    let s = c.args.station.now in
    fits_from_length _ _ 4 _
    (at_most_from_yields_List (YieldsList-from_slice (take s.count s.feeders) cc) (omega (arith, c.requires.four, length_among s c.requires)))
    c.map.ensures.closure (omega arith) (λ x r q k. search (rules, arith))
