-- Each time is 1445 at most, so that the sum of 180 fits in 32 bits.
use Rattle.std.proofs.Common.{rules, refl, ℕ, ◌<◌}
use native.Mathlib.Omega.{arith}
use lib.ListN.{get_or}
use Rattle.std.proofs.lemmas.List.{get_or_default}
use Rattle.std.proofs.lemmas.Iterator.{YieldsList-from_slice, YieldsList-from_map}
use Rattle.std.proofs.lemmas.Iterator.Consumers.{sum_by_from_yields_List, fits_by_from_yields_list}
use Rattle.std.proofs.lemmas.Iterator.Adapters.{serves_from_places}
use Rattle.priority.proofs.Crowding.{total_most}
use Rattle.priority.proofs.crowd.crowd_of.Goals as goal

pub sum-requires-clause-can : goal.sum-requires-clause-can
sum-requires-clause-can c =
    let w = c.args.waiting.now in
    let e = c.requires in
    (tt, serves_from_places (YieldsList-from_slice w cc) (λ x q r. search rules) (λ x k b same. let low : x.now < 180 = omega (arith, e.inside.below k b, get_or_default w k x.now 0 b, same) in search (rules, arith, low)))

pub sum-requires-clause-fits : goal.sum-requires-clause-fits
sum-requires-clause-fits c =
    let w = c.args.waiting.now in
    let time = λ (i : ℕ). get_or c.args.charges.now.times i 0 in
    fits_by_from_yields_list time w c.map.result _
    (YieldsList-from_map _ time (YieldsList-from_slice w cc) c.map.ensures.closure (λ x r q k. search (rules, arith)))
    (omega (arith, total_most c.requires))

pub returns : goal.returns
returns c =
    let w = c.args.waiting.now in
    let time = λ (i : ℕ). get_or c.args.charges.now.times i 0 in
    record {
      number = refl;
      total = sum_by_from_yields_List time w c.map.result c.sum.result c.sum.ensures.ran
          (YieldsList-from_map _ time (YieldsList-from_slice w cc) c.map.ensures.closure (λ x r q k. search (rules, arith)));
    }
