use native.Mathlib.Omega.{arith}
use Rattle.std.proofs.lemmas.Bool.Decides.{nat_tests}
use Rattle.refusals.specs.Refusals.{number_of}
use Rattle.station.proofs.Refusing.{number_some, refusal_passed}
use Rattle.station.proofs.OpenRefusals.{feeder_refused, site_left}
use Rattle.station.proofs.open.open_refusal.Goals as goal

pub returns-in_err-feeders_refusal : goal.returns-in_err-feeders_refusal
returns-in_err-feeders_refusal c =
    let refusal = c.in_err-feeders_refusal.field-0.0 in
    rw (refusal_passed c.from_residual.result refusal c.from_residual.ensures.1)
    (feeder_refused c.args.asked.now (number_of refusal) (grind (arith, nat_tests)) (grind (arith, nat_tests)) (search) c.in_err-feeders_refusal.ensures (number_some refusal))

pub returns-then-not-contains-2 : goal.returns-then-not-contains-2
returns-then-not-contains-2 c =
    rw (site_left c.args.asked.now (grind (arith, nat_tests)) (grind (arith, nat_tests)) (search) c.in_ok-feeders_refusal.ensures)
    (grind (arith, nat_tests))
