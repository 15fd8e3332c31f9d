-- What replan by lines proposes is tested, with its rounds; an allowance out of range is refusal 11.
use mathlib.Core.Path.{refl}
use native.Mathlib.Omega.{arith}
use Rattle.std.proofs.lemmas.Result.{err_from_is_err_and}
use Rattle.std.proofs.lemmas.Bool.Decides.{nat_tests}
use Rattle.rules.specs.Calls.{replan_lines}
use Rattle.planning.proofs.Ready.{can_test, own_columns, ready}
use Rattle.planning.proofs.Refusals.{gives_no_feeder, lines_refused}
use Rattle.planning.proofs.Replanning.{enough, lines_tested}
use Rattle.planning.proofs.replan.replan_lines.Goals as goal

pub returns-in_err-place : goal.returns-in_err-place
returns-in_err-place c =
    let p = err_from_is_err_and c.from_residual.result c.from_residual.ensures.1 in
    rw (p.1, p.2) (gives_no_feeder c.args.number (replan_lines c.args.number c.args.allowance) c.requires c.in_err-place.ensures.0 c.in_err-place.ensures.1 refl)

pub returns-then-not-contains : goal.returns-then-not-contains
returns-then-not-contains c = lines_refused _ c.in_ok-place.ensures.0 c.in_ok-place.ensures.1 c.args.allowance (omega arith) c.requires (grind (arith, nat_tests))

pub by_lines-made-requires : goal.by_lines-made-requires
by_lines-made-requires c = ready (can_test c.requires c.in_ok-place.ensures.1 c.surroundings-surroundings.ensures c.lent-beside.ensures refl) _

pub replanned-requires : goal.replanned-requires
replanned-requires c =
    let w = can_test c.requires c.in_ok-place.ensures.1 c.surroundings-surroundings.ensures c.lent-beside.ensures refl in
    (own_columns w _, (ready w _).listed, enough _ _ c.by_lines-made.ensures.many)

pub returns : goal.returns
returns c =
    lines_tested c.in_ok-place.ensures.0 (can_test c.requires c.in_ok-place.ensures.1 c.surroundings-surroundings.ensures c.lent-beside.ensures refl) _
    c.replanned.ensures c.args.allowance c.by_lines-made.ensures (search) (search) (search) (grind (arith, nat_tests)) (grind (arith, nat_tests))
