-- With no refusal the pairs of all passed charges fit in the list; the station afterwards has the clock moved.
use mathlib.Core.Path.{ap, ◌∙◌}
use native.Mathlib.Omega.{arith}
use lib.ListN.{length}
use Rattle.rules.specs.Site.{State, site_charges}
use Rattle.station.specs.View.{view}
use Rattle.station.proofs.Refusing.{refusal_passed}
use Rattle.site.proofs.Dropped.{left_few}
use Rattle.site.proofs.Moved.{move_refused, call_moved}
use Rattle.site.proofs.clock.move_clock.Goals as goal

pub returns-in_err-move_refusal : goal.returns-in_err-move_refusal
returns-in_err-move_refusal c =
    let refusal = c.in_err-move_refusal.field-0.0 in
    rw (refusal_passed c.from_residual.result refusal c.from_residual.ensures.1)
    (move_refused c.args.station.now c.args.target c.args.report.now refusal c.requires c.in_err-move_refusal.ensures)

pub overflow_sub-dropped : goal.overflow_sub-dropped
overflow_sub-dropped c =
    omega (
      arith,
      c.held-before.ensures,
      c.held.ensures ∙ ap (λ (x : State). length (site_charges x)) c.move_to.ensures.1,
      left_few (view c.args.station.now) c.args.target,
    )

pub returns : goal.returns
returns c =
    call_moved c.args.station.now c.args.target c.args.report.now c.requires c.in_ok-move_refusal.ensures
    (search c.report_feeders-reported.ensures)
    (omega (arith, c.held-before.ensures, c.held.ensures ∙ ap (λ (x : State). length (site_charges x)) c.move_to.ensures.1))
    (search c.move_to.ensures)
    (search c.move_to.ensures)
