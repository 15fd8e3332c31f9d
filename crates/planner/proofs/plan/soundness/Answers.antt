-- Above a limit, out of balance, or neither.
use mathlib.Core.Path.{sym, ◌∙◌}
use native.Mathlib.Omega.{arith}
use Rattle.rules.specs.Charge.{seen}
use Rattle.charges.specs.Arrays.{charges_of}
use Rattle.profile.proofs.Balances.{limit_shows}
use Rattle.planner.specs.Ready.{terms_of}
use Rattle.planner.proofs.StandingLoads.{all_shown}
use Rattle.planner.proofs.SoundPlans.{loads_above, loads_unbalanced, loads_kept}
use Rattle.planner.proofs.plan.soundness.Goals as goal

pub returns-then-not-within_limits : goal.returns-then-not-within_limits
returns-then-not-within_limits g c =
    let b = c.args.beside in
    loads_above (terms_of b) b.clock (seen (terms_of b) (charges_of c.args.charges.now)) (all_shown b c.requires.1 _ (omega arith) c.add_standing.ensures)
    (limit_shows (rw c.steps.ensures at c.within_limits.ensures)) c.if-not-within_limits.true

pub returns-then-is_some : goal.returns-then-is_some
returns-then-is_some g c =
    let b = c.args.beside in
    loads_unbalanced (terms_of b) b.clock (seen (terms_of b) (charges_of c.args.charges.now)) (all_shown b c.requires.1 _ (omega arith) c.add_standing.ensures)
    (limit_shows (rw c.steps.ensures at c.within_limits.ensures)) _ (rw c.steps-2.ensures at c.first_unbalanced.ensures.rule) c.if-not-within_limits.false (sym c.is_some.ensures ∙ c.if-is_some.true)

pub returns : goal.returns
returns g c =
    let b = c.args.beside in
    loads_kept (terms_of b) b.clock (seen (terms_of b) (charges_of c.args.charges.now)) (all_shown b c.requires.1 _ (omega arith) c.add_standing.ensures)
    (limit_shows (rw c.steps.ensures at c.within_limits.ensures)) _ (rw c.steps-2.ensures at c.first_unbalanced.ensures.rule) c.if-not-within_limits.false (sym c.is_some.ensures ∙ c.if-is_some.false)
