-- Sound is what breaks neither.
use mathlib.Core.Path.{sym, ◌∙◌}
use Rattle.rules.specs.Charge.{seen}
use Rattle.charges.specs.Arrays.{charges_of}
use Rattle.planner.specs.Ready.{terms_of}
use Rattle.planner.proofs.SoundPlans.{sound_broken, no_cause}
use Rattle.planner.proofs.plan.plan_sound.Goals as goal

pub returns : goal.returns
returns g c =
    let b = c.args.beside in
    c.is_ok.ensures.value ∙ no_cause c.soundness.result
    ∙ rw c.soundness.ensures (sym (sound_broken (terms_of b) b.clock (seen (terms_of b) (charges_of c.args.charges.now))))
