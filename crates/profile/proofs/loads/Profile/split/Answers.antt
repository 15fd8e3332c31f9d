-- `profile::loads::Profile::split` meets its contract: where the minute is new, it is put in behind the step found.
use mathlib.Core.Path.{subst}
use native.Mathlib.Omega.{arith}
use Rattle.profile.specs.Steps.{In}
use Rattle.profile.specs.Shows.{Profile}
use Rattle.profile.proofs.Edited.{minute_taken}
use Rattle.profile.proofs.Adds.{split_some}
use Rattle.profile.proofs.loads.Profile.split.Goals as goal

pub returns : goal.returns
returns g c =
    let found = subst (λ (p : Profile). In p c.place-i.result c.args.t) c.steps.ensures c.place-i.ensures in
    split_some c.requires.formed found (λ e. omega (arith, c.if-self-i.false, e, minute_taken _ _ _ c.self.view_is found.below)) c.put_in.ensures
