-- What is claimed after any events, one by one.
use mathlib.Core.Path.{◌≡◌, subst}
use mathlib.Core.List.{List}
use Rattle.rules.specs.Calls.{Asked}
use Rattle.restarts.specs.Events.{Event, in_force, CallList}
use Rattle.restarts.specs.Restarts.{FromElsewhere, Claimed}
use Rattle.restarts.specs.Claims.{OrdersSinceAnOpening, OrdersSinceARefusedRestore}
use Rattle.restarts.specs.Elsewhere.{SinceAnImage}
use Rattle.restarts.proofs.Restarts.{across}

claimed_of : (x : Asked) (events : List Event) (l : CallList) → in_force x events ≡ l → Claimed l
claimed_of x events l e = subst (λ (m : CallList). Claimed m) e (across x events).three

pub since_opening : OrdersSinceAnOpening
since_opening x events y calls e = claimed_of x events _ e

pub since_refused_restore : OrdersSinceARefusedRestore
since_refused_restore x events calls e = claimed_of x events _ e

pub since_image : SinceAnImage FromElsewhere
since_image x events image calls e = claimed_of x events _ e
