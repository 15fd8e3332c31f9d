-- Demand 3 holds across restarts.
use mathlib.Core.Path.{◌≡◌, refl, sym, subst}
use mathlib.Core.List.{List, [], ◌∷◌}
use Rattle.rules.specs.Calls.{Asked, fresh, least, opening, Call, step}
use Rattle.rules.specs.Valid.{ValidState}
use Rattle.rules.proofs.Validity.{opening_valid}
use Rattle.guarantee.specs.DemandThree.{DemandThree}
use Rattle.guarantee.proofs.DemandOne.{valid_demand_one, after_valid}
use Rattle.guarantee.proofs.DemandTwo.{valid_demand_two}
use Rattle.guarantee.proofs.DemandThree.{demand_three}
use Rattle.guarantee.specs.Past.{beginning}
use Rattle.layout.specs.Reading.{restoring}
use Rattle.restarts.specs.Events.{Event, Beginning, an_opening, an_image, a_refused_restore, first, Lists, next, lists_from, unsaved, in_force}
use Rattle.restarts.specs.Restarts.{Controller, does, does_all, opened, stands, shows_all, due_all, ClaimedFrom, AcrossRestarts}
use Rattle.restarts.proofs.Elsewhere.{from_elsewhere}
use Rattle.restarts.proofs.Together.{Together, together_next, shown_due}

refused_three : (calls : List Call) → DemandThree step (fresh least) calls
unfolding opening
refused_three calls = demand_three least calls

pub claimed : (b : Beginning) (calls : List Call) → ValidState (first b) → ClaimedFrom b calls
claimed (an_opening x) calls v = demand_three x calls
claimed (an_image image) calls v = from_elsewhere (restoring image).state calls v
claimed a_refused_restore calls v = refused_three calls

together_all :
    (c : Controller) (l : Lists) (events : List Event) → Together c l → Together (does_all c events) (lists_from l events)
together_all c l [] t = t
together_all c l (e ∷ events) t = together_all (does c e) (next l e) events (together_next c l e t)

seen_all : (c : Controller) (l : Lists) (events : List Event) → Together c l → shows_all c events ≡ due_all l events
seen_all c l [] t = refl
seen_all c l (e ∷ events) t =
    rw (shown_due c l e t, seen_all (does c e) (next l e) events (together_next c l e t))

pub first_together : (x : Asked) → Together (opened x) (unsaved x)
first_together x = record { station = refl; images = refl; now = opening_valid x; saved = tt }

pub across : AcrossRestarts
across x events =
    let t : Together (does_all (opened x) events) (lists_from (unsaved x) events)
    = together_all (opened x) (unsaved x) events (first_together x) in
    let v : ValidState (stands x events)
    = subst ValidState (sym t.station) (after_valid (in_force x events).calls (beginning (first (in_force x events).beginning)) t.now) in
    record {
      station = t.station;
      seen = seen_all (opened x) (unsaved x) events (first_together x);
      valid = v;
      one = valid_demand_one (stands x events) v;
      two = valid_demand_two (stands x events) v;
      three = claimed (in_force x events).beginning (in_force x events).calls t.now;
    }
