-- What is claimed after an opening and any events, one by one (Restarts.antt).
use Rattle.std.specs.Prelude.{◌≡◌, List}
use Rattle.rules.specs.Calls.{Asked, fresh, least, opening, Call, step}
use Rattle.rules.specs.Valid.{ValidState}
use Rattle.guarantee.specs.DemandOne.{DemandOne}
use Rattle.guarantee.specs.DemandTwo.{DemandTwo}
use Rattle.guarantee.specs.DemandThree.{DemandThree}
use Rattle.restarts.specs.Events.{Event, an_opening, a_refused_restore, left, unsaved, in_force}
use Rattle.restarts.specs.Restarts.{opened, stands, shows_all, due_all, Claimed}

-- The station is the one that the list of calls in force leaves.
abbrev pub StationIsOfTheListInForce : Type 0
StationIsOfTheListInForce = (x : Asked) (events : List Event) → stands x events ≡ left (in_force x events)

-- All that was seen on the way is what the lists in force gave.
abbrev pub SeenIsWhatWasDue : Type 0
SeenIsWhatWasDue = (x : Asked) (events : List Event) → shows_all (opened x) events ≡ due_all (unsaved x) events

abbrev pub StationsStayValid : Type 0
StationsStayValid = (x : Asked) (events : List Event) → ValidState (stands x events)

-- Any call is refused or answered as it has to be.
abbrev pub RefusalsAcrossRestarts : Type 0
RefusalsAcrossRestarts = (x : Asked) (events : List Event) (call : Call) → DemandOne step (stands x events) call

-- Plans are taken where they are better, and orders get the earliest start.
abbrev pub PlansAcrossRestarts : Type 0
PlansAcrossRestarts = (x : Asked) (events : List Event) → DemandTwo step (stands x events)

-- What is claimed of a list of calls holds of the one in force:
abbrev pub OrdersAcrossRestarts : Type 0
OrdersAcrossRestarts = (x : Asked) (events : List Event) → Claimed (in_force x events)

-- of one that began with an opening,
abbrev pub OrdersSinceAnOpening : Type 0
OrdersSinceAnOpening =
    (x : Asked) (events : List Event) (y : Asked) (calls : List Call)
    → in_force x events ≡ record { beginning = an_opening y; calls = calls }
    → DemandThree step (opening y).state calls

-- and of one that began beside a refused restore. Elsewhere.antt has those that began with an image.
abbrev pub OrdersSinceARefusedRestore : Type 0
OrdersSinceARefusedRestore =
    (x : Asked) (events : List Event) (calls : List Call)
    → in_force x events ≡ record { beginning = a_refused_restore; calls = calls }
    → DemandThree step (fresh least) calls
