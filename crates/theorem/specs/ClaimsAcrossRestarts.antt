-- What is proved of the code across restarts, one by one (AcrossRestarts.antt).
use Rattle.std.specs.Prelude.{◌≡◌, List}
use Rattle.rules.specs.Calls as rules
use Rattle.rules.specs.Calls.{step}
use Rattle.guarantee.specs.DemandOne.{DemandOne}
use Rattle.guarantee.specs.DemandTwo.{DemandTwo}
use Rattle.station.specs.View.{view, Valid}
use Rattle.restarts.specs.Events as restarts
use Rattle.restarts.specs.Events.{left}
use Rattle.restarts.specs.Restarts.{Claimed}
use Rattle.restarts.specs.Minutes.{known_of}
use Rattle.theorem.specs.Theorem.{Made, MeetsApply, call_made, given}
use Rattle.theorem.specs.Keeper.{CodeEvent, Start, Happened, lists_first, made_in_force, kept_after, calls_in, asked_first, events_from}
use Rattle.theorem.specs.AcrossRestarts.{known_in_force, AreAsTheRulesSay}

-- whatever happens to a controller, from whatever it begins with
abbrev pub AfterAnyEvents : (Start → List CodeEvent → Type 0) → Type 0
AfterAnyEvents Holds = (b : Start) (events : List CodeEvent) → Happened b events → Holds b events

-- Its station is valid, so that what the next call or save asks is met.
abbrev pub ItsStationIsValid : Start → List CodeEvent → Type 0
ItsStationIsValid b events = Valid (kept_after b events).station

-- The list of calls in force is that of the rules for the same events.
abbrev pub ItsListIsThatOfTheRules : Start → List CodeEvent → Type 0
ItsListIsThatOfTheRules b events = calls_in (made_in_force b events) ≡ restarts.in_force (asked_first b) (events_from b events)

-- Its station is the one that this list leaves.
abbrev pub ItsStationIsOfThisList : Start → List CodeEvent → Type 0
ItsStationIsOfThisList b events = view (kept_after b events).station ≡ left (calls_in (made_in_force b events))

-- Every answer, list, image, refusal number and station that was seen is what the rules say,
abbrev pub AllSeenIsAsTheRulesSay : Start → List CodeEvent → Type 0
AllSeenIsAsTheRulesSay b events = AreAsTheRulesSay (lists_first b) events

-- and so is what any further call would give.
abbrev pub FurtherCallsAreTheRules : Start → List CodeEvent → Type 0
FurtherCallsAreTheRules b events =
    (m : Made) → MeetsApply (kept_after b events).station m → given m ≡ step (view (kept_after b events).station) (call_made m)

-- What is known after the list in force is what was seen of its calls.
abbrev pub AllKnownWasSeen : Start → List CodeEvent → Type 0
AllKnownWasSeen b events = known_in_force (made_in_force b events) ≡ known_of (calls_in (made_in_force b events))

-- Any call is refused or answered as it has to be.
abbrev pub RefusalsOfItsStation : Start → List CodeEvent → Type 0
RefusalsOfItsStation b events = (call : rules.Call) → DemandOne step (view (kept_after b events).station) call

-- Plans are taken where they are better, and orders get the earliest start.
abbrev pub PlansOfItsStation : Start → List CodeEvent → Type 0
PlansOfItsStation b events = DemandTwo step (view (kept_after b events).station)

-- What is claimed of a list of calls holds of the one in force.
abbrev pub OrdersOfItsList : Start → List CodeEvent → Type 0
OrdersOfItsList b events = Claimed (calls_in (made_in_force b events))
