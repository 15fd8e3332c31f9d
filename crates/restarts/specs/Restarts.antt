-- Demand 3 across restarts. A controller keeps nothing over a restart but images: a save keeps the image of its station, a restore
-- gives the station that it reads in an image. After any events its station is the one that the list of calls in force leaves
-- (Events.antt), and that list has what demand 3 asks.
use Rattle.std.specs.Prelude.{◌≡◌, ℕ, ◌<◌, Bool, cond, List, [], ◌∷◌, ◌++◌, map, ltb, length, get_or}
use Rattle.rules.specs.Basics.{Each}
use Rattle.rules.specs.Charge.{Charge, begun_charges}
use Rattle.rules.specs.Site.{State, charges_on, site_charges}
use Rattle.rules.specs.Calls.{Asked, fresh, least, Result, opening, Call, step}
use Rattle.rules.specs.Valid.{IsFeeder, ValidState}
use Rattle.guarantee.specs.Past.{Report, order_of, report_of, past, times_reported, start_of}
use Rattle.guarantee.specs.DemandOne.{DemandOne}
use Rattle.guarantee.specs.DemandTwo.{DemandTwo}
use Rattle.guarantee.specs.DemandThree.{DemandThree, DemandThreeFrom}
use Rattle.layout.specs.Image.{image_of}
use Rattle.layout.specs.Reading.{restoring}
use Rattle.layout.specs.Saving.{has_one}
use Rattle.restarts.specs.Events.{Event, opens, made, saves, restores, brings, Beginning, an_opening, an_image, a_refused_restore, CallList, left, is_saved, Lists, next, unsaved, in_force}

-- The controller

pub record Controller : Type 0 where
  pub station : State
  -- those saved, the first one first
  pub images : List (List ℕ)

-- the image of save k, and no bytes where there is none
abbrev pub kept : Controller → ℕ → List ℕ
kept c k = get_or c.images k []

abbrev pub does : Controller → Event → Controller
does c (opens x) = record { station = (opening x).state; images = c.images }
does c (made call) = record { station = (step c.station call).state; images = c.images }
does c saves =
    record {
      station = c.station;
      images = cond (has_one c.station) (c.images ++ (image_of c.station ∷ [])) c.images;
    }
does c (restores k) = record { station = (restoring (kept c k)).state; images = c.images }
does c (brings image) = record { station = (restoring image).state; images = c.images }

abbrev pub does_all : Controller → List Event → Controller
does_all c [] = c
does_all c (e ∷ events) = does_all (does c e) events

abbrev pub opened : Asked → Controller
opened x = record { station = (opening x).state; images = [] }

-- the station after an opening that asks for x and these events
abbrev pub stands : Asked → List Event → State
stands x events = (does_all (opened x) events).station

-- What is seen

-- an answer with the list afterwards, the image that a save wrote, the number of a save that wrote none, the number of a refused
-- restore, 0 for one that is not
pub data Outcome : Type 0 where
  gave : Result → Outcome
  wrote : List ℕ → Outcome
  wrote_none : ℕ → Outcome
  read : ℕ → Outcome

-- "22 covers .. saving several feeders"
abbrev pub saved_as : Bool → State → Outcome
saved_as one s = cond one (wrote (image_of s)) (wrote_none 22)

abbrev pub shows : Controller → Event → Outcome
shows c (opens x) = gave (opening x)
shows c (made call) = gave (step c.station call)
shows c saves = saved_as (has_one c.station) c.station
shows c (restores k) = read (restoring (kept c k)).refusal
shows c (brings image) = read (restoring image).refusal

abbrev pub shows_all : Controller → List Event → List Outcome
shows_all c [] = []
shows_all c (e ∷ events) = shows c e ∷ shows_all (does c e) events

-- the same by the lists of calls: every call is answered as the rules answer it behind the list in force, every saved image is
-- accepted, and "20, image to write or read not 4,608 bytes", is the number of a save that was not made
abbrev pub due : Lists → Event → Outcome
due l (opens x) = gave (opening x)
due l (made call) = gave (step (left l.now) call)
due l saves = saved_as (is_saved l.now) (left l.now)
due l (restores k) = read (cond (ltb k (length l.saved)) 0 20)
due l (brings image) = read (restoring image).refusal

abbrev pub due_all : Lists → List Event → List Outcome
due_all l [] = []
due_all l (e ∷ events) = due l e ∷ due_all (next l e) events

-- What is claimed

-- of a list of calls that began with an image from elsewhere; s is the station that it is of
pub record FromElsewhere (s : State) (calls : List Call) : Type 0 where
  -- "limit and balance hold from its clock on, with the charges it holds counted too, their lines, times and rates", W too, with all
  -- else that demand 3 says of orders, reports, enquiries and starts, but for the ceiling on ends; tickets go on from its next
  pub three : DemandThreeFrom step s calls
  -- "and the starts of those begun, as it has them"
  pub begun :
      (f : ℕ)
      → IsFeeder s f
      → Each (λ (c : Charge). c.start < s.clock → start_of step (past step s calls) (order_of f c) ≡ c.start) (charges_on s f)
  -- none of these is reported again
  pub not_again :
      (new : List Report)
      × ((past step s calls).reports ≡ map report_of (begun_charges s.clock (site_charges s)) ++ new)
      × ((f : ℕ) → IsFeeder s f → Each (λ (c : Charge). c.start < s.clock → times_reported new c.ticket ≡ 0) (charges_on s f))

abbrev pub ClaimedFrom : Beginning → List Call → Type 0
ClaimedFrom (an_opening x) calls = DemandThree step (opening x).state calls
ClaimedFrom (an_image image) calls = FromElsewhere (restoring image).state calls
ClaimedFrom a_refused_restore calls = DemandThree step (fresh least) calls

abbrev pub Claimed : CallList → Type 0
Claimed l = ClaimedFrom l.beginning l.calls

pub record Guaranteed (x : Asked) (events : List Event) : Type 0 where
  -- the station is the one that the list of calls in force leaves
  pub station : stands x events ≡ left (in_force x events)
  -- and all that was seen on the way is what the lists in force gave
  pub seen : shows_all (opened x) events ≡ due_all (unsaved x) events
  pub valid : ValidState (stands x events)
  -- Demands 1 and 2, of the station that stands
  pub one : (call : Call) → DemandOne step (stands x events) call
  pub two : DemandTwo step (stands x events)
  -- Demand 3, of the list in force
  pub three : Claimed (in_force x events)

abbrev pub AcrossRestarts : Type 0
AcrossRestarts = (x : Asked) (events : List Event) → Guaranteed x events
