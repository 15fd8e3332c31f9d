-- The bus program "holds an image, and each of its calls restores, acts and saves": these are its events, and its list of calls is that
-- of all its calls since the last opening that it took. A call that is refused leaves the station, and so the image.
use Rattle.std.specs.Prelude.{◌≡◌, ℕ, suc, Bool, true, cond, not, ◌&&◌, List, [], ◌∷◌}
use Rattle.rules.specs.Calls.{Asked, opening, Call}
use Rattle.guarantee.specs.Past.{is_refused}
use Rattle.layout.specs.Saving.{has_one}
use Rattle.restarts.specs.Events.{Event, opens, made, saves, restores, an_opening, CallList, beginning_with, one_more, left, in_force}
use Rattle.restarts.specs.Restarts.{stands, Claimed}

-- a call to the bus program, or an opening
pub data BusCall : Type 0 where
  calls : Call → BusCall
  reopens : Asked → BusCall

-- An opening is taken where it is granted and of one feeder: "22 covers .. saving several feeders".
abbrev pub is_taken : Asked → Bool
is_taken x = not (is_refused (opening x).answer) && has_one (opening x).state

-- Calls made to the image of save k. An opening reads no image; where it is not taken, nothing is saved, and what stands is read from
-- the image again.
abbrev pub bus_calls : ℕ → List BusCall → List Event
bus_calls k [] = []
bus_calls k (calls c ∷ ms) = restores k ∷ made c ∷ saves ∷ bus_calls (suc k) ms
bus_calls k (reopens x ∷ ms) = opens x ∷ cond (is_taken x) (saves ∷ bus_calls (suc k) ms) (restores k ∷ bus_calls k ms)

-- the first opening is saved first
abbrev pub bus_events : List BusCall → List Event
bus_events ms = saves ∷ bus_calls 0 ms

-- The list of calls that the image is of: a call goes on with it, an opening that is taken begins a new one, any other leaves it.
abbrev pub bus_list : CallList → List BusCall → CallList
bus_list l [] = l
bus_list l (calls c ∷ ms) = bus_list (one_more l c) ms
bus_list l (reopens x ∷ ms) = bus_list (cond (is_taken x) (beginning_with (an_opening x)) l) ms

-- After a first opening that is taken this list is in force,
abbrev pub OnTheBus : Type 0
OnTheBus =
    (x : Asked) (ms : List BusCall)
    → is_taken x ≡ true
    → in_force x (bus_events ms) ≡ bus_list (beginning_with (an_opening x)) ms

-- so that the bus program's station is the one that it leaves,
abbrev pub StationIsOfTheBusList : Type 0
StationIsOfTheBusList =
    (x : Asked) (ms : List BusCall)
    → is_taken x ≡ true
    → stands x (bus_events ms) ≡ left (bus_list (beginning_with (an_opening x)) ms)

-- and what is guaranteed of orders holds of it.
abbrev pub OrdersAreKeptOnTheBus : Type 0
OrdersAreKeptOnTheBus =
    (x : Asked) (ms : List BusCall) → is_taken x ≡ true → Claimed (bus_list (beginning_with (an_opening x)) ms)
