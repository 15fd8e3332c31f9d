-- What happens to a controller, and which list of calls is in force then.
use Rattle.std.specs.Prelude.{ℕ, Bool, cond, List, [], ◌∷◌, ◌++◌, eqb, get_or}
use Rattle.rules.specs.Site.{State}
use Rattle.rules.specs.Calls.{Asked, fresh, least, opening, Call, step}
use Rattle.guarantee.specs.Past.{past}
use Rattle.layout.specs.Reading.{restoring}
use Rattle.layout.specs.Saving.{has_one}

pub data Event : Type 0 where
  -- an opening, refused or not
  opens : Asked → Event
  -- a call to the station that stands
  made : Call → Event
  -- an image of the station is saved, if it has one feeder; a save that is refused for its lists (20) is no event
  saves : Event
  -- the image of save k is restored, k counted from 0 over those that wrote one
  restores : ℕ → Event
  -- "an image from elsewhere": any list of bytes, which restore takes or refuses
  brings : List ℕ → Event

-- what a list of calls began with
pub data Beginning : Type 0 where
  an_opening : Asked → Beginning
  an_image : List ℕ → Beginning
  a_refused_restore : Beginning

-- "Beside a refused restore stands the fresh station of 1, 100 and r = 0, and a new list of calls begins with it": "one feeder and
-- W 720".
abbrev pub first : Beginning → State
first (an_opening x) = (opening x).state
first (an_image image) = (restoring image).state
first a_refused_restore = fresh least

pub record CallList : Type 0 where
  pub beginning : Beginning
  pub calls : List Call

abbrev pub beginning_with : Beginning → CallList
beginning_with b = record { beginning = b; calls = [] }

abbrev pub one_more : CallList → Call → CallList
one_more l c = record { beginning = l.beginning; calls = l.calls ++ (c ∷ []) }

-- the station that the rules leave after a list of calls
abbrev pub left : CallList → State
left l = (past step (first l.beginning) l.calls).station

-- "Save, restore and the bus serve a site of one feeder", and calls leave as many feeders as there were
abbrev pub is_saved : CallList → Bool
is_saved l = has_one (first l.beginning)

-- the list in force, and the list up to each save
pub record Lists : Type 0 where
  pub now : CallList
  pub saved : List CallList

-- "After restoring a saved image, the list of calls is the one up to the save": the calls between fall out, and calls made then
-- continue it. Where no save k was made there is nothing to read, and the restore is refused.
abbrev pub up_to : List CallList → ℕ → CallList
up_to saved k = get_or saved k (beginning_with a_refused_restore)

abbrev pub brought : List ℕ → CallList
brought image = beginning_with (cond (eqb (restoring image).refusal 0) (an_image image) a_refused_restore)

abbrev pub next : Lists → Event → Lists
next l (opens x) = record { now = beginning_with (an_opening x); saved = l.saved }
next l (made c) = record { now = one_more l.now c; saved = l.saved }
next l saves = record { now = l.now; saved = cond (is_saved l.now) (l.saved ++ (l.now ∷ [])) l.saved }
next l (restores k) = record { now = up_to l.saved k; saved = l.saved }
next l (brings image) = record { now = brought image; saved = l.saved }

abbrev pub lists_from : Lists → List Event → Lists
lists_from l [] = l
lists_from l (e ∷ events) = lists_from (next l e) events

-- nothing is saved before the first opening
abbrev pub unsaved : Asked → Lists
unsaved x = record { now = beginning_with (an_opening x); saved = [] }

-- the list of calls in force after an opening that asks for x and these events
abbrev pub in_force : Asked → List Event → CallList
in_force x events = (lists_from (unsaved x) events).now
