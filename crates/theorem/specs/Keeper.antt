-- What happens to a controller that runs the code, each opening, call, save and restore known by its contract alone, and which list of
-- calls is in force then, read off what was seen.
use Rattle.std.specs.Prelude.{◌≡◌, ℕ, cond, List, [], ◌∷◌, ◌++◌, map, eqb, get_or, Result, Ok, Err}
use Rattle.rules.specs.Calls.{Asked, least}
use Rattle.refusals.specs.declared.Refusal.{Refusal}
use Rattle.refusals.specs.Refusals.{refusal_in}
use Rattle.station.specs.declared.Station.{Station}
use Rattle.restarts.specs.Events as rules
use Rattle.restarts.specs.Events.{Beginning, an_opening, an_image, a_refused_restore, CallList}
use Rattle.theorem.specs.Theorem.{Made, MeetsOpen, MeetsApply, call_made}
use Rattle.theorem.specs.Images.{Opening, Save, Restore, MeetsSave, MeetsRestore}

pub data CodeEvent : Type 0 where
  by_opening : Opening → CodeEvent
  by_call : Made → CodeEvent
  by_save : Save → CodeEvent
  -- the image that save k wrote is restored, k counted from 0 over those that wrote one
  by_restore : ℕ → Restore → CodeEvent
  -- an image from elsewhere is restored: any list of bytes
  by_image : Restore → CodeEvent

-- The controller

-- it keeps nothing over a restart but the images that it saved, the first one first
pub record Keeper : Type 0 where
  pub station : Station
  pub images : List (List ℕ)

-- what a save adds, by its answer
abbrev pub if_saved : {A : Type 0} → Result ℕ Refusal → A → List A
if_saved (Ok blocks) a = a ∷ []
if_saved (Err refusal) a = []

abbrev pub keeper_with : Keeper → CodeEvent → Keeper
keeper_with c (by_opening o) = record { station = o.station; images = c.images }
keeper_with c (by_call m) = record { station = m.station; images = c.images }
keeper_with c (by_save v) = record { station = c.station; images = c.images ++ if_saved v.answer v.after }
keeper_with c (by_restore k r) = record { station = r.station; images = c.images }
keeper_with c (by_image r) = record { station = r.station; images = c.images }

abbrev pub keeper_after : Keeper → List CodeEvent → Keeper
keeper_after c [] = c
keeper_after c (e ∷ events) = keeper_after (keeper_with c e) events

-- The contract of each event. A restore of save k is lent the bytes that this save wrote, no bytes where there is none.
abbrev pub MeetsEvent : Keeper → CodeEvent → Type 0
MeetsEvent c (by_opening o) = MeetsOpen o.asked o.answer o.station
MeetsEvent c (by_call m) = MeetsApply c.station m
MeetsEvent c (by_save v) = MeetsSave c.station v
MeetsEvent c (by_restore k r) = (r.image ≡ get_or c.images k []) × MeetsRestore r
MeetsEvent c (by_image r) = MeetsRestore r

abbrev pub EventChain : Keeper → List CodeEvent → Type 0
EventChain c [] = Unit {0}
EventChain c (e ∷ events) = MeetsEvent c e × EventChain (keeper_with c e) events

-- What it begins with: an opening, or an image from elsewhere.
pub data Start : Type 0 where
  with_opening : Opening → Start
  with_image : Restore → Start

abbrev pub MeetsStart : Start → Type 0
MeetsStart (with_opening o) = MeetsOpen o.asked o.answer o.station
MeetsStart (with_image r) = MeetsRestore r

abbrev pub started : Start → Keeper
started (with_opening o) = record { station = o.station; images = [] }
started (with_image r) = record { station = r.station; images = [] }

-- "Each call gets the station that the last one left, and nobody else writes it meanwhile."
abbrev pub Happened : Start → List CodeEvent → Type 0
Happened b events = MeetsStart b × EventChain (started b) events

-- The list of calls in force

-- calls with what they gave, and what they began with
pub record MadeList : Type 0 where
  pub beginning : Beginning
  pub calls : List Made

abbrev pub none_made : Beginning → MadeList
none_made b = record { beginning = b; calls = [] }

-- the list in force, and the list up to each save that wrote an image
pub record MadeLists : Type 0 where
  pub now : MadeList
  pub saved : List MadeList

-- a refused restore begins a new list
abbrev pub brought_by : List ℕ → Result Unit Refusal → MadeList
brought_by image (Ok done) = none_made (an_image image)
brought_by image (Err refusal) = none_made a_refused_restore

abbrev pub lists_with : MadeLists → CodeEvent → MadeLists
lists_with l (by_opening o) = record { now = none_made (an_opening o.asked); saved = l.saved }
lists_with l (by_call m) = record { now = record { beginning = l.now.beginning; calls = l.now.calls ++ (m ∷ []) }; saved = l.saved }
lists_with l (by_save v) = record { now = l.now; saved = l.saved ++ if_saved v.answer l.now }
lists_with l (by_restore k r) = record { now = get_or l.saved k (none_made a_refused_restore); saved = l.saved }
lists_with l (by_image r) = record { now = brought_by r.image r.answer; saved = l.saved }

abbrev pub lists_after : MadeLists → List CodeEvent → MadeLists
lists_after l [] = l
lists_after l (e ∷ events) = lists_after (lists_with l e) events

abbrev pub lists_first : Start → MadeLists
lists_first (with_opening o) = record { now = none_made (an_opening o.asked); saved = [] }
lists_first (with_image r) = record { now = brought_by r.image r.answer; saved = [] }

abbrev pub made_in_force : Start → List CodeEvent → MadeList
made_in_force b events = (lists_after (lists_first b) events).now

-- the controller after all of it
abbrev pub kept_after : Start → List CodeEvent → Keeper
kept_after b events = keeper_after (started b) events

-- In the words of the rules

abbrev pub calls_in : MadeList → CallList
calls_in l = record { beginning = l.beginning; calls = map call_made l.calls }

-- a save that is refused for its lists (20) is no event there
abbrev pub events_of : CodeEvent → List rules.Event
events_of (by_opening o) = rules.opens o.asked ∷ []
events_of (by_call m) = rules.made (call_made m) ∷ []
events_of (by_save v) = cond (eqb (refusal_in v.answer) 20) [] (rules.saves ∷ [])
events_of (by_restore k r) = rules.restores k ∷ []
events_of (by_image r) = rules.brings r.image ∷ []

abbrev pub all_events_of : List CodeEvent → List rules.Event
all_events_of [] = []
all_events_of (e ∷ events) = events_of e ++ all_events_of events

-- a controller that begins with an image has opened nothing before; the rules' events begin with an opening, here the least one
abbrev pub asked_first : Start → Asked
asked_first (with_opening o) = o.asked
asked_first (with_image r) = least

abbrev pub events_from : Start → List CodeEvent → List rules.Event
events_from (with_opening o) events = all_events_of events
events_from (with_image r) events = rules.brings r.image ∷ all_events_of events
