-- What is proved of a controller that runs the code, across restarts: after any openings, calls, saves and restores.
use Rattle.std.specs.Prelude.{◌≡◌, cond, List, [], ◌∷◌, map, ltb, length}
use Rattle.rules.specs.Calls as rules
use Rattle.rules.specs.Calls.{Result, fresh, least, opening, step}
use Rattle.guarantee.specs.Past.{Past, beginning}
use Rattle.guarantee.specs.DemandOne.{DemandOne}
use Rattle.guarantee.specs.DemandTwo.{DemandTwo}
use Rattle.layout.specs.Reading.{restoring}
use Rattle.layout.specs.Saving.{saving}
use Rattle.station.specs.View.{view, Valid}
use Rattle.station.specs.Opened.{open_answer}
use Rattle.image.specs.Answers.{saved}
use Rattle.restarts.specs.Events as restarts
use Rattle.restarts.specs.Events.{left, up_to}
use Rattle.restarts.specs.Restarts.{Claimed}
use Rattle.restarts.specs.Minutes.{began_with, known_of}
use Rattle.theorem.specs.Theorem.{Made, MeetsApply, call_made, given, known}
use Rattle.theorem.specs.Images.{Opening, given_back}
use Rattle.theorem.specs.Keeper.{CodeEvent, by_opening, by_call, by_save, by_restore, by_image, Start, Happened, MadeList, MadeLists, lists_with, lists_first, made_in_force, kept_after, calls_in, asked_first, events_from}

-- what an opening gave
abbrev pub opened_as : Opening → Result
opened_as o = record { answer = open_answer o.answer; state = view o.station; list = [] }

-- What was seen of an event is what the rules say, for the lists of calls that were in force: every answer, every list, every image,
-- every refusal number and every station.
abbrev pub IsAsTheRulesSay : MadeLists → CodeEvent → Type 0
IsAsTheRulesSay l (by_opening o) = opened_as o ≡ opening o.asked
IsAsTheRulesSay l (by_call m) = given m ≡ step (left (calls_in l.now)) (call_made m)
IsAsTheRulesSay l (by_save v) = saved v.answer v.after ≡ saving (left (calls_in l.now)) v.previous v.before
IsAsTheRulesSay l (by_restore k r) =
    given_back r ≡ record { refusal = cond (ltb k (length l.saved)) 0 20; state = left (up_to (map calls_in l.saved) k) }
IsAsTheRulesSay l (by_image r) = given_back r ≡ restoring r.image

abbrev pub AreAsTheRulesSay : MadeLists → List CodeEvent → Type 0
AreAsTheRulesSay l [] = Unit {0}
AreAsTheRulesSay l (e ∷ events) = IsAsTheRulesSay l e × AreAsTheRulesSay (lists_with l e) events

-- what is known after the list of calls in force, read off its calls, their answers and their lists
abbrev pub known_in_force : MadeList → Past
known_in_force l = known (beginning (began_with (calls_in l))) l.calls

pub record GuaranteedAcross (b : Start) (events : List CodeEvent) : Type 0 where
  -- the station is valid, so that what the next call or save asks is met
  pub valid : Valid (kept_after b events).station
  -- the list of calls in force is that of the rules, for the same events
  pub lists : calls_in (made_in_force b events) ≡ restarts.in_force (asked_first b) (events_from b events)
  -- the station is the one that this list leaves
  pub station : view (kept_after b events).station ≡ left (calls_in (made_in_force b events))
  -- all that was seen on the way is what the rules say, and so is what any further call would give
  pub seen : AreAsTheRulesSay (lists_first b) events
  pub next : (m : Made) → MeetsApply (kept_after b events).station m → given m ≡ step (view (kept_after b events).station) (call_made m)
  -- what is known after the list in force is what was seen of it
  pub known_same : known_in_force (made_in_force b events) ≡ known_of (calls_in (made_in_force b events))
  -- single calls and plans are as they have to be, of the station that stands
  pub one : (call : rules.Call) → DemandOne step (view (kept_after b events).station) call
  pub two : DemandTwo step (view (kept_after b events).station)
  -- and what is claimed of a list of calls holds of the one in force
  pub three : Claimed (calls_in (made_in_force b events))

abbrev pub CodeAcrossRestarts : Type 0
CodeAcrossRestarts = (b : Start) (events : List CodeEvent) → Happened b events → GuaranteedAcross b events
