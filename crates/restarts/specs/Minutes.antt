-- The minutes of which a list of calls claims limit, balance and W, and what is known after it.
use Rattle.std.specs.Prelude.{ℕ}
use Rattle.rules.specs.Site.{State}
use Rattle.rules.specs.Calls.{step}
use Rattle.guarantee.specs.Past.{Past, past}
use Rattle.layout.specs.Reading.{restoring}
use Rattle.restarts.specs.Events.{Beginning, an_opening, an_image, a_refused_restore, first, CallList}

-- the first of these minutes: every one after an opening or beside a refused restore, those from its clock on of an image
abbrev pub first_minute : Beginning → ℕ
first_minute (an_opening x) = 0
first_minute (an_image image) = (restoring image).state.clock
first_minute a_refused_restore = 0

-- the station that a list of calls began with
abbrev pub began_with : CallList → State
began_with l = first l.beginning

-- what is known after the whole of it
abbrev pub known_of : CallList → Past
known_of l = past step (first l.beginning) l.calls
