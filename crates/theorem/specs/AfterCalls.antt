-- The frame of each sentence about a list of calls: of whom it speaks, and what is known of them.
--
-- A station was opened by asking for `x`, which gave `answer` and the station `first`; then `calls` were made, each with any arguments and
-- any lists, on the station that the last one left (`Chain` in Theorem.antt). Of these calls one has seen what was passed, what they
-- answered, and their lists.
use Rattle.std.specs.Prelude.{List, Result}
use Rattle.rules.specs.Site.{State}
use Rattle.rules.specs.Calls.{Asked, opening}
use Rattle.guarantee.specs.Past.{Past, beginning}
use Rattle.refusals.specs.declared.Refusal.{Refusal}
use Rattle.station.specs.declared.Station.{Station}
use Rattle.station.specs.declared.bounds.Opened.{Opened}
use Rattle.station.specs.View.{view}
use Rattle.theorem.specs.Theorem.{Made, MeetsOpen, Chain, known}

-- what was asked for, the station that the opening gave, and the calls that were made
abbrev pub About : Type 1
About = Asked → Station → List Made → Type 0

-- Whatever was asked for, and whatever calls were then made, it holds.
abbrev pub ForAnyCalls : About → Type 0
ForAnyCalls Holds =
    (x : Asked) (answer : Result Opened Refusal) (first : Station)
    → MeetsOpen x answer first
    → (calls : List Made)
    → Chain first calls
    → Holds x first calls

-- what is known after the calls: the clock, the accepted orders, the tickets withdrawn and the reports, in the order of the calls
abbrev pub known_after : Station → List Made → Past
known_after first calls = known (beginning (view first)) calls

-- The same of the station asked for, with its feeders, their N, D and r, and W, and of what is known after the calls. Where the
-- opening was refused it is the station beside the refusal.
abbrev pub AfterAnyCalls : (State → Past → Type 0) → Type 0
AfterAnyCalls Holds = ForAnyCalls (λ x first calls. Holds (opening x).state (known_after first calls))
