-- The fields of demand 2 for previews one by one, and a test of each that computes. It is true exactly where the field holds:
-- `previews_tested` in proofs/TestsTwoPreviews.antt.
use Rattle.std.specs.Prelude.{◌≡◌, ℕ, ◌+◌, ◌≤◌, Bool, List, [], ◌∷◌, leb}
use Rattle.rules.specs.Load.{Load, count, drawn, IsLine}
use Rattle.rules.specs.Charge.{loads_of}
use Rattle.rules.specs.Search.{added}
use Rattle.rules.specs.Site.{State, feeder_of, charges_on, others_of}
use Rattle.rules.specs.Calls.{previewed, Result, Call, preview, lent, draw_for}
use Rattle.guarantee.specs.Past.{Gives}
use Rattle.guarantee.specs.DemandTwo.{SoundPlan}
use Rattle.excluded.specs.Same.{same_list, same_answer, number_in, same_state}
use Rattle.excluded.specs.Free.{Free, free}
use Rattle.excluded.specs.Minutes.{plan_limit, plan_balance, plan_site}
use Rattle.excluded.specs.Starts.{no_earlier}

-- of `PreviewStart`, with those of `EarliestStart` and of `SoundPlan` behind `answer`
pub data Field : Type 0 where
  answer : Field
  not_early : Field
  limit : Field
  balance : Field
  site : Field
  earliest : Field
  same_station : Field
  same_list_lem : Field

abbrev pub fields : List Field
fields = answer ∷ not_early ∷ limit ∷ balance ∷ site ∷ earliest ∷ same_station ∷ same_list_lem ∷ []

-- the place of a field in that list
abbrev pub place : Field → ℕ
place answer = 0
place not_early = 1
place limit = 2
place balance = 3
place site = 4
place earliest = 5
place same_station = 6
place same_list_lem = 7

-- a preview to a station
pub record Trial : Type 0 where
  pub gives : Gives
  pub station : State
  pub feeder : ℕ
  pub line : ℕ
  pub time : ℕ
  pub due : ℕ
  pub rate : ℕ

abbrev pub call_of : Trial → Call
call_of r = preview r.feeder r.line r.time r.due r.rate

abbrev pub result_of : Trial → Result
result_of r = r.gives r.station (call_of r)

-- the start that the answer gives
abbrev pub start_of : Trial → ℕ
start_of r = number_in 1 (result_of r).answer

-- the loads of the held charges, and the new one from u on
abbrev pub loads_with : Trial → ℕ → List Load
loads_with r u = added (loads_of (charges_on r.station r.feeder)) (draw_for r.station r.feeder r.line r.time r.rate) u

-- what a field says; all together they are what demand 2 says of a preview (`preview_fields` there)
abbrev pub Holds : Trial → Field → Type 0
Holds r answer = Free r.station (call_of r) ((result_of r).answer ≡ previewed (start_of r))
Holds r not_early = Free r.station (call_of r) (r.station.clock ≤ start_of r)
Holds r limit =
    Free r.station (call_of r) ((l t : ℕ) → IsLine l → r.station.clock ≤ t → count (loads_with r (start_of r)) l t ≤ (feeder_of r.station r.feeder).limit)
Holds r balance =
    Free r.station (call_of r)
    ((l m t : ℕ)
    → IsLine l
    → IsLine m
    → r.station.clock ≤ t
    → count (loads_with r (start_of r)) l t ≤ count (loads_with r (start_of r)) m t + (feeder_of r.station r.feeder).bound)
Holds r site =
    Free r.station (call_of r)
    ((t : ℕ)
    → r.station.clock ≤ t
    → drawn (loads_of (others_of r.station r.feeder)) t + drawn (loads_with r (start_of r)) t ≤ r.station.site)
Holds r earliest =
    Free r.station (call_of r) ((u : ℕ) → r.station.clock ≤ u → SoundPlan r.station r.feeder (loads_with r u) → start_of r ≤ u)
Holds r same_station = (result_of r).state ≡ r.station
Holds r same_list_lem = (result_of r).list ≡ lent (call_of r)

-- The tests

abbrev pub tested : Trial → Field → Bool
tested r answer = free r.station (call_of r) (same_answer (result_of r).answer (previewed (start_of r)))
tested r not_early = free r.station (call_of r) (leb r.station.clock (start_of r))
tested r limit = free r.station (call_of r) (plan_limit r.station r.feeder (loads_with r (start_of r)))
tested r balance = free r.station (call_of r) (plan_balance r.station r.feeder (loads_with r (start_of r)))
tested r site = free r.station (call_of r) (plan_site r.station r.feeder (loads_with r (start_of r)))
tested r earliest = free r.station (call_of r) (no_earlier r.station r.feeder (draw_for r.station r.feeder r.line r.time r.rate) (start_of r))
tested r same_station = same_state (result_of r).state r.station
tested r same_list_lem = same_list (result_of r).list (lent (call_of r))
