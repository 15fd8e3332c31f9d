-- The fields of demand 2 for withdrawals one by one, and a test of each that computes. It is true exactly where the field holds:
-- `withdrawals_tested` in proofs/TestsTwoWithdrawals.antt.
use Rattle.std.specs.Prelude.{◌↔◌, ◌≡◌, ℕ, suc, Bool, not, ◌&&◌, List, [], ◌∷◌, eqb, length}
use Rattle.rules.specs.Basics.{some}
use Rattle.rules.specs.Load.{Load}
use Rattle.rules.specs.Charge.{Charge, is_waiting, loads_of, has_ticket, without_ticket}
use Rattle.rules.specs.Site.{State, charges_on, site_charges, holding}
use Rattle.rules.specs.Calls.{feeder_with, withdrawn, Result, withdraw}
use Rattle.guarantee.specs.Past.{Gives}
use Rattle.guarantee.specs.DemandTwo.{SoundPlan, Waits}
use Rattle.excluded.specs.Same.{where_so, same_test, same_answer, same_state}
use Rattle.excluded.specs.Minutes.{plan_sound}

-- of `Withdrawal`
pub data Field : Type 0 where
  removed : Field
  others_same : Field
  place_free : Field
  unchanged : Field

abbrev pub fields : List Field
fields = removed ∷ others_same ∷ place_free ∷ unchanged ∷ []

-- the place of a field in that list
abbrev pub place : Field → ℕ
place removed = 0
place others_same = 1
place place_free = 2
place unchanged = 3

-- a withdrawal to a station
pub record Trial : Type 0 where
  pub gives : Gives
  pub station : State
  pub ticket : ℕ

abbrev pub result_of : Trial → Result
result_of r = r.gives r.station (withdraw r.ticket)

-- the feeder that holds the ticket, and what it holds
abbrev pub feeder_in : Trial → ℕ
feeder_in r = feeder_with r.ticket 1 r.station.feeders

abbrev pub held_of : Trial → List Charge
held_of r = charges_on r.station (feeder_in r)

-- the loads of the charges that remain
abbrev pub rest : Trial → List Load
rest r = loads_of (without_ticket r.ticket (held_of r))

abbrev pub Withdrawn : Trial → Type 0
Withdrawn r = (result_of r).answer ≡ withdrawn

-- what a field says; all together they are what demand 2 says of a withdrawal (`withdrawal_fields` there)
abbrev pub Holds : Trial → Field → Type 0
Holds r removed = Withdrawn r ↔ (Waits r.station r.ticket × SoundPlan r.station (feeder_in r) (rest r))
Holds r others_same =
    Withdrawn r
    → (result_of r).state ≡ holding r.station (feeder_in r) (without_ticket r.ticket (held_of r)) r.station.next
Holds r place_free = Withdrawn r → suc (length (charges_on (result_of r).state (feeder_in r))) ≡ length (held_of r)
Holds r unchanged = (Withdrawn r → ⊥) → (result_of r).state ≡ r.station

-- The tests

abbrev pub is_withdrawal : Trial → Bool
is_withdrawal r = same_answer (result_of r).answer withdrawn

abbrev pub waits : Trial → Bool
waits r = some (λ c. has_ticket r.ticket c && is_waiting r.station.clock c) (site_charges r.station)

abbrev pub rest_sound : Trial → Bool
rest_sound r = plan_sound r.station (feeder_in r) (rest r)

abbrev pub tested : Trial → Field → Bool
tested r removed = same_test (is_withdrawal r) (waits r && rest_sound r)
tested r others_same =
    where_so (is_withdrawal r)
    (same_state (result_of r).state (holding r.station (feeder_in r) (without_ticket r.ticket (held_of r)) r.station.next))
tested r place_free =
    where_so (is_withdrawal r) (eqb (suc (length (charges_on (result_of r).state (feeder_in r)))) (length (held_of r)))
tested r unchanged = where_so (not (is_withdrawal r)) (same_state (result_of r).state r.station)
