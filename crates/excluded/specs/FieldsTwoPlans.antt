-- The fields of demand 2 for offers and replans one by one, and a test of each that computes. It is true exactly where the
-- field holds: `plans_tested` in proofs/TestsTwoPlans.antt.
use Rattle.std.specs.Prelude.{◌↔◌, ◌≡◌, ℕ, Bool, true, false, not, ◌&&◌, List, [], ◌∷◌, map}
use Rattle.rules.specs.Charge.{Charge, starting, begun_charges, waiting_charges, lateness}
use Rattle.rules.specs.Replan.{Proposal, starts, none}
use Rattle.rules.specs.Judgement.{restarted}
use Rattle.rules.specs.Site.{State, charges_on, holding}
use Rattle.rules.specs.Calls.{Answer, planned, Result, Call, lent, refusals}
use Rattle.guarantee.specs.Past.{Gives}
use Rattle.guarantee.specs.DemandOne.{NoneApplies}
use Rattle.guarantee.specs.DemandTwo.{Better, Taken, cause_of}
use Rattle.excluded.specs.Free.{Free, none_applies, free}
use Rattle.excluded.specs.FieldsBetter.{merits, merited}
use Rattle.excluded.specs.Same.{every, where_so, same_test, same_list, same_answer, number_in, same_charges, same_state}

-- of `Tested`, with those of `GivenStarts` in the place of `given`
pub data Field : Type 0 where
  taken : Field
  waiting_starts : Field
  begun_same : Field
  charges_same : Field
  station_same : Field
  unchanged : Field
  answer : Field
  same_list_lem : Field

abbrev pub fields : List Field
fields =
    taken ∷ waiting_starts ∷ begun_same ∷ charges_same ∷ station_same ∷ unchanged ∷ answer ∷ same_list_lem ∷ []

-- the place of a field in that list
abbrev pub place : Field → ℕ
place taken = 0
place waiting_starts = 1
place begun_same = 2
place charges_same = 3
place station_same = 4
place unchanged = 5
place answer = 6
place same_list_lem = 7

-- a call to a station that comes with a proposal, after some rounds
pub record Trial : Type 0 where
  pub gives : Gives
  pub station : State
  pub feeder : ℕ
  pub call : Call
  pub proposal : Proposal
  pub rounds : ℕ

abbrev pub held_of : Trial → List Charge
held_of r = charges_on r.station r.feeder

abbrev pub result_of : Trial → Result
result_of r = r.gives r.station r.call

-- what its feeder holds then
abbrev pub then_of : Trial → List Charge
then_of r = charges_on (result_of r).state r.feeder

-- "the waiting charges get these starts", and nothing else is changed
abbrev pub Given : Trial → (List ℕ → Type 0) → Type 0
Given r P = (ss : List ℕ) → r.proposal ≡ starts ss → Taken (result_of r).answer → P ss

-- what a field says; all together they are `Tested` (`plan_fields` there)
abbrev pub Holds : Trial → Field → Type 0
Holds r taken =
    Taken (result_of r).answer
    ↔ (NoneApplies (refusals r.station r.call)
    × ((ss : List ℕ)
    × (r.proposal ≡ starts ss)
    × Better r.station r.feeder ss (restarted r.station.clock (held_of r) ss)))
Holds r waiting_starts =
    Given r (λ ss. map (λ (c : Charge). c.start) (waiting_charges r.station.clock (then_of r)) ≡ ss)
Holds r begun_same =
    Given r
    (λ ss. begun_charges r.station.clock (then_of r) ≡ begun_charges r.station.clock (held_of r))
Holds r charges_same =
    Given r (λ ss. map (λ c. starting c 0) (then_of r) ≡ map (λ c. starting c 0) (held_of r))
Holds r station_same =
    Given r (λ ss. (result_of r).state ≡ holding r.station r.feeder (then_of r) r.station.next)
Holds r unchanged = (Taken (result_of r).answer → ⊥) → (result_of r).state ≡ r.station
Holds r answer =
    Free r.station r.call
    ((result_of r).answer
    ≡ planned (cause_of r.station r.feeder r.proposal) (lateness (held_of r)) (lateness (then_of r)) r.rounds)
Holds r same_list_lem = (result_of r).list ≡ lent r.call

abbrev pub is_taken : Answer → Bool
is_taken a = same_answer a (planned 0 (number_in 2 a) (number_in 3 a) (number_in 4 a))

-- a test of the starts that are proposed, `otherwise` where none are
abbrev pub of_starts : Bool → (List ℕ → Bool) → Proposal → Bool
of_starts otherwise f (starts ss) = f ss
of_starts otherwise f (none cause) = otherwise

abbrev pub given : Trial → (List ℕ → Bool) → Bool
given r f = of_starts true (λ ss. where_so (is_taken (result_of r).answer) (f ss)) r.proposal

abbrev pub tested : Trial → Field → Bool
tested r taken =
    same_test (is_taken (result_of r).answer)
    (none_applies (refusals r.station r.call)
    && of_starts false (λ ss. every (merited (record { station = r.station; feeder = r.feeder; list = ss })) merits) r.proposal)
tested r waiting_starts =
    given r
    (λ ss. same_list (map (λ (c : Charge). c.start) (waiting_charges r.station.clock (then_of r))) ss)
tested r begun_same =
    given r
    (λ ss.
    same_charges (begun_charges r.station.clock (then_of r))
    (begun_charges r.station.clock (held_of r)))
tested r charges_same =
    given r
    (λ ss.
    same_charges (map (λ c. starting c 0) (then_of r)) (map (λ c. starting c 0) (held_of r)))
tested r station_same =
    given r (λ ss. same_state (result_of r).state (holding r.station r.feeder (then_of r) r.station.next))
tested r unchanged = where_so (not (is_taken (result_of r).answer)) (same_state (result_of r).state r.station)
tested r answer =
    free r.station r.call
    (same_answer (result_of r).answer
    (planned (cause_of r.station r.feeder r.proposal) (lateness (held_of r)) (lateness (then_of r)) r.rounds))
tested r same_list_lem = same_list (result_of r).list (lent r.call)
