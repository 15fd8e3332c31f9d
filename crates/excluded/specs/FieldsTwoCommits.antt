-- The fields of demand 2 for commits one by one, and a test of each that computes. It is true exactly where the field holds:
-- `commits_tested` in proofs/TestsTwoCommits.antt.
use Rattle.std.specs.Prelude.{◌↔◌, ◌≡◌, ℕ, Bool, not, List, [], ◌∷◌}
use Rattle.rules.specs.Site.{State}
use Rattle.rules.specs.Calls.{refused, committed, Result, Call, preview, commit, new_charge, draw_for, taking}
use Rattle.guarantee.specs.Past.{Gives}
use Rattle.guarantee.specs.DemandTwo.{EarliestStart}
use Rattle.excluded.specs.Same.{where_so, same_test, same_answer, same_state}
use Rattle.excluded.specs.Free.{Free, free}
use Rattle.excluded.specs.Starts.{is_earliest}

-- of `CommitStart`
pub data Field : Type 0 where
  answer : Field
  refusal : Field
  others_same : Field

abbrev pub fields : List Field
fields = answer ∷ refusal ∷ others_same ∷ []

-- the place of a field in that list
abbrev pub place : Field → ℕ
place answer = 0
place refusal = 1
place others_same = 2

-- a commit to a station
pub record Trial : Type 0 where
  pub gives : Gives
  pub station : State
  pub feeder : ℕ
  pub line : ℕ
  pub time : ℕ
  pub due : ℕ
  pub rate : ℕ
  pub shown : ℕ

abbrev pub result_of : Trial → Result
result_of r = r.gives r.station (commit r.feeder r.line r.time r.due r.rate r.shown)

-- its order, as a preview
abbrev pub order_of : Trial → Call
order_of r = preview r.feeder r.line r.time r.due r.rate

-- the start shown is the earliest
abbrev pub Earliest : Trial → Type 0
Earliest r = EarliestStart r.station r.feeder (draw_for r.station r.feeder r.line r.time r.rate) r.shown

-- the station with the charge that it asks for
abbrev pub taken : Trial → State
taken r = taking r.station r.feeder (new_charge r.station r.feeder r.line r.time r.due r.rate r.shown)

abbrev pub Claim : Trial → Field → Type 0
Claim r answer = ((result_of r).answer ≡ committed r.station.next r.shown) ↔ Earliest r
Claim r refusal = (Earliest r → ⊥) → (result_of r).answer ≡ refused 16
Claim r others_same = Earliest r → (result_of r).state ≡ taken r

-- what a field says; all together they are what demand 2 says of a commit (`commit_fields` there)
abbrev pub Holds : Trial → Field → Type 0
Holds r f = Free r.station (order_of r) (Claim r f)

-- The tests

abbrev pub earliest : Trial → Bool
earliest r = is_earliest r.station r.feeder (draw_for r.station r.feeder r.line r.time r.rate) r.shown

abbrev pub test : Trial → Field → Bool
test r answer = same_test (same_answer (result_of r).answer (committed r.station.next r.shown)) (earliest r)
test r refusal = where_so (not (earliest r)) (same_answer (result_of r).answer (refused 16))
test r others_same = where_so (earliest r) (same_state (result_of r).state (taken r))

abbrev pub tested : Trial → Field → Bool
tested r f = free r.station (order_of r) (test r f)
