-- What the present rules give that the earlier ones gave: answers, stations and lists, call by call.
use Rattle.std.specs.Prelude.{◌≡◌, ℕ, ◌+◌, ◌≤◌, List, [], ◌∷◌}
use Rattle.rules.specs.Basics.{Each, first_of}
use Rattle.rules.specs.Load.{Limits, limits}
use Rattle.rules.specs.Charge.{Charge}
use Rattle.rules.specs.Judgement.{judged}
use Rattle.rules.specs.Site.{Feeder, State, site_charges}
use Rattle.rules.specs.Entry.{one_feeder}
use Rattle.rules.specs.Calls.{Asked, opening, Call, preview, commit, step, run}
use Rattle.rules.specs.Valid.{ValidState}
use Rattle.earlier.specs.Earlier.{ordering, Together, earlier_refusals, earlier_order}
use Rattle.earlier.specs.Unrated as unrated
use Rattle.earlier.specs.Unrated.{AtRateOne, StatesOne}
use Rattle.earlier.specs.Untailed as untailed
use Rattle.earlier.specs.Untailed.{AsksNoTail, WithoutTails}
use Rattle.earlier.specs.Single as single
use Rattle.earlier.specs.Single.{alone, judged_before, NamesOne}

-- Orders, on every station, valid or not

-- The order of one call became a preview and a commit: both together give what the order gave.
abbrev pub TwoCallsGiveTheOrder : Type 0
TwoCallsGiveTheOrder =
    (s : State) (f line p d rate : ℕ)
    → Together f line p d rate (step s (preview f line p d rate)) (ordering s f line p d rate)

-- Every order but those that were refused with 7, taken or not, gives what it gave.
abbrev pub OthersGiveTheSame : Type 0
OthersGiveTheSame =
    (s : State) (f line p d rate : ℕ)
    → (first_of (earlier_refusals s f line p d rate) ≡ 7 → ⊥)
    → Together f line p d rate (step s (preview f line p d rate)) (earlier_order s f line p d rate)

-- As long as it is not above 2,000,000, the due minute has no part in the answers: an order in a hurry is taken like any other.
abbrev pub DueHasNoPart : Type 0
DueHasNoPart =
    (s : State) (f line p d e rate : ℕ)
    → d ≤ 2000000
    → e ≤ 2000000
    → (step s (preview f line p d rate) ≡ step s (preview f line p e rate))
    × ((shown : ℕ) → (step s (commit f line p d rate shown)).answer ≡ (step s (commit f line p e rate shown)).answer)

-- Rates: calls that state no rate but 1 give what they gave, from any valid site that holds charges of rate 1.
abbrev pub RateOneGivesTheSame : Type 0
RateOneGivesTheSame =
    (s : State) (calls : List Call)
    → ValidState s
    → AtRateOne (site_charges s)
    → Each StatesOne calls
    → run s calls ≡ unrated.run_before s calls

-- Late contactors: with r 0 on each feeder an opening and every list of calls after it give what they gave.

abbrev pub OpeningWithoutTailsIsSame : Type 0
OpeningWithoutTailsIsSame = (a : Asked) → AsksNoTail a → opening a ≡ untailed.opening_before a

abbrev pub WithoutTailsGiveTheSame : Type 0
WithoutTailsGiveTheSame = (s : State) (calls : List Call) → WithoutTails s → run s calls ≡ untailed.run_before s calls

abbrev pub FromOpeningWithoutTails : Type 0
FromOpeningWithoutTails =
    (a : Asked) (calls : List Call)
    → AsksNoTail a
    → run (opening a).state calls ≡ untailed.run_before (untailed.opening_before a).state calls

-- Several feeders: with one feeder and W 720 an opening and every list of calls that name it give what they gave.

-- a site of one feeder under W 720
abbrev pub Alone : State → Type 0
Alone s = (g : Feeder) × (s ≡ alone g s.clock s.next)

abbrev pub OpeningOfOneIsSame : Type 0
OpeningOfOneIsSame = (n c r : ℕ) → opening (one_feeder n c r) ≡ single.opening_before n c r

abbrev pub OneFeederGivesTheSame : Type 0
OneFeederGivesTheSame =
    (s : State) (calls : List Call) → Alone s → ValidState s → Each NamesOne calls → run s calls ≡ single.run_before s calls

abbrev pub FromOpeningOfOne : Type 0
FromOpeningOfOne =
    (n c r : ℕ) (calls : List Call)
    → Each NamesOne calls
    → run (opening (one_feeder n c r)).state calls ≡ single.run_before (single.opening_before n c r).state calls

-- what one feeder keeps to
abbrev pub limits_alone : Feeder → Limits
limits_alone g = limits g.limit g.bound 720 []

-- all rates together
abbrev pub rates : List Charge → ℕ
rates [] = 0
rates (c ∷ cs) = c.rate + rates cs

-- a charge draws r minutes after its end
abbrev pub WithTail : ℕ → Charge → Type 0
WithTail r c = c.active_time ≡ c.time + r

-- Of one feeder a plan gets the same cause by s + p as by s + p + r.
abbrev pub CauseOfOneIsSame : Type 0
CauseOfOneIsSame =
    (g : Feeder) (k : ℕ)
    → rates g.charges ≤ 720
    → Each (WithTail g.tail) g.charges
    → (ss : List ℕ)
    → judged (limits_alone g) k g.charges ss ≡ judged_before g k ss
