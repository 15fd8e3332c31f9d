-- The three demands, for every count of feeders, W, N, c and r that an opening may be given, refused ones too, and every list of calls with any
-- arguments and any lent lists.
use Rattle.std.specs.Prelude.{List}
use Rattle.rules.specs.Site.{State}
use Rattle.rules.specs.Valid.{ValidState}
use Rattle.rules.specs.Calls.{Asked, opening, Call, step}
use Rattle.guarantee.specs.Past.{past}
use Rattle.guarantee.specs.DemandOne.{DemandOne, DemandOneOpening}
use Rattle.guarantee.specs.DemandTwo.{DemandTwo}
use Rattle.guarantee.specs.DemandThree.{DemandThree, DemandThreeFrom}

-- the station that the calls leave
abbrev pub reached : Asked → List Call → State
reached x calls = (past step (opening x).state calls).station

-- each opening is refused or answered as it has to be
abbrev pub OpeningsAreAnswered : Type 0
OpeningsAreAnswered = (x : Asked) → DemandOneOpening opening x

-- and so is each call
abbrev pub CallsAreAnswered : Type 0
CallsAreAnswered = (x : Asked) (calls : List Call) (call : Call) → DemandOne step (reached x calls) call

-- plans are taken where they are better, and orders get the earliest start
abbrev pub PlansAreRight : Type 0
PlansAreRight = (x : Asked) (calls : List Call) → DemandTwo step (reached x calls)

-- limit, balance, W and what is told of each order hold after every list of calls
abbrev pub OrdersAreKept : Type 0
OrdersAreKept = (x : Asked) (calls : List Call) → DemandThree step (opening x).state calls

pub record Demands : Type 0 where
  pub one_opening : OpeningsAreAnswered
  pub one : CallsAreAnswered
  pub two : PlansAreRight
  pub three : OrdersAreKept

-- The same of any valid station that calls begin with

abbrev pub AnyCallIsAnswered : Type 0
AnyCallIsAnswered = (s : State) → ValidState s → (call : Call) → DemandOne step s call

abbrev pub AnyPlanIsRight : Type 0
AnyPlanIsRight = (s : State) → ValidState s → DemandTwo step s

-- from its clock on
abbrev pub AnyOrderIsKept : Type 0
AnyOrderIsKept = (s : State) (calls : List Call) → ValidState s → DemandThreeFrom step s calls
