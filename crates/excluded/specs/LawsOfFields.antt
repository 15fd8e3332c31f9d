-- The fields one by one are what is said of a call, an opening, a preview, a commit, a plan, a board, a withdrawal and a list of calls.
use Rattle.std.specs.Prelude.{◌↔◌, List}
use Rattle.rules.specs.Site.{State}
use Rattle.rules.specs.Calls.{Asked, Result, Call}
use Rattle.guarantee.specs.Past.{Gives}
use Rattle.guarantee.specs.DemandOne.{DemandOne, DemandOneOpening}
use Rattle.guarantee.specs.DemandTwo.{PreviewStart, CommitStart, Better, Tested, BoardShown, Withdrawal}
use Rattle.guarantee.specs.DemandThree.{DemandThree}
use Rattle.excluded.specs.Free.{Free}
use Rattle.excluded.specs.FieldsOne as calls
use Rattle.excluded.specs.FieldsTwoPreviews as previews
use Rattle.excluded.specs.FieldsTwoCommits as commits
use Rattle.excluded.specs.FieldsTwoPlans as plans
use Rattle.excluded.specs.FieldsBetter as better
use Rattle.excluded.specs.FieldsTwoBoards as boards
use Rattle.excluded.specs.FieldsTwoWithdrawals as withdrawals
use Rattle.excluded.specs.FieldsThree as lists

abbrev pub CallIsItsFields : Type 0
CallIsItsFields =
    (gives : Gives) (s : State) (c : Call)
    → DemandOne gives s c ↔ ((f : calls.Field) → calls.Holds (calls.called_on gives s c) f)

abbrev pub OpeningIsItsFields : Type 0
OpeningIsItsFields =
    (opens : Asked → Result) (x : Asked)
    → DemandOneOpening opens x ↔ ((f : calls.Field) → calls.Holds (calls.opened_by opens x) f)

abbrev pub PreviewIsItsFields : Type 0
PreviewIsItsFields =
    (r : previews.Trial)
    → PreviewStart r.station r.feeder r.line r.time r.due r.rate (previews.result_of r)
    ↔ ((f : previews.Field) → previews.Holds r f)

abbrev pub CommitIsItsFields : Type 0
CommitIsItsFields =
    (r : commits.Trial)
    → Free r.station (commits.order_of r) (CommitStart r.station r.feeder r.line r.time r.due r.rate r.shown (commits.result_of r))
    ↔ ((f : commits.Field) → commits.Holds r f)

abbrev pub PlanIsItsFields : Type 0
PlanIsItsFields =
    (r : plans.Trial)
    → Tested r.station r.feeder r.call r.proposal r.rounds (plans.result_of r)
    ↔ ((f : plans.Field) → plans.Holds r f)

-- of an offered plan, that it is better than the held one
abbrev pub BetterIsItsFields : Type 0
BetterIsItsFields =
    (x : better.Plan) → Better x.station x.feeder x.list (better.new_of x) ↔ ((m : better.Merit) → better.Merits x m)

abbrev pub BoardIsItsFields : Type 0
BoardIsItsFields =
    (r : boards.Trial)
    → BoardShown r.gives r.station r.asked r.list (boards.result_of r) ↔ ((f : boards.Field) → boards.Holds r f)

abbrev pub WithdrawalIsItsFields : Type 0
WithdrawalIsItsFields =
    (r : withdrawals.Trial)
    → Withdrawal r.station (withdrawals.feeder_in r) r.ticket (withdrawals.result_of r)
    ↔ ((f : withdrawals.Field) → withdrawals.Holds r f)

abbrev pub ListIsItsFields : Type 0
ListIsItsFields =
    (gives : Gives) (s : State) (calls : List Call)
    → DemandThree gives s calls ↔ ((f : lists.Field) → lists.Holds gives s calls f)
