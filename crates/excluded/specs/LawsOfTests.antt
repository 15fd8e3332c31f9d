-- The test of each field is true exactly where the field holds: in every minute, and after every first part of a list.
use Rattle.std.specs.Prelude.{◌≡◌, ◌↔◌, Bool, true, false, List}
use Rattle.rules.specs.Site.{State}
use Rattle.rules.specs.Calls.{Call}
use Rattle.guarantee.specs.Past.{Gives}
use Rattle.excluded.specs.FieldsOne as calls
use Rattle.excluded.specs.FieldsTwoPreviews as previews
use Rattle.excluded.specs.FieldsTwoCommits as commits
use Rattle.excluded.specs.FieldsTwoPlans as plans
use Rattle.excluded.specs.FieldsBetter as better
use Rattle.excluded.specs.FieldsTwoBoards as boards
use Rattle.excluded.specs.FieldsTwoWithdrawals as withdrawals
use Rattle.excluded.specs.FieldsThree as lists
use Rattle.excluded.specs.TestsThree.{tested, by_charges, RefusesOthers}

-- a test of a fact
abbrev pub Tests : Bool → Type 0 → Type 0
Tests b P = (b ≡ true) ↔ P

abbrev pub CallsAreTested : Type 0
CallsAreTested = (r : calls.Trial) (f : calls.Field) → Tests (calls.tested r f) (calls.Holds r f)

abbrev pub PreviewsAreTested : Type 0
PreviewsAreTested = (r : previews.Trial) (f : previews.Field) → Tests (previews.tested r f) (previews.Holds r f)

abbrev pub CommitsAreTested : Type 0
CommitsAreTested = (r : commits.Trial) (f : commits.Field) → Tests (commits.tested r f) (commits.Holds r f)

abbrev pub PlansAreTested : Type 0
PlansAreTested = (r : plans.Trial) (f : plans.Field) → Tests (plans.tested r f) (plans.Holds r f)

abbrev pub BetterIsTested : Type 0
BetterIsTested = (x : better.Plan) (m : better.Merit) → Tests (better.merited x m) (better.Merits x m)

abbrev pub BoardsAreTested : Type 0
BoardsAreTested = (r : boards.Trial) (f : boards.Field) → Tests (boards.tested r f) (boards.Holds r f)

abbrev pub WithdrawalsAreTested : Type 0
WithdrawalsAreTested =
    (r : withdrawals.Trial) (f : withdrawals.Field) → Tests (withdrawals.tested r f) (withdrawals.Holds r f)

-- each field but the one whose test goes by the charges held
abbrev pub ListsAreTested : Type 0
ListsAreTested =
    (gives : Gives) (s : State) (calls : List Call) (f : lists.Field)
    → by_charges f ≡ false
    → Tests (tested gives s calls f) (lists.Holds gives s calls f)

-- That one is told by its test of every station that refuses an enquiry where no charge that is held has the ticket.
abbrev pub FoundIsTested : Type 0
FoundIsTested =
    (gives : Gives) (s : State) (calls : List Call)
    → RefusesOthers gives
    → tested gives s calls lists.no_other_found ≡ true
    → lists.Holds gives s calls lists.no_other_found
