-- The entries: each wrong station breaks the fields that its entry names and no other, and the rules break none.
use Rattle.std.specs.Prelude.{◌≡◌, true, List, [], ◌∷◌}
use Rattle.rules.specs.Basics.{Each}
use Rattle.rules.specs.Site.{State}
use Rattle.rules.specs.Calls.{Call, step}
use Rattle.excluded.specs.Same.{every}
use Rattle.excluded.specs.Breaks.{Exactly, alone_in}
use Rattle.excluded.specs.FieldsOne as calls
use Rattle.excluded.specs.BreaksOne as of_calls
use Rattle.excluded.specs.FieldsTwoPreviews as previews
use Rattle.excluded.specs.BreaksTwoPreviews as of_previews
use Rattle.excluded.specs.FieldsTwoCommits as commits
use Rattle.excluded.specs.BreaksTwoCommits as of_commits
use Rattle.excluded.specs.FieldsTwoPlans as plans
use Rattle.excluded.specs.FieldsBetter as better
use Rattle.excluded.specs.BreaksTwoPlans as of_plans
use Rattle.excluded.specs.FieldsTwoBoards as boards
use Rattle.excluded.specs.BreaksTwoBoards as of_boards
use Rattle.excluded.specs.FieldsTwoWithdrawals as withdrawals
use Rattle.excluded.specs.BreaksTwoWithdrawals as of_withdrawals
use Rattle.excluded.specs.FieldsThree as lists
use Rattle.excluded.specs.BreaksThree as of_lists

-- The test of every field of every entry comes out as the entry says.

abbrev pub EntriesOfCallsAgree : Type 0
EntriesOfCallsAgree = every of_calls.agrees of_calls.entries ≡ true

abbrev pub EntriesOfPreviewsAgree : Type 0
EntriesOfPreviewsAgree = every of_previews.agrees of_previews.entries ≡ true

abbrev pub EntriesOfCommitsAgree : Type 0
EntriesOfCommitsAgree = every of_commits.agrees of_commits.entries ≡ true

abbrev pub EntriesOfPlansAgree : Type 0
EntriesOfPlansAgree = every of_plans.agrees of_plans.entries ≡ true

abbrev pub PlansAgree : Type 0
PlansAgree = every of_plans.agrees_plan of_plans.plans ≡ true

abbrev pub EntriesOfBoardsAgree : Type 0
EntriesOfBoardsAgree = every of_boards.agrees of_boards.entries ≡ true

abbrev pub EntriesOfWithdrawalsAgree : Type 0
EntriesOfWithdrawalsAgree = every of_withdrawals.agrees of_withdrawals.entries ≡ true

abbrev pub EntriesOfListsAgree : Type 0
EntriesOfListsAgree = every of_lists.agrees of_lists.all_wrong ≡ true

-- So the fields that are named are false, and all others hold.

abbrev pub ExactlyTheseOfCalls : Type 0
ExactlyTheseOfCalls = Each (Exactly calls.Trial calls.Field calls.Holds) of_calls.entries

abbrev pub ExactlyTheseOfPreviews : Type 0
ExactlyTheseOfPreviews = Each (Exactly previews.Trial previews.Field previews.Holds) of_previews.entries

abbrev pub ExactlyTheseOfCommits : Type 0
ExactlyTheseOfCommits = Each (Exactly commits.Trial commits.Field commits.Holds) of_commits.entries

abbrev pub ExactlyTheseOfPlans : Type 0
ExactlyTheseOfPlans = Each (Exactly plans.Trial plans.Field plans.Holds) of_plans.entries

abbrev pub ExactlyTheseOfBetter : Type 0
ExactlyTheseOfBetter = Each (Exactly better.Plan better.Merit better.Merits) of_plans.plans

abbrev pub ExactlyTheseOfBoards : Type 0
ExactlyTheseOfBoards = Each (Exactly boards.Trial boards.Field boards.Holds) of_boards.entries

abbrev pub ExactlyTheseOfWithdrawals : Type 0
ExactlyTheseOfWithdrawals = Each (Exactly withdrawals.Trial withdrawals.Field withdrawals.Holds) of_withdrawals.entries

abbrev pub ExactlyTheseOfLists : Type 0
ExactlyTheseOfLists = Each (Exactly of_lists.Trial lists.Field of_lists.HoldsOf) of_lists.entries

-- The rules break no field on any list of calls from an opening.
abbrev pub RulesBreakNone : Type 0
RulesBreakNone =
    (s : State) (calls : List Call)
    → of_lists.is_opened s ≡ true
    → Exactly of_lists.Trial lists.Field of_lists.HoldsOf (of_lists.only step s calls [])

-- Each field is the only broken one of some entry, but for those that follow from others.

abbrev pub EachAloneOfCalls : Type 0
EachAloneOfCalls = every (alone_in calls.place of_calls.wrong_calls) calls.fields ≡ true

abbrev pub EachAloneOfOpenings : Type 0
EachAloneOfOpenings = every (alone_in calls.place of_calls.wrong_openings) calls.fields ≡ true

abbrev pub EachAloneOfPreviews : Type 0
EachAloneOfPreviews = every (alone_in previews.place of_previews.wrong_entries) previews.fields ≡ true

abbrev pub EachAloneOfCommits : Type 0
EachAloneOfCommits = every (alone_in commits.place of_commits.wrong_entries) commits.fields ≡ true

-- but for `taken`, which follows from `answer` and what is said of refusals
abbrev pub EachAloneOfPlans : Type 0
EachAloneOfPlans =
    every (alone_in plans.place of_plans.wrong_entries)
    (plans.waiting_starts
    ∷ plans.begun_same
    ∷ plans.charges_same
    ∷ plans.station_same
    ∷ plans.unchanged
    ∷ plans.answer
    ∷ plans.same_list_lem
    ∷ [])
    ≡ true

-- but for `not_before_order`, which follows from `not_before_clock`, and `unbroken`, which holds of every charge
abbrev pub EachAloneOfBetter : Type 0
EachAloneOfBetter =
    every (alone_in better.rank of_plans.plans)
    (better.not_before_clock
    ∷ better.limit
    ∷ better.balance
    ∷ better.site
    ∷ better.no_later
    ∷ better.less_late
    ∷ [])
    ≡ true

abbrev pub EachAloneOfBoards : Type 0
EachAloneOfBoards = every (alone_in boards.place of_boards.wrong_entries) boards.fields ≡ true

-- but for `place_free`, which follows from `removed` and `others_same`
abbrev pub EachAloneOfWithdrawals : Type 0
EachAloneOfWithdrawals =
    every (alone_in withdrawals.place of_withdrawals.wrong_entries)
    (withdrawals.removed ∷ withdrawals.others_same ∷ withdrawals.unchanged ∷ [])
    ≡ true

abbrev pub EachAloneOfLists : Type 0
EachAloneOfLists = every (alone_in lists.place of_lists.all_wrong) lists.fields ≡ true
