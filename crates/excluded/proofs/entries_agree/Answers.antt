use Rattle.excluded.proofs.BreaksOne as calls
use Rattle.excluded.proofs.BreaksTwoPreviews as previews
use Rattle.excluded.proofs.BreaksTwoCommits as commits
use Rattle.excluded.proofs.BreaksTwoPlans as plans
use Rattle.excluded.proofs.BreaksTwoBoards as boards
use Rattle.excluded.proofs.BreaksTwoWithdrawals as withdrawals
use Rattle.excluded.proofs.BreaksThree as lists
use Rattle.excluded.proofs.entries_agree.Goals as goal

pub returns-clause-calls : goal.returns-clause-calls
returns-clause-calls c = calls.entries_hold

pub returns-clause-previews : goal.returns-clause-previews
returns-clause-previews c = previews.entries_hold

pub returns-clause-commits : goal.returns-clause-commits
returns-clause-commits c = commits.entries_hold

pub returns-clause-plans : goal.returns-clause-plans
returns-clause-plans c = plans.entries_hold

pub returns-clause-better : goal.returns-clause-better
returns-clause-better c = plans.plans_hold

pub returns-clause-boards : goal.returns-clause-boards
returns-clause-boards c = boards.entries_hold

pub returns-clause-withdrawals : goal.returns-clause-withdrawals
returns-clause-withdrawals c = withdrawals.entries_hold

pub returns-clause-lists : goal.returns-clause-lists
returns-clause-lists c = lists.entries_hold
