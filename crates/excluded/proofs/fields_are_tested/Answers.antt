use Rattle.excluded.proofs.TestsOne.{one_tested}
use Rattle.excluded.proofs.TestsTwoPreviews.{previews_tested}
use Rattle.excluded.proofs.TestsTwoCommits.{commits_tested}
use Rattle.excluded.proofs.TestsTwoPlans.{plans_tested}
use Rattle.excluded.proofs.TestsBetter.{better_tested}
use Rattle.excluded.proofs.TestsTwoBoards.{boards_tested}
use Rattle.excluded.proofs.TestsTwoWithdrawals.{withdrawals_tested}
use Rattle.excluded.proofs.TestsThree.{three_tested, found_tested}
use Rattle.excluded.proofs.fields_are_tested.Goals as goal

pub returns-clause-calls : goal.returns-clause-calls
returns-clause-calls c = one_tested

pub returns-clause-previews : goal.returns-clause-previews
returns-clause-previews c = previews_tested

pub returns-clause-commits : goal.returns-clause-commits
returns-clause-commits c = commits_tested

pub returns-clause-plans : goal.returns-clause-plans
returns-clause-plans c = plans_tested

pub returns-clause-better : goal.returns-clause-better
returns-clause-better c = better_tested

pub returns-clause-boards : goal.returns-clause-boards
returns-clause-boards c = boards_tested

pub returns-clause-withdrawals : goal.returns-clause-withdrawals
returns-clause-withdrawals c = withdrawals_tested

pub returns-clause-lists : goal.returns-clause-lists
returns-clause-lists c = three_tested

pub returns-clause-found : goal.returns-clause-found
returns-clause-found c = found_tested
