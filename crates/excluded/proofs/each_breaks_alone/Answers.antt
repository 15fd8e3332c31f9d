use Rattle.excluded.proofs.BreaksOne.{alone_one, alone_one_opening}
use Rattle.excluded.proofs.BreaksTwoPreviews.{alone_two_previews}
use Rattle.excluded.proofs.BreaksTwoCommits.{alone_two_commits}
use Rattle.excluded.proofs.BreaksTwoPlans.{alone_two_plans, alone_better}
use Rattle.excluded.proofs.BreaksTwoBoards.{alone_two_boards}
use Rattle.excluded.proofs.BreaksTwoWithdrawals.{alone_two_withdrawals}
use Rattle.excluded.proofs.BreaksThree.{alone_three}
use Rattle.excluded.proofs.each_breaks_alone.Goals as goal

pub returns-clause-calls : goal.returns-clause-calls
returns-clause-calls c = alone_one

pub returns-clause-openings : goal.returns-clause-openings
returns-clause-openings c = alone_one_opening

pub returns-clause-previews : goal.returns-clause-previews
returns-clause-previews c = alone_two_previews

pub returns-clause-commits : goal.returns-clause-commits
returns-clause-commits c = alone_two_commits

pub returns-clause-plans : goal.returns-clause-plans
returns-clause-plans c = alone_two_plans

pub returns-clause-better : goal.returns-clause-better
returns-clause-better c = alone_better

pub returns-clause-boards : goal.returns-clause-boards
returns-clause-boards c = alone_two_boards

pub returns-clause-withdrawals : goal.returns-clause-withdrawals
returns-clause-withdrawals c = alone_two_withdrawals

pub returns-clause-lists : goal.returns-clause-lists
returns-clause-lists c = alone_three
