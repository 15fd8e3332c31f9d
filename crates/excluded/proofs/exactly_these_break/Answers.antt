use Rattle.excluded.proofs.BreaksOne.{exactly_one}
use Rattle.excluded.proofs.BreaksTwoPreviews.{exactly_two_previews}
use Rattle.excluded.proofs.BreaksTwoCommits.{exactly_two_commits}
use Rattle.excluded.proofs.BreaksTwoPlans.{exactly_two_plans, exactly_better}
use Rattle.excluded.proofs.BreaksTwoBoards.{exactly_two_boards}
use Rattle.excluded.proofs.BreaksTwoWithdrawals.{exactly_two_withdrawals}
use Rattle.excluded.proofs.BreaksThree.{exactly_three, rules_exactly}
use Rattle.excluded.proofs.exactly_these_break.Goals as goal

pub returns-clause-calls : goal.returns-clause-calls
returns-clause-calls c = exactly_one

pub returns-clause-previews : goal.returns-clause-previews
returns-clause-previews c = exactly_two_previews

pub returns-clause-commits : goal.returns-clause-commits
returns-clause-commits c = exactly_two_commits

pub returns-clause-plans : goal.returns-clause-plans
returns-clause-plans c = exactly_two_plans

pub returns-clause-better : goal.returns-clause-better
returns-clause-better c = exactly_better

pub returns-clause-boards : goal.returns-clause-boards
returns-clause-boards c = exactly_two_boards

pub returns-clause-withdrawals : goal.returns-clause-withdrawals
returns-clause-withdrawals c = exactly_two_withdrawals

pub returns-clause-lists : goal.returns-clause-lists
returns-clause-lists c = exactly_three

pub returns-clause-rules : goal.returns-clause-rules
returns-clause-rules c = rules_exactly
