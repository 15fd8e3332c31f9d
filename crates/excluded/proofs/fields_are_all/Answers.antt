use Rattle.excluded.proofs.FieldsOne.{one_fields, one_opening_fields}
use Rattle.excluded.proofs.TestsTwoPreviews.{preview_fields}
use Rattle.excluded.proofs.TestsTwoCommits.{commit_fields}
use Rattle.excluded.proofs.TestsTwoPlans.{plan_fields}
use Rattle.excluded.proofs.TestsBetter.{better_fields}
use Rattle.excluded.proofs.TestsTwoBoards.{board_fields}
use Rattle.excluded.proofs.TestsTwoWithdrawals.{withdrawal_fields}
use Rattle.excluded.proofs.FieldsThree.{three_fields}
use Rattle.excluded.proofs.fields_are_all.Goals as goal

pub returns-clause-calls : goal.returns-clause-calls
returns-clause-calls c = one_fields

pub returns-clause-openings : goal.returns-clause-openings
returns-clause-openings c = one_opening_fields

pub returns-clause-previews : goal.returns-clause-previews
returns-clause-previews c = preview_fields

pub returns-clause-commits : goal.returns-clause-commits
returns-clause-commits c = commit_fields

pub returns-clause-plans : goal.returns-clause-plans
returns-clause-plans c = plan_fields

pub returns-clause-better : goal.returns-clause-better
returns-clause-better c = better_fields

pub returns-clause-boards : goal.returns-clause-boards
returns-clause-boards c = board_fields

pub returns-clause-withdrawals : goal.returns-clause-withdrawals
returns-clause-withdrawals c = withdrawal_fields

pub returns-clause-lists : goal.returns-clause-lists
returns-clause-lists c = three_fields
