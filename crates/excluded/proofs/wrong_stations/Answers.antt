use Rattle.excluded.proofs.RefutedOne.{calls_excluded, openings_excluded}
use Rattle.excluded.proofs.RefutedTwoOrders.{orders_excluded}
use Rattle.excluded.proofs.RefutedTwoPlans.{plans_excluded}
use Rattle.excluded.proofs.RefutedTwoBoards.{boards_excluded}
use Rattle.excluded.proofs.RefutedTwoWithdrawals.{withdrawals_excluded}
use Rattle.excluded.proofs.RefutedThree.{lists_excluded}
use Rattle.excluded.proofs.Refuting.{unaltered}
use Rattle.excluded.proofs.wrong_stations.Goals as goal

pub returns-clause-calls : goal.returns-clause-calls
returns-clause-calls c = calls_excluded

pub returns-clause-openings : goal.returns-clause-openings
returns-clause-openings c = openings_excluded

pub returns-clause-orders : goal.returns-clause-orders
returns-clause-orders c = orders_excluded

pub returns-clause-plans : goal.returns-clause-plans
returns-clause-plans c = plans_excluded

pub returns-clause-boards : goal.returns-clause-boards
returns-clause-boards c = boards_excluded

pub returns-clause-withdrawals : goal.returns-clause-withdrawals
returns-clause-withdrawals c = withdrawals_excluded

pub returns-clause-lists : goal.returns-clause-lists
returns-clause-lists c = lists_excluded

pub returns-clause-parts : goal.returns-clause-parts
returns-clause-parts c = unaltered
