use Rattle.theorem.proofs.Planned.{better_starts_are_taken, better_offer_is_taken}
use Rattle.theorem.proofs.plan_calls.plans_tested.Goals as goal

pub returns-clause-taken : goal.returns-clause-taken
returns-clause-taken c = better_starts_are_taken

pub returns-clause-offered : goal.returns-clause-offered
returns-clause-offered c = better_offer_is_taken
