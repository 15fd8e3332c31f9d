use Rattle.theorem.proofs.Moved.{move_sets_the_clock}
use Rattle.theorem.proofs.clock_calls.moves.Goals as goal

pub returns-clause-clock : goal.returns-clause-clock
returns-clause-clock c = move_sets_the_clock
