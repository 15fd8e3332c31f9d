use Rattle.restarts.proofs.OnTheBus as laws
use Rattle.restarts.proofs.on_the_bus.Goals as goal

pub returns : goal.returns
returns c = record { list = laws.on_the_bus; station = laws.stands_on_the_bus; orders = laws.kept_on_the_bus }
