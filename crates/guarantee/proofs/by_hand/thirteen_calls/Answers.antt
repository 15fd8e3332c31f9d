use Rattle.guarantee.proofs.Example.{first_known, example_known, example_starts, example_counts}
use Rattle.guarantee.proofs.by_hand.thirteen_calls.Goals as goal

pub returns : goal.returns
returns c = record { first = first_known; known = example_known; starts = example_starts; counts = example_counts }
