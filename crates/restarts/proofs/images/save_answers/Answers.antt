use Rattle.restarts.proofs.Refusals.{save_number, save_keeps, save_writes}
use Rattle.restarts.proofs.images.save_answers.Goals as goal

pub returns : goal.returns
returns c = record { number = save_number; kept = save_keeps; written = save_writes }
