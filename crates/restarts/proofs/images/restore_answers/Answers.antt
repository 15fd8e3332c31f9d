use Rattle.restarts.proofs.Refusals.{restore_number, restore_beside, restore_accepts}
use Rattle.restarts.proofs.images.restore_answers.Goals as goal

pub returns : goal.returns
returns c = record { number = restore_number; beside = restore_beside; answered = restore_accepts }
