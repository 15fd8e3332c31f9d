use Rattle.theorem.proofs.SavedAndRestored.{restore_first, save_first, save_others}
use Rattle.theorem.proofs.image_calls.images_refused.Goals as goal

pub returns-clause-restore : goal.returns-clause-restore
returns-clause-restore c = restore_first

pub returns-clause-save : goal.returns-clause-save
returns-clause-save c = save_first

pub returns-clause-written : goal.returns-clause-written
returns-clause-written c = save_others
