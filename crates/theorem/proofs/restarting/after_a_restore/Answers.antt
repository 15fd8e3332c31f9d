use Rattle.theorem.proofs.AcrossRestarts.{saved_comes_back, begins_anew, begins_refused, not_made_refused, begun_keep, not_reported_again}
use Rattle.theorem.proofs.restarting.after_a_restore.Goals as goal

pub returns : goal.returns
returns c =
    record {
      saved_image = saved_comes_back;
      refused_restore = begins_anew;
      refused_beginning = begins_refused;
      save_not_made = not_made_refused;
      begun_starts = begun_keep;
      not_reported_again = not_reported_again;
    }
