use Rattle.restarts.proofs.Cases as cases
use Rattle.restarts.proofs.by_hand.lists_in_force.Goals as goal

pub returns : goal.returns
returns c =
    record {
      restored_first = cases.restored_first;
      restored_second = cases.restored_second;
      refused_restore = cases.refused_restore;
      several = cases.several_not_saved;
      bus = cases.opened_on_the_bus;
    }
