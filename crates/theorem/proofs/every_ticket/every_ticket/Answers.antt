use Rattle.theorem.proofs.EveryTicket.{one_two_three, no_other_reported, no_other_found}
use Rattle.theorem.proofs.every_ticket.every_ticket.Goals as goal

pub returns : goal.returns
returns c =
    record {
      numbered = one_two_three;
      no_other_reported = no_other_reported;
      no_other_found = no_other_found;
    }
