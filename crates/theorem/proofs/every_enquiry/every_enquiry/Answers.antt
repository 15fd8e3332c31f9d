use Rattle.theorem.proofs.EveryEnquiry.{waiting_until, charging_once, refused_once}
use Rattle.theorem.proofs.every_enquiry.every_enquiry.Goals as goal

pub returns : goal.returns
returns c =
    record {
      waiting = waiting_until;
      charging = charging_once;
      finished = refused_once;
    }
