use Rattle.theorem.proofs.Looked.{enquiry_tells_the_charge}
use Rattle.theorem.proofs.other_calls.enquiries.Goals as goal

pub returns-clause-told : goal.returns-clause-told
returns-clause-told c = enquiry_tells_the_charge
