-- Of the tickets.
use Rattle.rules.specs.Calls.{refused, step}
use Rattle.guarantee.specs.DemandThree.{NoOtherFound as NoneFound}
use Rattle.theorem.specs.AfterCalls.{ForAnyCalls, AfterAnyCalls}
use Rattle.theorem.specs.EveryTicket.{OneTwoThree, NoOtherReported, NoOtherFound}
use Rattle.theorem.proofs.Carried.{carried, enquiry_answers}

pub one_two_three : AfterAnyCalls OneTwoThree
one_two_three = carried OneTwoThree (λ s calls three. three.tickets)

pub no_other_reported : AfterAnyCalls NoOtherReported
no_other_reported = carried NoOtherReported (λ s calls three. three.no_other)

pub no_other_found : ForAnyCalls NoOtherFound
no_other_found x answer first opens calls chain ticket e =
    enquiry_answers x answer first opens calls chain ticket (refused 15)
    (carried (λ s h. NoneFound step h) (λ s calls three. three.no_other_found) x answer first opens calls chain ticket e)
