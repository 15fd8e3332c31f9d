-- Of withdrawn orders.
use Rattle.rules.specs.Calls.{refused}
use Rattle.guarantee.specs.Past.{withdrawn_orders}
use Rattle.guarantee.proofs.Each.{each_in}
use Rattle.theorem.specs.AfterCalls.{ForAnyCalls, known_after, AfterAnyCalls}
use Rattle.theorem.specs.EveryWithdrawal.{WithdrawnNeverReported, WithdrawnNotFound}
use Rattle.theorem.proofs.Carried.{gone, enquiry_answers}

pub never_reported : AfterAnyCalls WithdrawnNeverReported
never_reported x answer first opens calls chain =
    each_in (λ o k. k.not_reported) (withdrawn_orders (known_after first calls)) (gone x answer first opens calls chain)

pub not_found : ForAnyCalls WithdrawnNotFound
not_found x answer first opens calls chain =
    each_in
    (λ o k. enquiry_answers x answer first opens calls chain o.ticket (refused 15) k.not_held_lem)
    (withdrawn_orders (known_after first calls))
    (gone x answer first opens calls chain)
