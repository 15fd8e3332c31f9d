-- Of what enquiries tell.
use Rattle.rules.specs.Calls.{refused, waiting, charging, step}
use Rattle.guarantee.specs.Past.{start_of, end_of, staying_orders}
use Rattle.guarantee.proofs.Each.{each_in}
use Rattle.theorem.specs.AfterCalls.{ForAnyCalls, known_after}
use Rattle.theorem.specs.EveryEnquiry.{WaitingUntilItsStart, ChargingOnceBegun, RefusedOnceFinished}
use Rattle.theorem.proofs.Carried.{kept, enquiry_answers}

pub waiting_until : ForAnyCalls WaitingUntilItsStart
waiting_until x answer first opens calls chain =
    let h = known_after first calls in
    each_in
    (λ o k now. enquiry_answers x answer first opens calls chain o.ticket (waiting (start_of step h o) o.rate) (k.waits now))
    (staying_orders h)
    (kept x answer first opens calls chain)

pub charging_once : ForAnyCalls ChargingOnceBegun
charging_once x answer first opens calls chain =
    let h = known_after first calls in
    each_in
    (λ o k begun now.
    enquiry_answers x answer first opens calls chain o.ticket (charging (start_of step h o) (end_of step h o) o.rate)
    (k.charges begun now))
    (staying_orders h)
    (kept x answer first opens calls chain)

pub refused_once : ForAnyCalls RefusedOnceFinished
refused_once x answer first opens calls chain =
    each_in
    (λ o k now. enquiry_answers x answer first opens calls chain o.ticket (refused 15) (k.finished now))
    (staying_orders (known_after first calls))
    (kept x answer first opens calls chain)
