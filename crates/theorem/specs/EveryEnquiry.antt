-- What an enquiry tells of every order that stays. An enquiry is one call more, made to the station that the calls left: these sentences are
-- about what the code answers to it.
use Rattle.std.specs.Prelude.{◌≡◌, ℕ, ◌≤◌, ◌<◌}
use Rattle.rules.specs.Basics.{Each}
use Rattle.rules.specs.Calls.{Answer, refused, waiting, charging, step}
use Rattle.guarantee.specs.Past.{start_of, end_of, active_until, staying_orders}
use Rattle.station.specs.declared.Station.{Station}
use Rattle.calls.specs.declared.Call.TheVariants.{Enquire}
use Rattle.calls.specs.Applied.{answer_of}
use Rattle.theorem.specs.Theorem.{Made, MeetsApply, left}
use Rattle.theorem.specs.AfterCalls.{About, known_after}

-- whoever enquires of this ticket at this station gets this answer
abbrev pub EnquiryAnswers : Station → ℕ → Answer → Type 0
EnquiryAnswers s ticket answer =
    (m : Made) → m.call ≡ Enquire ticket → MeetsApply s m → answer_of m.answer ≡ answer

-- An order that has not begun is waiting, with its start and the rate that was passed in.
abbrev pub WaitingUntilItsStart : About
WaitingUntilItsStart x first calls =
    let h = known_after first calls in
    Each
    (λ o. h.clock ≤ start_of step h o
    → EnquiryAnswers (left first calls) o.ticket (waiting (start_of step h o) o.rate))
    (staying_orders h)

-- One that has begun is charging until it is finished, r minutes after its end, with its start, the end s + p and its rate.
abbrev pub ChargingOnceBegun : About
ChargingOnceBegun x first calls =
    let h = known_after first calls in
    Each
    (λ o. start_of step h o < h.clock
    → h.clock < active_until step h o
    → EnquiryAnswers (left first calls) o.ticket (charging (start_of step h o) (end_of step h o) o.rate))
    (staying_orders h)

-- One that is finished is refused with 15.
abbrev pub RefusedOnceFinished : About
RefusedOnceFinished x first calls =
    let h = known_after first calls in
    Each
    (λ o. active_until step h o ≤ h.clock → EnquiryAnswers (left first calls) o.ticket (refused 15))
    (staying_orders h)
