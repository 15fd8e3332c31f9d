-- What holds of the tickets after any calls: `h` is what is known of the calls.
use Rattle.std.specs.Prelude.{◌≡◌, ℕ, ◌≤◌, Bool, true, false, eqb}
use Rattle.rules.specs.Basics.{some}
use Rattle.rules.specs.Site.{State}
use Rattle.rules.specs.Calls.{refused}
use Rattle.guarantee.specs.Past.{Past, times_reported, Numbered}
use Rattle.theorem.specs.Theorem.{left}
use Rattle.theorem.specs.AfterCalls.{About, known_after}
use Rattle.theorem.specs.EveryEnquiry.{EnquiryAnswers}

-- The tickets of the accepted orders, those withdrawn among them, are 1, 2, 3 and so on in the order of acceptance.
abbrev pub OneTwoThree : State → Past → Type 0
OneTwoThree s h = Numbered 1 h.orders

-- whether it is the ticket of an accepted order
abbrev pub is_given : Past → ℕ → Bool
is_given h ticket = some (λ o. eqb o.ticket ticket) h.orders

-- No other ticket has been reported.
abbrev pub NoOtherReported : State → Past → Type 0
NoOtherReported s h = (ticket : ℕ) → 1 ≤ times_reported h.reports ticket → is_given h ticket ≡ true

-- None but theirs is found by an enquiry: any other is refused with 15.
abbrev pub NoOtherFound : About
NoOtherFound x first calls =
    (ticket : ℕ)
    → is_given (known_after first calls) ticket ≡ false
    → EnquiryAnswers (left first calls) ticket (refused 15)
