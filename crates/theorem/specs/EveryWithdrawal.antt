-- A withdrawn order has no charge: it is counted in no minute (`count_in` and `site_in` of crates/guarantee/specs/Past.antt take the orders
-- that stay), and it shows nowhere.
use Rattle.std.specs.Prelude.{◌≡◌}
use Rattle.rules.specs.Basics.{Each}
use Rattle.rules.specs.Site.{State}
use Rattle.rules.specs.Calls.{refused}
use Rattle.guarantee.specs.Past.{Past, times_reported, withdrawn_orders}
use Rattle.theorem.specs.Theorem.{left}
use Rattle.theorem.specs.AfterCalls.{About, known_after}
use Rattle.theorem.specs.EveryEnquiry.{EnquiryAnswers}

-- It is never reported.
abbrev pub WithdrawnNeverReported : State → Past → Type 0
WithdrawnNeverReported s h = Each (λ o. times_reported h.reports o.ticket ≡ 0) (withdrawn_orders h)

-- An enquiry of its ticket is refused with 15.
abbrev pub WithdrawnNotFound : About
WithdrawnNotFound x first calls =
    Each (λ o. EnquiryAnswers (left first calls) o.ticket (refused 15)) (withdrawn_orders (known_after first calls))
