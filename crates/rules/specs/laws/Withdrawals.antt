-- A withdrawal: one place is free, and the charge of the ticket waited.
use Rattle.std.specs.Prelude.{◌≡◌, ℕ, suc, true, false, ◌&&◌, List, length}
use Rattle.rules.specs.Basics.{some}
use Rattle.rules.specs.Charge.{Charge, is_begun, is_waiting, has_ticket, without_ticket}
use Rattle.rules.specs.Site.{State, site_charges}
use Rattle.rules.specs.Valid.{Rising, ValidState}
use Rattle.rules.specs.laws.Arrangements.{InOrder}

-- No ticket stands twice on a valid station, whichever feeders hold its charges.
abbrev pub TicketsStandOnce : Type 0
TicketsStandOnce = (s : State) → ValidState s → InOrder (λ a b. a.ticket ≡ b.ticket → ⊥) (site_charges s)

-- Tickets rise along the charges of a feeder, so without a ticket that it holds it has one charge less.
abbrev pub OnePlaceIsFree : Type 0
OnePlaceIsFree =
    (t i : ℕ) (cs : List Charge)
    → Rising i cs
    → some (has_ticket t) cs ≡ true
    → suc (length (without_ticket t cs)) ≡ length cs

-- A ticket that waits has not begun: no other charge has it.
abbrev pub WaitingHasNotBegun : Type 0
WaitingHasNotBegun =
    (k t i : ℕ) (cs : List Charge)
    → Rising i cs
    → some (λ c. has_ticket t c && is_waiting k c) cs ≡ true
    → some (λ c. has_ticket t c && is_begun k c) cs ≡ false

-- A ticket that is held and has not begun waits.
abbrev pub NotBegunWaits : Type 0
NotBegunWaits =
    (k t : ℕ) (cs : List Charge)
    → some (has_ticket t) cs ≡ true
    → some (λ c. has_ticket t c && is_begun k c) cs ≡ false
    → some (λ c. has_ticket t c && is_waiting k c) cs ≡ true
