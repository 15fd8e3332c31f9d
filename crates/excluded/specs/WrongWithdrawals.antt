-- Wrong stations: withdrawals that differ from the rules in one thing.
use Rattle.std.specs.Prelude.{◌-◌, cond, ◌&&◌, [], ◌++◌, leb, eqb}
use Rattle.rules.specs.Basics.{keep, some}
use Rattle.rules.specs.Charge.{starting, is_begun, has_ticket}
use Rattle.rules.specs.Site.{State, site_charges}
use Rattle.rules.specs.Calls.{refused, Result, refusals, withdrawing}
use Rattle.guarantee.specs.Past.{Gives}
use Rattle.excluded.specs.Parts.{with_refusals, with_withdrawals, unnumbered, leaving, ticketing, charges_by}

-- Who may withdraw

-- the rest is compared with the limit only, which it always keeps: counts fall
abbrev pub balance_untested : Gives
balance_untested = with_refusals (λ s c. unnumbered 26 (refusals s c))

-- a begun charge is withdrawn
abbrev pub begun_withdrawn : Gives
begun_withdrawn = with_refusals (λ s c. unnumbered 25 (refusals s c))

-- the rest is looked at before the charge: 26 before 25
abbrev pub rest_looked_at_first : Gives
rest_looked_at_first = with_refusals (λ s c. keep (λ row. eqb row.1 26) (refusals s c) ++ unnumbered 26 (refusals s c))

-- a start equal to the clock is taken for begun
abbrev pub start_at_clock_refused : Gives
start_at_clock_refused =
    with_withdrawals
    (λ s ticket.
    cond (some (λ c. has_ticket ticket c && leb c.start s.clock) (site_charges s))
    (record { answer = refused 25; state = s; list = [] })
    (withdrawing s ticket))

-- What is left

-- a withdrawal that leaves another station
abbrev left_by : (State → State) → Gives
left_by left = with_withdrawals (λ s ticket. let r : Result = withdrawing s ticket in leaving (left r.state) r)

-- the others that wait are brought forward to the clock
abbrev pub others_replanned : Gives
others_replanned = left_by (λ s. charges_by (λ c. cond (is_begun s.clock c) c (starting c s.clock)) s)

-- the last ticket given is given again
abbrev pub ticket_given_again : Gives
ticket_given_again = left_by (λ s. ticketing (s.next - 1) s)

-- a withdrawn order is still held
abbrev pub withdrawn_held : Gives
withdrawn_held = with_withdrawals (λ s ticket. leaving s (withdrawing s ticket))
