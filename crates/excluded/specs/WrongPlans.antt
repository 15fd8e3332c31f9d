-- Wrong stations: offers and replans that differ from the rules in one thing.
use Rattle.std.specs.Prelude.{ℕ, suc, ◌-◌, not, cond, [], eqb}
use Rattle.rules.specs.Basics.{first_of, keep}
use Rattle.rules.specs.Load.{Limits, limits}
use Rattle.rules.specs.Charge.{is_begun}
use Rattle.rules.specs.Replan.{latest}
use Rattle.rules.specs.Judgement.{restarted, causes, judged}
use Rattle.rules.specs.Site.{State, charges_on, limits_of}
use Rattle.rules.specs.Calls.{kept, decided, tested, offering, replanning_latest, Result}
use Rattle.guarantee.specs.Past.{Gives}
use Rattle.excluded.specs.Parts.{with_offers, with_replans_latest, with_replans_lines, leaving, writing, ticketing, clocking, put_off, of_line, at_rate, tail_charged, charges_by, saying}

-- Offers

-- the test without one of its causes
abbrev pub untested : ℕ → Gives
untested k =
    with_offers
    (λ s f ss.
    decided s f 0 ss ss
    (first_of
    (keep (λ row. not (eqb row.1 k))
    (causes (limits_of s f) s.clock (charges_on s f) ss (restarted s.clock (charges_on s f) ss)))))

-- the test with other limits
abbrev judging_with : (Limits → Limits) → Gives
judging_with h = with_offers (λ s f ss. decided s f 0 ss ss (judged (h (limits_of s f)) s.clock (charges_on s f) ss))

-- an offer that is tested without what the other feeders draw
abbrev pub tested_alone : Gives
tested_alone = judging_with (λ y. limits y.limit y.bound y.site [])

-- an offer that is never taken
abbrev pub never_taken : Gives
never_taken = with_offers (λ s f ss. kept s f 7 0 ss)

-- an offer that clears its list
abbrev pub offer_cleared : Gives
offer_cleared = with_offers (λ s f ss. writing [] (offering s f ss))

-- an offer that leaves another station, `taken` of the right one where the plan is taken and `kept` of it where it is not
abbrev left_by : (State → State) → (State → State) → Gives
left_by taken kept =
    with_offers
    (λ s f ss.
    let r : Result = offering s f ss in
    leaving (cond (eqb (judged (limits_of s f) s.clock (charges_on s f) ss) 0) (taken r.state) (kept r.state)) r)

-- taken starts are put off by a minute
abbrev pub taken_later : Gives
taken_later = left_by (λ s. charges_by (λ c. cond (is_begun s.clock c) c (put_off c)) s) (λ s. s)

-- a taken plan puts off the begun charges
abbrev pub begun_put_off : Gives
begun_put_off = left_by (λ s. charges_by (λ c. cond (is_begun s.clock c) (put_off c) c) s) (λ s. s)

-- a taken plan brings all charges to line 2
abbrev pub line_changed : Gives
line_changed = left_by (charges_by (of_line 2)) (λ s. s)

-- a taken plan leaves every charge at rate 1
abbrev pub rate_lost : Gives
rate_lost = left_by (charges_by (at_rate 1)) (λ s. s)

-- a taken plan uses up a ticket
abbrev pub taken_for_ticket : Gives
taken_for_ticket = left_by (λ s. ticketing (suc s.next) s) (λ s. s)

-- a plan that is kept out uses up a ticket
abbrev pub kept_for_ticket : Gives
kept_for_ticket = left_by (λ s. s) (λ s. ticketing (suc s.next) s)

-- lateness up to the end of the tails
abbrev pub late_with_tails : Gives
late_with_tails = with_offers (λ s f ss. saying (offering (charges_by tail_charged s) f ss).answer (offering s f ss))

-- Replans

-- a replan that may move a charge begun in the last minute
abbrev pub begun_moved : Gives
begun_moved =
    with_replans_latest
    (λ s f.
    let r : Result = replanning_latest (clocking (s.clock - 1) s) f in
    leaving (clocking s.clock r.state) r)

-- a replan that always keeps
abbrev pub always_kept : Gives
always_kept = with_replans_latest (λ s f. kept s f 7 0 [])

-- allowance spent after no round
abbrev pub spent_after_none : Gives
spent_after_none = with_replans_lines (λ s f allowance. kept s f 2 0 [])

-- a replan by lines that takes the charges by latest start
abbrev pub by_latest_start_in_lines : Gives
by_latest_start_in_lines =
    with_replans_lines (λ s f allowance. tested s f 1 (latest (limits_of s f) s.clock (charges_on s f)) [])

-- an invented round total
abbrev pub rounds_invented : Gives
rounds_invented = with_replans_lines (λ s f allowance. kept s f 7 allowance [])

-- a replan that plans the first feeder, whichever it names
abbrev pub first_replanned : Gives
first_replanned = with_replans_latest (λ s f. replanning_latest s 1)
