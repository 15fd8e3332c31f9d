-- Wrong stations: clock moves and enquiries that differ from the rules in one thing.
use Rattle.std.specs.Prelude.{ℕ, suc, ◌+◌, ◌-◌, Bool, cond, ◌&&◌, List, [], ◌∷◌, ◌++◌, ltb, eqb, length}
use Rattle.rules.specs.Basics.{keep, sorted_by}
use Rattle.rules.specs.Charge.{Charge, starting, seen, is_begun, unfinished_charges}
use Rattle.rules.specs.Search.{earliest}
use Rattle.rules.specs.Site.{Feeder, State, charges_on, site_charges, limits_of, with_charges}
use Rattle.rules.specs.Calls.{moved, Result, new_charge, is_passed, start_before, pairs, written, enquiring}
use Rattle.guarantee.specs.Past.{Gives}
use Rattle.excluded.specs.Parts.{with_moves, with_search_and_moves, with_enquiries, saying, leaving, ticketing, clocking, feeders_by, put_off, tail_charged, charges_by}

-- a move that reports the charges for which `passed` holds of the old clock and the target, and others after them, and drops
-- what is finished at another minute
abbrev moved_by : (ℕ → ℕ → Charge → Bool) → List Charge → (Feeder → ℕ) → State → ℕ → List ℕ → Result
moved_by passed others finishing s target list =
    let report : List Charge = sorted_by start_before (keep (passed s.clock target) (site_charges s)) ++ others in
    let left : State = feeders_by (λ g. with_charges g (unfinished_charges (finishing g) g.charges)) (clocking target s) in
    record {
      answer = moved (length report) (length (site_charges s) - length (site_charges left));
      state = left;
      list = written (pairs report) list;
    }

-- What is reported

abbrev reporting : (ℕ → ℕ → Charge → Bool) → State → ℕ → List ℕ → Result
reporting passed s target list = moved_by passed [] (λ g. target) s target list

-- starts equal to the old clock are left out
abbrev pub start_at_clock_left_out : Gives
start_at_clock_left_out = with_moves (reporting (λ clock target c. ltb clock c.start && ltb c.start target))

-- a move that reports only the first time
abbrev pub first_report_only : Gives
first_report_only = with_moves (reporting (λ clock target c. eqb clock 0 && is_passed clock target c))

-- a start in the minute before the old clock is reported once more
abbrev pub reported_twice : Gives
reported_twice = with_moves (reporting (λ clock target c. is_passed (clock - 1) target c))

-- a start equal to the target is reported
abbrev pub start_at_target_reported : Gives
start_at_target_reported = with_moves (reporting (λ clock target c. is_passed clock (suc target) c))

-- each report ends with a ticket that nobody has
abbrev pub nobody_reported : Gives
nobody_reported = with_moves (λ s target list. moved_by is_passed (new_charge (ticketing 65536 s) 1 1 1 1 1 0 ∷ []) (λ g. target) s target list)

-- a move leaves a charge of a ticket that nobody has on each feeder, and an enquiry finds it
abbrev pub stranger_held : Gives
stranger_held =
    with_moves
    (λ s target list.
    let r : Result = moved_by is_passed [] (λ g. target) s target list in
    let stranger : Charge = new_charge (ticketing 65536 r.state) 1 1 1 1 1 target in
    leaving (feeders_by (λ g. with_charges g (g.charges ++ (stranger ∷ []))) r.state) r)

-- a clock that is a minute slow, for orders and for reports: charges start before their order minute
abbrev pub slow_clock : Gives
slow_clock =
    with_search_and_moves
    (λ s f a. earliest (limits_of s f) (s.clock - 1) (seen (limits_of s f) (charges_on s f)) a)
    (reporting (λ clock target c. is_passed (clock - 1) target c))

-- What is dropped

abbrev dropping : (ℕ → ℕ) → State → ℕ → List ℕ → Result
dropping finishing s target list = moved_by is_passed [] (λ g. finishing target) s target list

-- a charge is dropped one minute early
abbrev pub dropped_early : Gives
dropped_early = with_moves (dropping (λ target. suc target))

-- a charge is held when it is finished, and dropped one minute late
abbrev pub dropped_late : Gives
dropped_late = with_moves (dropping (λ target. target - 1))

-- a charge is dropped at its end, s + p, where its tail begins
abbrev pub dropped_at_its_end : Gives
dropped_at_its_end = with_moves (λ s target list. moved_by is_passed [] (λ g. target + g.tail) s target list)

-- no charge is dropped
abbrev pub never_dropped : Gives
never_dropped = with_moves (dropping (λ target. 0))

-- Enquiries

-- an enquiry answered as by another station
abbrev asked_of : (State → State) → State → ℕ → Result
asked_of other s ticket = saying (enquiring (other s) ticket).answer (enquiring s ticket)

-- each start is shown a minute late
abbrev pub shown_late : Gives
shown_late = with_enquiries (asked_of (λ s. charges_by put_off (clocking (suc s.clock) s)))

-- a start equal to the clock is taken for begun
abbrev pub shown_begun : Gives
shown_begun = with_enquiries (asked_of (λ s. clocking (suc s.clock) s))

-- a waiting charge is shown two minutes early
abbrev pub shown_early : Gives
shown_early =
    with_enquiries
    (asked_of (λ s. charges_by (λ c. cond (is_begun s.clock c) c (starting c (c.start - 2))) s))

-- s + p + r is shown for the end
abbrev pub end_with_tail : Gives
end_with_tail = with_enquiries (asked_of (charges_by tail_charged))
