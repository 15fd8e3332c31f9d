-- Wrong stations: previews and commits that differ from the rules in one thing.
use Rattle.std.specs.Prelude.{ℕ, suc, ◌+◌, ◌-◌, max, Bool, ◌&&◌, ◌||◌, List, [], ◌∷◌, ◌++◌, map, leb, length, drop}
use Rattle.rules.specs.Basics.{at, first}
use Rattle.rules.specs.Load.{Load, Draw, draw, elsewhere, Limits, limits, count, counts, limited, within_site, last_until, limit_at, balance_at, from_on, sound}
use Rattle.rules.specs.Charge.{Charge, loads_of, seen, begun_charges, last_end}
use Rattle.rules.specs.Search.{added, earliest, fits_under}
use Rattle.rules.specs.Site.{State, feeder_of, charges_on, others_of, limits_of, holding}
use Rattle.rules.specs.Calls.{waiting, Result, preview, commit, move, offer, replan_latest, replan_lines, enquire, board, withdraw, draw_for, start_for, is_start, previewed_at, previewing, committing, step}
use Rattle.earlier.specs.Earlier.{ordered_at}
use Rattle.guarantee.specs.Past.{Gives}
use Rattle.excluded.specs.Parts.{with_previews, with_commits, with_untested, with_test, with_search, saying, leaving, writing, ticketing, clocking, put_off, at_rate, without_tail}

-- The search

-- what feeder f sees: what the others draw, and its own charges
abbrev seen_on : State → ℕ → List Load
seen_on s f = seen (limits_of s f) (charges_on s f)

-- a search that ignores the other lines
abbrev pub own_line_only : Gives
own_line_only =
    with_search
    (λ s f a.
    first (fits_under s.site (λ l t. (feeder_of s f).limit) (seen_on s f) a) (suc (last_until (seen_on s f) - s.clock)) s.clock)

-- lines 1 and 2, and 2 and 3, are compared
abbrev neighbours_at : State → ℕ → List Load → ℕ → Bool
neighbours_at s f xs t =
    let near : ℕ → ℕ → Bool = λ l m. leb (count xs l t) (count xs m t + (feeder_of s f).bound) in
    limit_at (limits_of s f) xs t && (near 1 2 && (near 2 1 && (near 2 3 && near 3 2)))

abbrev pub neighbours_only : Gives
neighbours_only =
    with_search
    (λ s f a.
    let xs : List Load = seen_on s f in
    first (λ u. from_on s.clock (added xs a u) (neighbours_at s f (added xs a u))) (suc (last_until xs - s.clock)) s.clock)

-- a search with other limits
abbrev searching_with : (Limits → Limits) → Gives
searching_with h = with_search (λ s f a. earliest (h (limits_of s f)) s.clock (seen (h (limits_of s f)) (charges_on s f)) a)

-- a search that ignores the limit
abbrev pub limit_ignored : Gives
limit_ignored = searching_with (λ y. limits 180 y.bound y.site y.others)

-- a search that ignores W
abbrev pub site_ignored : Gives
site_ignored = searching_with (λ y. limits y.limit y.bound 720 y.others)

-- a search that counts the feeder's own charges alone
abbrev pub own_feeder_only : Gives
own_feeder_only = searching_with (λ y. limits y.limit y.bound y.site [])

-- a search that counts, of the other feeders' charges, those alone that have begun
abbrev pub begun_others_only : Gives
begun_others_only =
    with_search
    (λ s f a.
    earliest (limits_of s f) s.clock
    (map elsewhere (loads_of (begun_charges s.clock (others_of s f))) ++ loads_of (charges_on s f))
    a)

-- a search that tests W only in the minute in which the charge starts
abbrev pub site_only_at_its_start : Gives
site_only_at_its_start =
    with_search
    (λ s f a.
    let y : Limits = limits_of s f in
    let xs : List Load = seen_on s f in
    first
    (λ u.
    let zs : List Load = added xs a u in
    within_site y.site (counts zs u) && from_on s.clock zs (λ t. limited y.limit (counts zs t) && balance_at y zs t))
    (suc (last_until xs - s.clock))
    s.clock)

-- a search that counts the other feeders' charges on its own lines
abbrev pub others_on_its_lines : Gives
others_on_its_lines =
    with_search
    (λ s f a.
    earliest (limits_of s f) s.clock (loads_of (others_of s f) ++ loads_of (charges_on s f)) a)

-- what an order draws at rate 1, and without its tail
abbrev draw_at_one : State → ℕ → Draw → Draw
draw_at_one s f a = draw a.line a.time 1

abbrev draw_without_tail : State → ℕ → Draw → Draw
draw_without_tail s f a = draw a.line (a.time - (feeder_of s f).tail) a.rate

-- a search over other charges, for what another order draws
abbrev searching_for : (Charge → Charge) → (State → ℕ → Draw → Draw) → Gives
searching_for h g =
    with_search (λ s f a. earliest (limits_of s f) s.clock (seen (limits_of s f) (map h (charges_on s f))) (g s f a))

-- a search that counts charges, whatever their rates
abbrev pub charges_counted : Gives
charges_counted = searching_for (at_rate 1) draw_at_one

-- a search by charging times, without the tails
abbrev pub tails_left_out : Gives
tails_left_out = searching_for without_tail draw_without_tail

-- a search that counts right in the limit, and in balance other charges and what another order draws
abbrev right_in_limit_only : (Charge → Charge) → (State → ℕ → Draw → Draw) → Gives
right_in_limit_only h g =
    with_search
    (λ s f a.
    let xs : List Load = seen_on s f in
    let ys : List Load = seen (limits_of s f) (map h (charges_on s f)) in
    first
    (λ u.
    from_on s.clock (added xs a u)
    (λ t. limit_at (limits_of s f) (added xs a u) t && balance_at (limits_of s f) (added ys (g s f a) u) t))
    (suc (last_until xs - s.clock))
    s.clock)

-- rates are counted in the limit, and charges in balance
abbrev pub rates_in_limit_only : Gives
rates_in_limit_only = right_in_limit_only (at_rate 1) draw_at_one

-- tails are counted in the limit, and not in balance
abbrev pub tails_in_limit_only : Gives
tails_in_limit_only = right_in_limit_only without_tail draw_without_tail

-- one fixed start for everybody
abbrev pub fixed_start : Gives
fixed_start = with_search (λ s f a. at 5)

-- an order that always queues behind the last end
abbrev pub queued : Gives
queued = with_search (λ s f a. at (max s.clock (last_end (charges_on s f))))

-- Previews

-- a preview that shows the last end, where commits go by the earliest start
abbrev pub last_end_shown : Gives
last_end_shown = with_previews (λ s f line p d rate. previewed_at s (at (max s.clock (last_end (charges_on s f)))))

-- a preview answered as an enquiry is
abbrev pub shown_as_waiting : Gives
shown_as_waiting = with_previews (λ s f line p d rate. saying (waiting s.clock rate) (previewing s f line p d rate))

-- a preview that takes a ticket
abbrev pub preview_takes_ticket : Gives
preview_takes_ticket = with_previews (λ s f line p d rate. leaving (ticketing (suc s.next) s) (previewing s f line p d rate))

-- a preview that writes a list
abbrev pub preview_writes : Gives
preview_writes = with_previews (λ s f line p d rate. writing (0 ∷ []) (previewing s f line p d rate))

-- Commits

-- a commit that takes any sound start
abbrev pub any_sound_start : Gives
any_sound_start =
    with_test
    (λ s f a shown. leb s.clock shown && sound (limits_of s f) s.clock (added (seen_on s f) a shown))

-- a commit that gives the earliest start whatever was shown
abbrev pub shown_ignored : Gives
shown_ignored = with_untested (λ s f line p d rate shown. ordered_at s f line p d rate (start_for s f (draw_for s f line p rate)))

-- a commit that still takes the start shown at clock 0
abbrev pub shown_before_taken : Gives
shown_before_taken =
    with_test
    (λ s f a shown. is_start (start_for s f a) shown || is_start (start_for (clocking 0 s) f a) shown)

-- a commit answered with the ticket after its own
abbrev pub other_ticket : Gives
other_ticket =
    with_commits
    (λ s f line p d rate shown.
    saying (committing (ticketing (suc s.next) s) f line p d rate shown).answer (committing s f line p d rate shown))

-- every second ticket
abbrev pub ticket_skipped : Gives
ticket_skipped =
    with_commits
    (λ s f line p d rate shown.
    let r : Result = committing s f line p d rate shown in
    leaving (ticketing (suc r.state.next) r.state) r)

-- a commit that puts off the charges held
abbrev pub others_put_off : Gives
others_put_off =
    with_commits
    (λ s f line p d rate shown.
    let r : Result = committing s f line p d rate shown in
    let new : List Charge = drop (length (charges_on s f)) (charges_on r.state f) in
    leaving (holding r.state f (map put_off (charges_on s f) ++ new) r.state.next) r)

-- an order is put on the first feeder, whichever it names
abbrev pub first_feeder : Gives
first_feeder = with_commits (λ s f line p d rate shown. committing s 1 line p d rate shown)

-- feeder 0 is taken for feeder 1
abbrev pub zero_for_one : Gives
zero_for_one s (commit f line p d rate shown) = step s (commit (max f 1) line p d rate shown)
zero_for_one s (preview f line p d rate) = step s (preview f line p d rate)
zero_for_one s (move target list) = step s (move target list)
zero_for_one s (offer f ss) = step s (offer f ss)
zero_for_one s (replan_latest f) = step s (replan_latest f)
zero_for_one s (replan_lines f allowance) = step s (replan_lines f allowance)
zero_for_one s (enquire ticket) = step s (enquire ticket)
zero_for_one s (board asked list) = step s (board asked list)
zero_for_one s (withdraw ticket) = step s (withdraw ticket)
