-- Wrong stations: refusals and openings that differ from the rules in one thing.
use Rattle.std.specs.Prelude.{ℕ, suc, ◌+◌, ◌*◌, ◌/◌, Bool, cond, ◌||◌, List, [], ◌∷◌, ◌++◌, map, reverse, ltb, eqb, length, get_or}
use Rattle.rules.specs.Basics.{first_of, keep, some, sorted_by}
use Rattle.rules.specs.Site.{State}
use Rattle.rules.specs.Entry.{one_feeder}
use Rattle.rules.specs.Calls.{Settings, settings, Asked, settings_read, fresh_feeder, refused, opened, waiting, Result, answering, fresh, open_refusals, opening, preview, commit, move, offer, replan_latest, replan_lines, enquire, board, withdraw, refusals, previewing, committing, moving, step}
use Rattle.guarantee.specs.Past.{Gives, is_refused}
use Rattle.excluded.specs.Parts.{with_refusals, with_previews, with_commits, with_moves, unnumbered, saying, leaving, writing, ticketing, bounding}

-- line 4 is accepted
abbrev pub line_accepted : Gives
line_accepted = with_refusals (λ s c. unnumbered 4 (refusals s c))

-- where several apply, the last in the table
abbrev pub last_row : Gives
last_row = with_refusals (λ s c. reverse (refusals s c))

-- where several apply, the lowest number, in whatever place it stands: 6 before 17
abbrev pub lowest_number : Gives
lowest_number = with_refusals (λ s c. sorted_by (λ a b. ltb a.1 b.1) (refusals s c))

-- a rate is compared with N alone
abbrev pub rate_above_bound : Gives
rate_above_bound = with_refusals (λ s c. refusals (bounding (λ g. g.limit) s) c)

-- the start shown is looked at before all else
abbrev pub shown_first : Gives
shown_first = with_refusals (λ s c. keep (λ row. eqb row.1 16) (refusals s c) ++ unnumbered 16 (refusals s c))

-- a start that is not the earliest is refused as if no ticket were left
abbrev pub other_number : Gives
other_number = with_refusals (λ s c. map (λ row. (row.0, cond (eqb row.1 16) 14 row.1)) (refusals s c))

-- tickets in any order are taken by the board
abbrev pub any_order_asked : Gives
any_order_asked = with_refusals (λ s c. unnumbered 23 (refusals s c))

-- a station full from the start
abbrev pub always_full : Gives
always_full = with_refusals (λ s c. map (λ row. (eqb row.1 13 || row.0, row.1)) (refusals s c))

-- a due minute that cannot be met is refused, with the number that has ended
abbrev pub hurry_refused : Gives
hurry_refused =
    with_previews
    (λ s f line p d rate.
    cond (ltb d (s.clock + p)) (record { answer = refused 7; state = s; list = [] }) (previewing s f line p d rate))

-- a refusal that no condition names: a move to the clock itself
abbrev pub standstill_refused : Gives
standstill_refused =
    with_moves
    (λ s target list.
    cond (eqb target s.clock) (record { answer = refused 12; state = s; list = list }) (moving s target list))

-- a refused call uses up a ticket
abbrev pub ticket_used_up : Gives
ticket_used_up s c =
    let r : Result = step s c in
    cond (is_refused r.answer) (leaving (ticketing (suc s.next) s) r) r

-- a refused call clears its list
abbrev pub list_cleared : Gives
list_cleared s c =
    let r : Result = step s c in
    cond (is_refused r.answer) (writing [] r) r

-- a commit answered as an enquiry is, without a ticket
abbrev pub ticket_not_said : Gives
ticket_not_said = with_commits (λ s f line p d rate shown. saying (waiting shown rate) (committing s f line p d rate shown))

-- a site looks for 360 places in all, and not for each feeder
abbrev pub places_once : Gives
places_once s (move target list) =
    answering
    (first_of ((ltb 1000000 target, 8) ∷ (ltb (length list) 360, 9) ∷ (ltb target s.clock, 12) ∷ []))
    s list (moving s target list)
places_once s (preview f line p d rate) = step s (preview f line p d rate)
places_once s (commit f line p d rate shown) = step s (commit f line p d rate shown)
places_once s (offer f ss) = step s (offer f ss)
places_once s (replan_latest f) = step s (replan_latest f)
places_once s (replan_lines f allowance) = step s (replan_lines f allowance)
places_once s (enquire ticket) = step s (enquire ticket)
places_once s (board asked list) = step s (board asked list)
places_once s (withdraw ticket) = step s (withdraw ticket)

-- Openings

-- what is asked for each feeder, changed
abbrev setting_by : (Settings → Settings) → Asked → Asked
setting_by h a = record { count = a.count; site = a.site; settings = map h a.settings }

-- the bounds of a site
abbrev bounds_of : State → List ℕ
bounds_of s = map (λ g. g.bound) s.feeders

-- by these conditions, with r beside a refusal, what is answered and the site opened
abbrev opened_with : List (Bool × ℕ) → ℕ → List ℕ → State → Result
opened_with rows r ds s = answering (first_of rows) (fresh (one_feeder 1 100 r)) [] (record { answer = opened ds; state = s; list = [] })

abbrev opened_by : List (Bool × ℕ) → State → Result
opened_by rows s = opened_with rows 0 (bounds_of s) s

-- a D of 0 is accepted
abbrev pub zero_bound : Asked → Result
zero_bound a = opened_by (unnumbered 3 (open_refusals a)) (fresh a)

-- c × N below 100 is refused, where D may be 1
abbrev pub small_product_refused : Asked → Result
small_product_refused a = opened_by ((some (λ x. ltb (x.percent * x.limit) 100) (settings_read a), 3) ∷ open_refusals a) (fresh a)

-- beside a refused opening stands what was asked for
abbrev pub opened_as_asked : Asked → Result
opened_as_asked a = leaving (fresh a) (opening a)

-- an opening that writes a list
abbrev pub opening_writes : Asked → Result
opening_writes a = writing (0 ∷ []) (opening a)

-- N said for D
abbrev pub limit_said : Asked → Result
limit_said a = opened_with (open_refusals a) 0 (map (λ x. x.limit) (settings_read a)) (fresh a)

-- the percentage is not kept
abbrev pub percent_lost : Asked → Result
percent_lost a =
    opened_with (open_refusals a) 0 (bounds_of (fresh a)) (fresh (setting_by (λ x. settings x.limit 100 x.tail) a))

-- c × N / 100 rounded down
abbrev pub rounded_down : Asked → Result
rounded_down a = opened_by (open_refusals a) (bounding (λ g. g.percent * g.limit / 100) (fresh a))

-- any r is accepted
abbrev pub long_tail_opened : Asked → Result
long_tail_opened a = opened_by (unnumbered 19 (open_refusals a)) (fresh a)

-- r is looked at before D
abbrev pub tail_looked_at_first : Asked → Result
tail_looked_at_first a = opened_by ((some (λ x. ltb 5 x.tail) (settings_read a), 19) ∷ open_refusals a) (fresh a)

-- r of the refused opening is kept
abbrev pub refused_tail_kept : Asked → Result
refused_tail_kept a =
    opened_with (open_refusals a) (get_or (map (λ x. x.tail) (settings_read a)) 0 0) (bounds_of (fresh a)) (fresh a)

-- r is not kept
abbrev pub tail_lost : Asked → Result
tail_lost a = opened_by (open_refusals a) (fresh (setting_by (λ x. settings x.limit x.percent 0) a))

-- five feeders are opened
abbrev pub five_opened : Asked → Result
five_opened a = opened_by (unnumbered 27 (open_refusals a)) (fresh a)

-- the first feeder is looked at whole before the second: its 3 before 1 of the second
abbrev pub feeder_by_feeder : Asked → Result
feeder_by_feeder a =
    opened_by
    (open_refusals (record { count = 1; site = a.site; settings = a.settings }) ++ open_refusals a)
    (fresh a)

-- any W is accepted
abbrev pub any_site : Asked → Result
any_site a = opened_by (unnumbered 28 (open_refusals a)) (fresh a)

-- all settings given are opened, past the count too
abbrev pub all_opened : Asked → Result
all_opened a =
    let s : State = record { feeders = map fresh_feeder a.settings; site = a.site; clock = 0; next = 1 } in
    opened_by (open_refusals a) s

-- W of the refused opening is kept
abbrev pub refused_site_kept : Asked → Result
refused_site_kept a =
    answering (first_of (open_refusals a))
    (fresh (record { count = 1; site = a.site; settings = settings 1 100 0 ∷ [] }))
    []
    (record { answer = opened (bounds_of (fresh a)); state = fresh a; list = [] })
