-- Cases of N2, see the minute, then decide, each worked out by hand: what a preview leaves, and starts that were shown before
-- something else was called.
use Rattle.std.specs.Prelude.{List, [], ◌∷◌, ◌++◌, map}
use Rattle.rules.specs.Calls.{refused, previewed, committed, moved, planned, move}
use Rattle.rules.specs.Entry.{preview, commit, offer, gives, gives_with, Case, lent_list, starts_from, reports, case}

abbrev pub cases_previewed : List Case
cases_previewed =
    -- A preview changes nothing, so the second shows what the first did. A start is refused while another driver has it, once
    -- the clock has passed it, and where an earlier one is free; the earliest one is taken without a preview.
    case 1 100 1
    (preview 1 10 60 1
    ∷ preview 1 10 60 1
    ∷ commit 1 10 60 1 0
    ∷ commit 1 10 60 1 0
    ∷ preview 1 5 60 1
    ∷ move 12 lent_list
    ∷ commit 1 5 60 1 10
    ∷ commit 1 5 60 1 13
    ∷ commit 1 5 60 1 4294967295
    ∷ commit 1 5 60 1 12
    ∷ [])
    (map gives (previewed 0 ∷ previewed 0 ∷ committed 1 0 ∷ refused 16 ∷ previewed 10 ∷ [])
    ++ (reports (moved 1 1) (1 ∷ 0 ∷ [])
    ∷ map gives (refused 16 ∷ refused 16 ∷ refused 16 ∷ committed 2 12 ∷ [])))
    -- A taken plan: the counts are 1, 1, 1 up to minute 10 and 1, 0, 0 up to 20, and 0 is shown. The plan brings ticket 2
    -- forward, 2, 1, 1, and there is no room at 0 any more.
    ∷ case 2 50 1
    (commit 1 10 60 1 0
    ∷ commit 1 10 15 1 10
    ∷ commit 2 10 60 1 0
    ∷ commit 3 10 60 1 0
    ∷ preview 1 10 60 1
    ∷ offer (0 ∷ 0 ∷ 0 ∷ 0 ∷ [])
    ∷ commit 1 10 60 1 0
    ∷ preview 1 10 60 1
    ∷ commit 1 10 60 1 10
    ∷ [])
    (starts_from 1 (0 ∷ 10 ∷ 0 ∷ 0 ∷ [])
    ++ (gives (previewed 0)
    ∷ gives_with (planned 0 5 0 0) (0 ∷ 0 ∷ 0 ∷ 0 ∷ [])
    ∷ map gives (refused 16 ∷ previewed 10 ∷ committed 5 10 ∷ [])))
    ∷ []
