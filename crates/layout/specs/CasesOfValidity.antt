-- Stations on both sides of each edge of the request's list.
use Rattle.std.specs.Prelude.{ℕ, ◌+◌, ◌*◌, ◌/◌, ◌%◌, Bool, true, false, List, [], ◌∷◌, ◌++◌}
use Rattle.rules.specs.Basics.{tabulate}
use Rattle.rules.specs.Charge.{Charge}
use Rattle.rules.specs.Site.{State}
use Rattle.rules.specs.Calls.{fresh, least}
use Rattle.layout.specs.CasesOfImages.{charge, station_with, station, under}

-- a station of N 2 and c 50 at minute 300 with next ticket 261 that holds one charge
abbrev pub holding_one : Charge → State
holding_one c = station 2 50 300 261 (c ∷ [])

abbrev pub holding_two : Charge → Charge → State
holding_two c d = station 2 50 300 261 (c ∷ d ∷ [])

-- a station with r that holds nothing
abbrev pub empty : ℕ → ℕ → ℕ → ℕ → ℕ → State
empty limit percent tail clock next = station_with limit percent tail clock next []

-- fields in range, W 1 to 720, and refusal 3: 1 × 50 / 100 is rounded to 0, 1 × 51 / 100 to 1
abbrev pub cases_of_settings : List (State × Bool)
cases_of_settings =
    (empty 1 51 0 0 1, true)
    ∷ (empty 60 100 5 1000000 65536, true)
    ∷ (empty 0 100 0 0 1, false)
    ∷ (empty 61 100 0 0 1, false)
    ∷ (empty 2 101 0 0 1, false)
    ∷ (empty 2 50 6 0 1, false)
    ∷ (empty 2 50 0 1000001 1, false)
    ∷ (empty 2 50 0 0 0, false)
    ∷ (empty 2 50 0 0 65537, false)
    ∷ (empty 1 50 0 0 1, false)
    ∷ (under 0 (empty 2 50 0 0 1), false)
    ∷ (under 1 (empty 2 50 0 0 1), true)
    ∷ (under 720 (empty 2 50 0 0 1), true)
    ∷ (under 721 (empty 2 50 0 0 1), false)
    -- 181 charges, and nothing else wrong
    ∷ (station 60 100 300 261 (tabulate (λ i. charge i (300 + 4 * (i / 100)) 0 0 1 (1 + i % 3) 1) 181 1), false)
    ∷ []

-- fields of a charge in range, and refusal 18: a rate of 2 where D is 1, in a plan that is sound by the other lines
abbrev pub cases_of_fields : List (State × Bool)
cases_of_fields =
    (holding_one (charge 1 300 2000000 0 1440 3 1), true)
    ∷ (holding_one (charge 1 300 2000001 0 1440 3 1), false)
    ∷ (holding_one (charge 1 300 0 0 1441 3 1), false)
    ∷ (holding_one (charge 1 300 0 0 0 3 1), false)
    ∷ (holding_one (charge 1 300 0 0 1 0 1), false)
    ∷ (holding_one (charge 1 300 0 0 1 4 1), false)
    ∷ (holding_one (charge 1 300 0 0 1 1 0), false)
    ∷ (station 2 50 300 261 (charge 1 300 0 0 1 1 2 ∷ charge 2 300 0 0 1 2 1 ∷ charge 3 300 0 0 1 3 1 ∷ []), false)
    ∷ (station 2 100 300 261 (charge 1 300 0 0 1 1 2 ∷ []), true)
    ∷ (station 3 100 300 261 (charge 1 300 0 0 1 1 3 ∷ []), false)
    -- a rate above W
    ∷ (under 2 (station 2 100 300 261 (charge 1 300 0 0 1 1 2 ∷ [])), true)
    ∷ (under 1 (station 2 100 300 261 (charge 1 300 0 0 1 1 2 ∷ [])), false)
    ∷ []

-- "tickets, the next one last, are 1 or more and rise"
abbrev pub cases_of_tickets : List (State × Bool)
cases_of_tickets =
    (holding_two (charge 1 300 0 0 1 1 1) (charge 260 300 0 0 1 2 1), true)
    ∷ (holding_two (charge 0 300 0 0 1 1 1) (charge 1 300 0 0 1 2 1), false)
    ∷ (holding_two (charge 7 300 0 0 1 1 1) (charge 7 300 0 0 1 2 1), false)
    ∷ (holding_two (charge 8 300 0 0 1 1 1) (charge 7 300 0 0 1 2 1), false)
    ∷ (holding_two (charge 1 300 0 0 1 1 1) (charge 261 300 0 0 1 2 1), false)
    ∷ []

-- With r = 3 a charge of 5 minutes that starts in minute 293 is active in minute 300, one that starts in minute 292 is not.
abbrev pub cases_of_times : List (State × Bool)
cases_of_times =
    (holding_one (charge 1 293 0 293 5 1 1), true)
    ∷ (holding_one (charge 1 292 0 292 5 1 1), false)
    ∷ (holding_one (charge 1 300 0 300 5 1 1), true)
    ∷ (holding_one (charge 1 301 0 301 5 1 1), false)
    ∷ (holding_one (charge 1 298 0 299 5 1 1), false)
    ∷ []

-- Two tickets given leave ends up to 300 + 2 × 1,445.
abbrev pub cases_of_ends : List (State × Bool)
cases_of_ends =
    (station 2 50 300 3 (charge 2 3150 0 0 40 1 1 ∷ []), true)
    ∷ (station 2 50 300 3 (charge 2 3151 0 0 40 1 1 ∷ []), false)
    ∷ []

-- what the test of the records says; whether so long plans are sound is not computed
abbrev pub cases_of_records : List (State × Bool)
cases_of_records = cases_of_fields ++ cases_of_tickets ++ cases_of_times ++ cases_of_ends

-- two on line 1 from minute 290 on, for 17 minutes, and one each on lines 2 and 3 from minute 299 on, for 8 minutes and for `time`; r comes
-- to each
abbrev pub four_held : ℕ → List Charge
four_held time =
    charge 1 290 0 0 17 1 1 ∷ charge 2 290 0 0 17 1 1 ∷ charge 3 299 0 0 8 2 1 ∷ charge 4 299 0 0 time 3 1 ∷ []

-- "and whose plan is sound": N is 2 and D 1. Before minute 299 the four differ by 2, which is past; from the clock on they do not,
-- unless the last ends early.
abbrev pub cases_of_plans : List (State × Bool)
cases_of_plans =
    (fresh least, true)
    ∷ (holding_two (charge 1 302 0 0 5 1 1) (charge 2 310 0 0 5 1 1), true)
    ∷ (holding_two (charge 1 302 0 0 5 1 1) (charge 2 309 0 0 5 1 1), false)
    ∷ (station 2 50 300 261 (four_held 8), true)
    ∷ (station 2 50 300 261 (four_held 7), false)
    ∷ (holding_two (charge 7 300 0 0 1 1 1) (charge 7 300 0 0 1 2 1), false)
    ∷ []

-- "W .. exceeded": in the last minute of a tail, by all lines together, by rates
abbrev pub cases_of_sites : List (State × Bool)
cases_of_sites =
    (under 1 (holding_two (charge 1 302 0 0 5 1 1) (charge 2 310 0 0 5 2 1)), true)
    ∷ (under 1 (holding_two (charge 1 302 0 0 5 1 1) (charge 2 309 0 0 5 2 1)), false)
    ∷ (under 2 (holding_two (charge 1 302 0 0 5 1 1) (charge 2 309 0 0 5 2 1)), true)
    ∷ (under 4 (station 2 50 300 261 (four_held 8)), true)
    ∷ (under 3 (station 2 50 300 261 (four_held 8)), false)
    ∷ (under 4 (station 2 100 300 261 (charge 1 300 0 0 1 1 2 ∷ charge 2 300 0 0 1 2 2 ∷ [])), true)
    ∷ (under 3 (station 2 100 300 261 (charge 1 300 0 0 1 1 2 ∷ charge 2 300 0 0 1 2 2 ∷ [])), false)
    ∷ []
