-- Cases of N6, shorter search on busy evenings, each worked out by hand: candidate starts beside loads, with the verdict and the
-- number of minutes looked at.
use Rattle.std.specs.Prelude.{ℕ, Bool, true, false, List, [], ◌∷◌, map}
use Rattle.rules.specs.Load.{Load, Draw, draw, load_from, Limits, limits, elsewhere}
use Rattle.rules.specs.Candidate.{Tested, candidate}

-- an entry: limit and bound, the loads, what the charge draws, its candidate start, and what the test has to return
pub record CandidateCase : Type 0 where
  pub within : Limits
  pub loads : List Load
  pub draws : Draw
  pub start : ℕ
  pub tested : Tested

-- what the rules give for an entry
abbrev pub tested_in : CandidateCase → CandidateCase
tested_in e =
    record {
      within = e.within;
      loads = e.loads;
      draws = e.draws;
      start = e.start;
      tested = candidate e.within e.loads e.draws e.start;
    }

abbrev entry : Limits → List Load → Draw → ℕ → Bool → ℕ → CandidateCase
entry y xs a s fits looked =
    record { within = y; loads = xs; draws = a; start = s; tested = record { fits = fits; looked = looked } }

-- line 1, in minutes 13 to 19
abbrev taken : List Load
taken = load_from (draw 1 7 1) 13 ∷ []

-- each line, in minutes 13 to 19
abbrev taken_on_all : List Load
taken_on_all = load_from (draw 1 7 1) 13 ∷ load_from (draw 2 7 1) 13 ∷ load_from (draw 3 7 1) 13 ∷ []

abbrev pub cases_on_busy_evenings : List CandidateCase
cases_on_busy_evenings =
    -- The limit: one point a line. A charge of 5 minutes on line 1 fails from start 10 in its fourth minute.
    entry (limits 1 1 720 []) taken (draw 1 5 1) 10 false 4
    -- From start 15 it fails in its first.
    ∷ entry (limits 1 1 720 []) taken (draw 1 5 1) 15 false 1
    -- From start 9 only its last minute fails, and all five have been looked at.
    ∷ entry (limits 1 1 720 []) taken (draw 1 5 1) 9 false 5
    -- From starts 8 and 20 none fails: it ends, or begins, where the other draws nothing.
    ∷ entry (limits 1 1 720 []) taken (draw 1 5 1) 8 true 5
    ∷ entry (limits 1 1 720 []) taken (draw 1 5 1) 20 true 5
    -- Balance: two points a line, and two counts differ by at most 1. The first and the last of 12 minutes are sound, the fourth
    -- is not: 2, 0, 0.
    ∷ entry (limits 2 1 720 []) taken (draw 1 12 1) 10 false 4
    -- Beside one more on each other line it is sound, 2, 1, 1: what is held helps a candidate too.
    ∷ entry (limits 2 1 720 []) taken_on_all (draw 1 12 1) 10 true 12
    -- On line 3 the same charge fails nowhere: 1, 0, 1 at most.
    ∷ entry (limits 2 1 720 []) taken (draw 3 12 1) 10 true 12
    -- The rate: of 2, beside a bound of 2, it is alone in minute 12 and above the bound with the other in minute 13.
    ∷ entry (limits 3 2 720 []) taken (draw 1 5 2) 12 false 2
    ∷ entry (limits 3 2 720 []) taken (draw 1 5 1) 12 true 5
    -- The site: what another feeder draws in minutes 13 to 19 is all that W 1 leaves, though limit and bound do not count it. From start
    -- 10 the fourth minute fails, from 9 the last one, from 8 none.
    ∷ entry (limits 1 1 1 []) (map elsewhere taken) (draw 1 5 1) 10 false 4
    ∷ entry (limits 1 1 1 []) (map elsewhere taken) (draw 1 5 1) 9 false 5
    ∷ entry (limits 1 1 1 []) (map elsewhere taken) (draw 1 5 1) 8 true 5
    ∷ []
