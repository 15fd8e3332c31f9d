-- For each field of demand 2 for commits a wrong station and a commit for which that field is false and no other.
use Rattle.std.specs.Prelude.{ℕ, Bool, List, [], ◌∷◌, ◌++◌, map}
use Rattle.rules.specs.Site.{State}
use Rattle.rules.specs.Calls.{step}
use Rattle.guarantee.specs.Past.{Gives}
use Rattle.excluded.specs.WrongRefusals.{other_number}
use Rattle.excluded.specs.WrongOrders.{queued, any_sound_start, shown_ignored, shown_before_taken, other_ticket, others_put_off, first_feeder}
use Rattle.excluded.specs.Stations.{station, station_five, station_h, station_pair_wide}
use Rattle.excluded.specs.Breaks.{Entry, agrees_by, only_of}
use Rattle.excluded.specs.FieldsTwoCommits.{Field, answer, refusal, others_same, fields, place, Trial, tested}

abbrev pub Breach : Type 0
Breach = Entry Trial Field

abbrev pub agrees : Breach → Bool
agrees = agrees_by tested

-- a commit of 10 minutes, due at 60, of rate 1
abbrev only_on : Gives → State → ℕ → ℕ → ℕ → List Field → Breach
only_on gives s f line shown broken =
    only_of place fields
    (record { gives = gives; station = s; feeder = f; line = line; time = 10; due = 60; rate = 1; shown = shown }) broken

abbrev only : Gives → State → ℕ → ℕ → List Field → Breach
only gives s line shown broken = only_on gives s 1 line shown broken

abbrev pub wrong_entries : List Breach
wrong_entries =
    only other_ticket station 1 0 (answer ∷ [])
    ∷ only other_number station 1 3 (refusal ∷ [])
    ∷ only shown_ignored station 1 3 (refusal ∷ [])
    ∷ only others_put_off station_h 2 0 (others_same ∷ [])
    -- a start that is not the earliest is answered with a ticket
    ∷ only any_sound_start station 1 3 (answer ∷ refusal ∷ [])
    ∷ only shown_before_taken station_five 1 0 (answer ∷ refusal ∷ [])
    ∷ only queued station_h 2 20 (answer ∷ refusal ∷ [])
    -- the earliest one is refused
    ∷ only queued station_h 2 0 (answer ∷ others_same ∷ [])
    ∷ only_on first_feeder station_pair_wide 2 1 0 (others_same ∷ [])
    ∷ []

-- and the rules themselves for the same commits, where nothing breaks
abbrev pub entries : List Breach
entries = wrong_entries ++ map (λ e. only_on step e.thing.station e.thing.feeder e.thing.line e.thing.shown []) wrong_entries
