-- For each field of demand 2 for withdrawals a wrong station and a withdrawal for which that field is false and no other.
use Rattle.std.specs.Prelude.{ℕ, Bool, List, [], ◌∷◌, ◌++◌, map}
use Rattle.rules.specs.Site.{State}
use Rattle.rules.specs.Calls.{step}
use Rattle.guarantee.specs.Past.{Gives}
use Rattle.excluded.specs.WrongRefusals.{ticket_used_up}
use Rattle.excluded.specs.WrongWithdrawals.{balance_untested, begun_withdrawn, start_at_clock_refused, others_replanned, ticket_given_again, withdrawn_held}
use Rattle.excluded.specs.Stations.{station_f, station_h}
use Rattle.excluded.specs.Breaks.{Entry, agrees_by, only_of}
use Rattle.excluded.specs.FieldsTwoWithdrawals.{Field, removed, others_same, place_free, unchanged, fields, place, Trial, tested}

abbrev pub Breach : Type 0
Breach = Entry Trial Field

abbrev pub agrees : Breach → Bool
agrees = agrees_by tested

abbrev only : Gives → State → ℕ → List Field → Breach
only gives s ticket broken = only_of place fields (record { gives = gives; station = s; ticket = ticket }) broken

abbrev pub wrong_entries : List Breach
wrong_entries =
    only balance_untested station_f 5 (removed ∷ [])
    -- without ticket 1 the rest is sound
    ∷ only begun_withdrawn station_f 1 (removed ∷ [])
    ∷ only start_at_clock_refused station_h 1 (removed ∷ [])
    ∷ only others_replanned station_h 1 (others_same ∷ [])
    ∷ only ticket_given_again station_h 1 (others_same ∷ [])
    ∷ only withdrawn_held station_h 1 (others_same ∷ place_free ∷ [])
    ∷ only ticket_used_up station_f 1 (unchanged ∷ [])
    ∷ []

-- and the rules themselves for the same withdrawals, where nothing breaks
abbrev pub entries : List Breach
entries = wrong_entries ++ map (λ e. only step e.thing.station e.thing.ticket []) wrong_entries
