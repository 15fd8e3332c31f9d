-- The lists of calls in force, tried on events, with what is right worked out by hand.
use Rattle.std.specs.Prelude.{◌≡◌, [], ◌∷◌, replicate}
use Rattle.rules.specs.Site.{feeder_of}
use Rattle.rules.specs.Calls.{settings, Asked, Call, commit, move, enquire}
use Rattle.rules.specs.Entry.{one_feeder}
use Rattle.restarts.specs.Events.{opens, made, saves, restores, brings, an_opening, a_refused_restore, in_force}
use Rattle.restarts.specs.Restarts.{opened, stands, wrote_none, shows_all}
use Rattle.restarts.specs.Bus.{calls, reopens, bus_events}

-- a first charge on line 1, and a second one behind it
abbrev pub first_order : Call
first_order = commit 1 1 10 60 1 0

abbrev pub second_order : Call
second_order = commit 1 1 10 60 1 10

abbrev pub later_move : Call
later_move = move 5 (replicate 360 7)

abbrev pub one : Asked
one = one_feeder 1 100 0

-- two feeders
abbrev pub two : Asked
two = record { count = 2; site = 720; settings = settings 1 100 0 ∷ settings 2 50 2 ∷ [] }

-- an order, save 0, another order and a clock move, save 1; then save 0 is restored, and an enquiry made: the second order and the
-- move fall out
abbrev pub CallsAfterTheSaveFallOut : Type 0
CallsAfterTheSaveFallOut =
    in_force one
    (made first_order ∷ saves ∷ made second_order ∷ made later_move ∷ saves ∷ restores 0 ∷ made (enquire 1) ∷ [])
    ≡ record { beginning = an_opening one; calls = first_order ∷ enquire 1 ∷ [] }

-- save 1 is restored after save 0 was
abbrev pub LaterSaveIsStillThere : Type 0
LaterSaveIsStillThere =
    in_force one
    (made first_order ∷ saves ∷ made second_order ∷ saves ∷ restores 0 ∷ made later_move ∷ restores 1 ∷ made (enquire 1) ∷ [])
    ≡ record { beginning = an_opening one; calls = first_order ∷ second_order ∷ enquire 1 ∷ [] }

-- a list that is no image is refused: a new list begins, with the fresh station of 1, 100 and r = 0, and save 0 is still there
abbrev pub RefusedRestoreBeginsAnew : Type 0
RefusedRestoreBeginsAnew =
    (in_force (one_feeder 2 50 2) (made first_order ∷ saves ∷ brings [] ∷ made first_order ∷ [])
    ≡ record { beginning = a_refused_restore; calls = first_order ∷ [] })
    × (in_force (one_feeder 2 50 2) (made first_order ∷ saves ∷ brings [] ∷ made first_order ∷ restores 0 ∷ [])
    ≡ record { beginning = an_opening (one_feeder 2 50 2); calls = first_order ∷ [] })
    × ((stands (one_feeder 2 50 2) (made later_move ∷ brings [] ∷ [])).clock ≡ 0)
    × ((feeder_of (stands (one_feeder 2 50 2) (made later_move ∷ brings [] ∷ [])) 1).limit ≡ 1)
    × ((stands (one_feeder 2 50 2) (made later_move ∷ brings [] ∷ [])).site ≡ 720)

-- of two feeders nothing is saved: save 0 is that of the station opened then
abbrev pub SeveralAreNotSaved : Type 0
SeveralAreNotSaved =
    (in_force two (made first_order ∷ saves ∷ opens one ∷ made second_order ∷ saves ∷ made later_move ∷ restores 0 ∷ [])
    ≡ record { beginning = an_opening one; calls = second_order ∷ [] })
    × (shows_all (opened two) (saves ∷ []) ≡ wrote_none 22 ∷ [])

-- On the bus: an order; an opening of two feeders and one that is refused, N being 0, leave the image; after another order one of one
-- feeder begins anew.
abbrev pub OpeningsOnTheBus : Type 0
OpeningsOnTheBus =
    (in_force one (bus_events (calls first_order ∷ reopens two ∷ reopens (one_feeder 0 100 0) ∷ calls second_order ∷ []))
    ≡ record { beginning = an_opening one; calls = first_order ∷ second_order ∷ [] })
    × (in_force one (bus_events (calls first_order ∷ reopens two ∷ []))
    ≡ record { beginning = an_opening one; calls = first_order ∷ [] })
    × (in_force one (bus_events (calls first_order ∷ reopens (one_feeder 2 50 2) ∷ calls second_order ∷ []))
    ≡ record { beginning = an_opening (one_feeder 2 50 2); calls = second_order ∷ [] })
