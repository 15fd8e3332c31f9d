-- What a board shows at each place of the answer list, and how many charges it looks at.
use Rattle.std.specs.Prelude.{◌≡◌, ℕ, ◌≤◌, ◌<◌, false, List, length, get_or, ◌↔◌}
use Rattle.rules.specs.Basics.{keep, some}
use Rattle.rules.specs.Charge.{Charge, has_ticket}
use Rattle.rules.specs.Site.{State, site_charges}
use Rattle.rules.specs.Calls.{not_held, start_or_not_held, is_looked_at, boarding}
use Rattle.rules.specs.Valid.{ValidState}

-- At the place of each ticket that is asked for stands the start of its charge, or 4,294,967,295 where it is not held.
abbrev pub TicketsAreShown : Type 0
TicketsAreShown =
    (s : State) (asked list : List ℕ) (i : ℕ)
    → i < length asked
    → get_or (boarding s asked list).list i 0 ≡ start_or_not_held (site_charges s) (get_or asked i 0)

-- Later places of the answer list are kept.
abbrev pub LaterPlacesAreKept : Type 0
LaterPlacesAreKept =
    (s : State) (asked list : List ℕ) (i : ℕ)
    → length asked ≤ i
    → length asked ≤ length list
    → get_or (boarding s asked list).list i 0 ≡ get_or list i 0

-- On a valid station 4,294,967,295 stands exactly where no held charge has the ticket, for no start comes near it.
abbrev pub NotHeldIsShownExactly : Type 0
NotHeldIsShownExactly =
    (s : State) (t : ℕ)
    → ValidState s
    → (start_or_not_held (site_charges s) t ≡ not_held) ↔ (some (has_ticket t) (site_charges s) ≡ false)

-- Never more charges are looked at than are held.
abbrev pub LookedIsAtMostTheHeld : Type 0
LookedIsAtMostTheHeld = (asked : List ℕ) (cs : List Charge) → length (keep (is_looked_at asked) cs) ≤ length cs
