-- Demand 2 is false of the stations of specs/WrongBoards.antt, each on one board. Tickets 1, 3 and 4 are held, with starts 0, 2
-- and 12, and 1 to 3 are asked for.
use mathlib.Core.Path.{◌≡◌, refl, ap}
use Prim.Native.Nat.{ℕ}
use mathlib.Core.List.{List, map}
use native.Mathlib.Omega.{arith}
use lib.ListN.{get_or}
use Rattle.rules.specs.Site.{State}
use Rattle.rules.specs.Calls.{looked, enquire, board, written, enquiring, boarding}
use Rattle.rules.proofs.Granted.{refusals_none}
use Rattle.guarantee.specs.Past.{Gives}
use Rattle.guarantee.specs.DemandTwo.{shown_by, DemandTwo}
use Rattle.excluded.specs.WrongBoards.{asked_counted, zero_for_not_held, stops_at_not_held, later_cleared, board_takes_ticket}
use Rattle.excluded.specs.Stations.{begun_and_waiting}
use Rattle.excluded.specs.BreaksTwoBoards.{asked, list}
use Rattle.excluded.specs.LawsOfWrongPlans.{WrongBoardsAreExcluded}

-- `answer`: two charges have a ticket up to 3, and three tickets are asked for
asked_counted_lem : DemandTwo asked_counted begun_and_waiting → ⊥
unfolding boarding
asked_counted_lem d =
    let h : looked 3 ≡ looked 2 = (d.boards asked list).answer (refusals_none begun_and_waiting (board asked list) refl) in
    let z : ◌≡◌ {A = ℕ} 3 2 = cc in
    omega arith

-- what demand 2 says of place i of the list
shown_at :
    (gives : Gives) (i : ℕ)
    → DemandTwo gives begun_and_waiting
    → get_or (gives begun_and_waiting (board asked list)).list i 0
    ≡ get_or (written (map (λ t. shown_by (gives begun_and_waiting (enquire t)).answer) asked) list) i 0
shown_at gives i d =
    ap (λ (l : List ℕ). get_or l i 0) ((d.boards asked list).shown (refusals_none begun_and_waiting (board asked list) refl))

-- `shown`: ticket 2 is not held
zero_for_not_held_lem : DemandTwo zero_for_not_held begun_and_waiting → ⊥
unfolding enquiring boarding
zero_for_not_held_lem d = let h : ◌≡◌ {A = ℕ} 0 4294967295 = shown_at zero_for_not_held 1 d in omega arith

-- `shown`: nothing is written for tickets 2 and 3
stops_at_not_held_lem : DemandTwo stops_at_not_held begun_and_waiting → ⊥
unfolding enquiring boarding
stops_at_not_held_lem d = let h : ◌≡◌ {A = ℕ} 7 2 = shown_at stops_at_not_held 2 d in omega arith

-- `shown`: the fourth place
later_cleared_lem : DemandTwo later_cleared begun_and_waiting → ⊥
unfolding enquiring boarding
later_cleared_lem d = let h : ◌≡◌ {A = ℕ} 0 7 = shown_at later_cleared 3 d in omega arith

-- `same_station`
board_takes_ticket_lem : DemandTwo board_takes_ticket begun_and_waiting → ⊥
unfolding boarding
board_takes_ticket_lem d =
    let h : ◌≡◌ {A = ℕ} 6 5 = ap (λ (s : State). s.next) (d.boards asked list).same_station in
    omega arith

pub boards_excluded : WrongBoardsAreExcluded
boards_excluded = (
  asked_counted_lem,
  zero_for_not_held_lem,
  stops_at_not_held_lem,
  later_cleared_lem,
  board_takes_ticket_lem,
)
