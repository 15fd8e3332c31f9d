-- The waiting charges placed under the caps, line by line.
use Rattle.std.specs.Prelude.{◌≡◌, ℕ, zero, suc, ◌+◌, ◌≤◌, ◌<◌, List, length}
use Rattle.rules.specs.Charge.{Charge, waiting_charges}
use Rattle.rules.specs.Search.{Caps}
use Rattle.rules.specs.Priority.{fits_at}
use Rattle.rules.specs.Replan.{Placed, all, by_latest_start, of_line, place_lines, standing}
use Rattle.charges.specs.declared.Charges.{Charges}
use Rattle.charges.specs.Arrays.{charge_at, charges_of}
use Rattle.queues.specs.Queues.{Ordered}
use Rattle.profile.specs.Shows.{Profile, Shows}
use Rattle.search.specs.declared.caps.LineCaps.{LineCaps}
use Rattle.search.specs.Caps.{CapsShown}
use Rattle.planner.specs.declared.Beside.{Beside}
use Rattle.planner.specs.Ready.{terms_of, Spacious, Ready}
use Rattle.planner.specs.Placed.{Missing, PlanShown}
use Rattle.lines.specs.declared.place.Task.{Task}

abbrev pub waiting_of : ℕ → Charges → List Charge
waiting_of clock c = waiting_charges clock (charges_of c)

-- the waiting charges by latest start, then ticket
abbrev pub InOrder : ℕ → Charges → List ℕ → Type 0
InOrder clock c queue = Ordered c (by_latest_start (waiting_of clock c)) queue

-- a profile of what stands while they are placed
abbrev pub ShowsStanding : Task → Profile → Type 0
ShowsStanding k p = Shows p k.beside.clock (standing (terms_of k.beside) k.beside.clock (charges_of k.charges.now))

-- the waiting charges of the first l lines placed beside what stands, as the rules have it
abbrev pub lines_placed : Caps → Beside → Charges → ℕ → Placed
lines_placed cap b c l =
    place_lines (fits_at b.limits.site cap) b.clock (standing (terms_of b) b.clock (charges_of c)) (waiting_of b.clock c) l

-- the caps are those of lines beside the site's limit, and never below the rate of a held charge
pub record Capped (site : ℕ) (c : Charges) (caps : LineCaps) : Type 0 where
  pub cap : Caps
  pub shown : CapsShown caps site cap
  pub enough : (i : ℕ) → i < c.held → (l t : ℕ) → (charge_at c i).rate ≤ cap l t

-- what a round asks: a profile with places for all steps, the waiting charges in their order, and caps
pub record CanPlace (size : ℕ) (k : Task) : Type 0 where
  pub ready : Ready k.beside k.charges.now
  pub space : Spacious k.beside size
  pub in_order : InOrder k.beside.clock k.charges.now k.queue.now
  pub capped : Capped k.beside.limits.site k.charges.now k.caps.now

-- how many charges are on the first l lines
abbrev pub many_up_to : ℕ → List Charge → ℕ
many_up_to zero cs = 0
many_up_to (suc l) cs = many_up_to l cs + length (of_line (suc l) cs)

-- the waiting charges of the first l lines are placed, and none of the further lines is
pub record LinesDone (cap : Caps) (b : Beside) (c : Charges) (l : ℕ) (p : Profile) (by_place : List ℕ) : Type 0 where
  pub placed : List Charge
  pub gives : lines_placed cap b c l ≡ all placed
  pub many : length placed ≡ many_up_to l (waiting_of b.clock c)
  pub plan : PlanShown (terms_of b) b.clock c placed p by_place
  pub later : (i : ℕ) → i < c.held → l < (charge_at c i).line → Missing (charge_at c i).ticket placed

-- the same, whatever caps these are
abbrev pub LinesUnder : Task → ℕ → Profile → List ℕ → Type 0
LinesUnder k l p by_place =
    (cap : Caps) → CapsShown k.caps.now k.beside.limits.site cap → LinesDone cap k.beside k.charges.now l p by_place
