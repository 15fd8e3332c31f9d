-- The charges of a line placed one after another: what has been placed and what is left.
use mathlib.Core.Path.{◌≡◌, refl}
use Prim.Native.Nat.{ℕ, suc, ◌+◌, max, ◌≤◌, ◌<◌}
use mathlib.Core.List.{List, [], ◌∷◌, ◌++◌}
use native.Mathlib.Omega.{arith}
use lib.ListN.{length}
use Rattle.rules.specs.Site.{places}
use Rattle.rules.specs.Load.{IsLine, last_until}
use Rattle.rules.specs.Charge.{Charge}
use Rattle.rules.specs.Search.{Caps}
use Rattle.rules.specs.Priority.{Crowd, crowd_of, Pick, chosen, fits_at, picked, total_time, without_ticket}
use Rattle.rules.specs.Replan.{all, place_on, of_line}
use Rattle.rules.proofs.Fitting.{NoneBelow}
use Rattle.charges.specs.declared.Charges.{Charges}
use Rattle.charges.specs.Arrays.{charge_at}
use Rattle.charges.specs.Held.{Listed}
use Rattle.profile.specs.Shows.{Profile}
use Rattle.priority.specs.declared.crowd.Times.{Times}
use Rattle.planner.specs.declared.Beside.{Beside}
use Rattle.planner.specs.Ready.{terms_of, begun_of}
use Rattle.planner.specs.Placed.{Missing, plan_of, PlanShown}
use Rattle.lines.specs.Next.{Bounds}
use Rattle.lines.specs.Lines.{waiting_of, lines_placed, many_up_to}
use Rattle.lines.proofs.Lefts.{left_at, AreLeft}
use Rattle.lines.proofs.Many.{many_room}

-- The crowd of a line

abbrev pub own_crowd : Beside → Charges → ℕ → Crowd
own_crowd b c line = crowd_of (of_line line (waiting_of b.clock c))

-- The rules' pick on a line, after those placed so far

abbrev pub pick_in : Caps → Beside → Charges → ℕ → List Charge → List Charge → Pick
pick_in cap b c line placed rest =
    picked (fits_at b.limits.site cap) b.clock (plan_of (terms_of b) b.clock c placed) (own_crowd b c line) rest

pub place_next :
    (pick : List Charge → List Charge → Pick) (k : ℕ) (placed rest : List Charge) (z : Charge)
    → pick placed rest ≡ chosen z
    → place_on pick (suc k) placed rest ≡ place_on pick k (placed ++ (z ∷ [])) (without_ticket z.ticket rest)
unfolding place_on
place_next pick k placed rest z e = rw (e, place_on)

pub place_end : (pick : List Charge → List Charge → Pick) (placed rest : List Charge) → place_on pick 0 placed rest ≡ all placed
unfolding place_on
place_end pick placed rest = refl

-- a line begins
pub line_begins :
    (cap : Caps) (b : Beside) (c : Charges) (before line : ℕ) (placed : List Charge)
    → line ≡ before + 1
    → lines_placed cap b c before ≡ all placed
    → lines_placed cap b c line
    ≡ place_on (pick_in cap b c line) (length (of_line line (waiting_of b.clock c))) placed (of_line line (waiting_of b.clock c))
line_begins cap b c before line placed e g =
    let next : line ≡ suc before = omega arith in rw (next, g) refl

-- these charges of the line are left
pub record LineSoFar (cap : Caps) (b : Beside) (c : Charges) (line : ℕ) (left : List ℕ) (p : Profile) (by_place : List ℕ)
    (t : Times) (from : ℕ) : Type 0 where
  pub placed : List Charge
  pub rest : List Charge
  pub gives : lines_placed cap b c line ≡ place_on (pick_in cap b c line) (length left) placed rest
  pub are : AreLeft c line left rest
  pub plan : PlanShown (terms_of b) b.clock c placed p by_place
  pub many : length placed + length left ≡ many_up_to line (waiting_of b.clock c)
  pub fresh : (j : ℕ) → j < length left → Missing (left_at c left j).ticket placed
  pub later : (i : ℕ) → i < c.held → line < (charge_at c i).line → Missing (charge_at c i).ticket placed
  pub below : NoneBelow (fits_at b.limits.site cap) b.clock (plan_of (terms_of b) b.clock c placed) rest from
  pub low : b.clock ≤ from
  pub near : from ≤ max b.clock (last_until (plan_of (terms_of b) b.clock c placed))
  pub some : 1 ≤ length left → 1 ≤ total_time (of_line line (waiting_of b.clock c))
  pub bounds : Bounds c left t

module _ {cap : Caps} {b : Beside} {c : Charges} {line : ℕ} {left : List ℕ} {p : Profile} {by_place : List ℕ} {t : Times}
    {from : ℕ} (h : Listed c) (on : IsLine line) (v : LineSoFar cap b c line left p by_place t from) where
  pub line_room : length (begun_of b.clock c) + length v.placed + length left ≤ places
  line_room = omega (arith, v.many, many_room b.clock h line on.high)
