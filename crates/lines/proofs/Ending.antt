-- A line ends with none of its charges left, and a round with the last line.
use mathlib.Core.Path.{◌≡◌, refl, ◌∙◌}
use Prim.Native.Nat.{ℕ}
use mathlib.Core.List.{List}
use native.Mathlib.Omega.{arith}
use lib.ListN.{length}
use Rattle.std.specs.declared.option.Option.{Option}
use Rattle.std.specs.declared.option.Option.TheVariants.{Some, None}
use Rattle.rules.specs.Search.{Caps}
use Rattle.charges.specs.declared.Charges.{Charges}
use Rattle.charges.specs.Held.{Listed}
use Rattle.profile.specs.Shows.{Profile}
use Rattle.priority.specs.declared.crowd.Times.{Times}
use Rattle.planner.specs.declared.Beside.{Beside}
use Rattle.planner.specs.Ready.{terms_of}
use Rattle.planner.specs.Placed.{AllPlaced}
use Rattle.lines.specs.declared.place.Task.{Task}
use Rattle.lines.specs.Lines.{lines_placed, LinesDone, LinesUnder}
use Rattle.lines.proofs.Many.{many_room}
use Rattle.lines.proofs.LinePlans.{pick_in, place_end, LineSoFar}

module _ {cap : Caps} {b : Beside} {c : Charges} {line : ℕ} {left : List ℕ} {p : Profile} {by_place : List ℕ} {t : Times}
    {from : ℕ} (v : LineSoFar cap b c line left p by_place t from) where
  pub line_done : length left ≡ 0 → LinesDone cap b c line p by_place
  line_done e =
      record {
        placed = v.placed;
        gives = v.gives ∙ rw e (place_end (pick_in cap b c line) v.placed v.rest);
        many = omega (arith, v.many);
        plan = v.plan;
        later = v.later;
      }

-- what is no value is none
pub is_none : {A : Type 0} (o : Option A) → ((x : A) → o ≡ Some x → ⊥) → o ≡ None
is_none None h = refl
is_none (Some x) h = absurd (h x refl)

-- so many lines, however the number is written
pub lines_same :
    (k : Task) {m l : ℕ} {p : Profile} {by_place : List ℕ} → LinesUnder k m p by_place
    → m ≡ l
    → LinesUnder k l p by_place
lines_same k d e = λ cap shown. rw e at (d cap shown)

pub lines_end :
    {cap : Caps} {b : Beside} {c : Charges} {p : Profile} {by_place : List ℕ} → Listed c → LinesDone cap b c 3 p by_place
    → AllPlaced (lines_placed cap b c 3) (terms_of b) b.clock c p by_place
lines_end {b = b} h d =
    record {
      placed = d.placed;
      gives = d.gives;
      few = omega (arith, d.many, many_room b.clock h 3 (omega arith));
      plan = d.plan;
    }
