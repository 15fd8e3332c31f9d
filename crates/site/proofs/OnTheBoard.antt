-- A board: feeder by feeder, what one that is not refused is asked, and that its result is that of the rules.
use mathlib.Core.Path.{◌≡◌, refl, ap, sym, subst, ◌∙◌}
use Prim.Native.Nat.{ℕ, ◌+◌, ◌-◌, ◌*◌, ◌≤◌}
use mathlib.Core.Bool.{true, not}
use mathlib.Core.List.{List}
use native.Mathlib.Omega.{arith}
use lib.Dec.{ltb}
use lib.ListN.{length, take, drop, replicate, length-append, length-replicate}
use borrow.Author.Tests.{ltb-false, not-false}
use Rattle.rules.specs.Basics.{first_of}
use Rattle.rules.specs.Site.{State, site_charges}
use Rattle.rules.specs.Calls.{looked, refusals, rises_from, not_held, written, board, step}
use Rattle.rules.proofs.Ranges.{or_left}
use Rattle.rules.proofs.Tables.{NoneHolds}
use Rattle.rules.proofs.Lists.{length_tabulate}
use Rattle.rules.proofs.OnTheBoard.{looked_most}
use Rattle.rules.proofs.Granted.{refusals_none}
use Rattle.charges.specs.Arrays.{charge_at, charges_of}
use Rattle.charges.specs.Held.{Listed}
use Rattle.boards.specs.Board.{CanBoard, Boarded}
use Rattle.boards.proofs.Feeders.{boarded_none, boarded_join, boarded_site}
use Rattle.station.specs.declared.Feeder.{Feeder}
use Rattle.station.specs.declared.Station.{Station}
use Rattle.station.specs.View.{view, Formed, Valid}
use Rattle.station.specs.Given.{Keeps}
use Rattle.station.proofs.Views.{length_among}
use Rattle.station.proofs.Refusing.{call_granted}
use Rattle.station.proofs.Held.{valid_listed}
use Rattle.site.proofs.FromTheLast.{held_from, from_none, Left, left_all, Last}

-- what a board that is not refused is asked
pub record Boardable (asked list : List ℕ) : Type 0 where
  pub rises : rises_from 0 asked ≡ true
  pub room : length asked ≤ length list

pub boardable : (s : State) (asked list : List ℕ) → 0 ≡ first_of (refusals s (board asked list)) → Boardable asked list
boardable s asked list e = go (refusals_none s (board asked list) (sym e))
  where
    go : NoneHolds (refusals s (board asked list)) → Boardable asked list
    go (unfit, (short, end)) =
        record {
          rises = not-false (rises_from 0 asked) (or_left (not (rises_from 0 asked)) (ltb 180 (length asked)) unfit);
          room = ltb-false (length list) (length asked) short;
        }

-- there is room for the answers where none is held yet
room_left : (asked entry : List ℕ) {base : List ℕ} → base ≡ written (replicate (length asked) not_held) entry → length asked ≤ length base
room_left asked entry e =
    let n = length (replicate (length asked) not_held) in
    omega (
      arith,
      ap length e,
      length-append (replicate (length asked) not_held) (drop n entry),
      length-replicate {A = ℕ} (length asked) not_held,
    )

-- all feeders but those that are left have been looked at, from the answers in `base` on
pub record BoardedBehind (s : Station) (rest : List Feeder) (asked base list : List ℕ) (n : ℕ) : Type 0 where
  pub left : Left s rest
  pub same_length : length list ≡ length base
  pub few : n ≤ 180 * (s.count - length rest)
  pub boarded : Boarded (held_from s (length rest)) asked base list n

pub boarded_first :
    (s : Station) (asked base : List ℕ) {rest : List Feeder} {n : ℕ} → Formed s → rest ≡ take s.count s.feeders → n ≡ 0 →
    BoardedBehind s rest asked base base n
boarded_first s asked base w e z =
    rw (e, z)
    (record {
      left = left_all s w;
      same_length = refl;
      few = omega arith;
      boarded = rw (from_none s (length_among s w)) (boarded_none asked base);
    })

pub boarded_last :
    {s : Station} {rest : List Feeder} {asked base list : List ℕ} {n : ℕ} (entry : List ℕ)
    → BoardedBehind s rest asked base list n
    → length rest ≡ 0
    → base ≡ written (replicate (length asked) not_held) entry
    → Boarded (site_charges (view s)) asked (written (replicate (length asked) not_held) entry) list n
boarded_last {s} {rest} {asked} {base} {list} {n} entry r e same =
    subst (λ (l : List ℕ). Boarded (held_from s 0) asked l list n) same
    (subst (λ (j : ℕ). Boarded (held_from s j) asked base list n) e r.boarded)

module _
    (s : Station) (v : Valid s) {rest rest' : List Feeder} {g : Feeder} {asked base list : List ℕ} {n : ℕ}
    (r : BoardedBehind s rest asked base list n) (x : Last s rest g rest') where
  listed : Listed g.charges
  listed = subst (λ (h : Feeder). Listed h.charges) (sym x.is) (valid_listed s v (length rest') x.inside)

  pub feeder_boardable :
      (entry : List ℕ) → rises_from 0 asked ≡ true → base ≡ written (replicate (length asked) not_held) entry → CanBoard g.charges asked list
  feeder_boardable entry up room =
      record {
        rising = listed.rising;
        rises = up;
        room = omega (arith, room_left asked entry room, r.same_length);
      }

  module _ {list' : List ℕ} {m : ℕ} (b : Boarded (charges_of g.charges) asked list list' m) where
    pub board_few : n + m ≤ 180 * (s.count - length rest')
    board_few =
        omega (
          arith,
          r.few,
          x.one_less,
          r.left.few,
          b.looked_at,
          looked_most asked (charges_of g.charges),
          length_tabulate (charge_at g.charges) g.charges.held 0,
          g.charges.few,
        )

    pub boarded_on : {n' : ℕ} → length list' ≡ length list → n' ≡ n + m → BoardedBehind s rest' asked base list' n'
    boarded_on l sum =
        rw sum
        (record {
          left = x.left;
          same_length = l ∙ r.same_length;
          few = board_few;
          boarded =
              let turn : n + m ≡ m + n = omega arith in
              rw (x.held, turn) (boarded_join r.boarded b);
        })

pub call_boarded :
    (s : Station) (asked list : List ℕ) {n : ℕ} {after : List ℕ}
    → 0 ≡ first_of (refusals (view s) (board asked list))
    → Boarded (site_charges (view s)) asked (written (replicate (length asked) not_held) list) after n
    → Keeps (step (view s) (board asked list)) s (looked n) after
call_boarded s asked list e b =
    record { result = sym (boarded_site (view s) asked list b) ∙ call_granted (view s) (board asked list) 0 e refl }
