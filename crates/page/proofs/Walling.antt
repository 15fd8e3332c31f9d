-- What is printed of an image, and that the numbers of a valid station of one feeder fit their columns.
use mathlib.Core.Logic.{⊎_elim}
use mathlib.Core.Path.{◌≡◌, sym, ap, ◌∙◌}
use Prim.Native.Nat.{◌+◌, ◌-◌, ◌*◌, ◌≤◌}
use native.Mathlib.Omega.{arith}
use lib.ListN.{length, take}
use lib.Seq.{length-take-le, take_all}
use borrow.Author.Tests.{eq-eqb, ne_eqb}
use Rattle.rules.specs.Charge.{Charge, end_of}
use Rattle.rules.specs.Site.{State}
use Rattle.rules.specs.Valid.{ValidCharge, ValidState}
use Rattle.rules.proofs.Ranges.{below_or_not}
use Rattle.rules.proofs.Lists.{each_map, each_both}
use Rattle.layout.specs.Image.{only, image_of}
use Rattle.layout.specs.Reading.{restore_refusal}
use Rattle.layout.proofs.Single.{first-is, ends_only}
use Rattle.layout.proofs.Refusing.{refused_length}
use Rattle.layout.proofs.RoundTrip.{restored_saved, image_accepted}
use Rattle.page.specs.Pages.{pages_of, wall}
use Rattle.page.specs.Lined.{ChargeFits}
use Rattle.page.specs.LawsOfPages.{NumbersFitColumns}
use Rattle.page.specs.LawsOfWalls.{RefusedPrintsNoStation, AcceptedIsPrinted, SavedIsPrinted, OtherLengthPrintsNoStation, FirstBytesTell}

module _ (s : State) (one : length s.feeders ≡ 1) (v : ValidState s) where
  abbrev Valid : Charge → Type 0
  Valid c = ValidCharge (only s) s.site s.clock s.next c

  abbrev EndsBy : Charge → Type 0
  EndsBy c = end_of c ≤ s.clock + 1445 * (s.next - 1)

  charge_fits : (c : Charge) → Valid c × EndsBy c → ChargeFits c
  charge_fits c w =
      record {
        ticket_small = omega (arith, w.0.ticket_given, v.next_high);
        line_small = omega (arith, w.0.line);
        start_small = omega (arith, w.1, v.clock_high, v.next_high);
        time_small = w.0.time_high;
        active_small = omega (arith, w.0.active, w.0.time_high, (v.settings 1 (first-is s one)).tail_high);
      }

pub valid_fits : NumbersFitColumns
valid_fits s one v =
    each_map (λ c. Valid s one v c × EndsBy s one v c) ChargeFits (charge_fits s one v) (only s).charges
    (each_both (Valid s one v) (EndsBy s one v) (only s).charges (v.plan 1 (first-is s one)).each (ends_only s one v))

-- The program's whole output

pub wall_refused : RefusedPrintsNoStation
unfolding wall
wall_refused image h = rw (ne_eqb (restore_refusal image) 0 h)

pub wall_accepted : AcceptedIsPrinted
unfolding wall
wall_accepted image h = rw (eq-eqb (restore_refusal image) 0 h)

pub wall_saved : SavedIsPrinted
wall_saved s one v =
    wall_accepted (image_of s) (image_accepted s one v) ∙ ap (λ r. pages_of r.state) (restored_saved s one v)

pub wall_length : OtherLengthPrintsNoStation
wall_length image h = wall_refused image (λ e. omega (arith, refused_length image h))

pub wall_first : FirstBytesTell
wall_first n input h =
    ⊎_elim
    (λ l.
    let e : length (take n input) ≡ n = length-take-le n input (omega arith) in
    wall_length (take n input) (λ f. omega arith) ∙ sym (wall_length input (λ f. omega arith)))
    (λ l. ap wall (take_all n input l))
    (below_or_not n (length input))
