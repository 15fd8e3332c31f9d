-- The charges at given places, in their order.
use mathlib.Core.Path.{◌≡◌, ap, sym, ◌∙◌}
use Prim.Native.Nat.{ℕ, ◌+◌, ◌<◌}
use mathlib.Core.Bool.{Bool}
use mathlib.Core.List.{List, [], ◌∷◌, ◌++◌, map}
use native.Mathlib.Omega.{arith}
use lib.ListN.{length, get_or, take, length-map}
use lib.Seq.{length-take-le}
use Rattle.std.proofs.lemmas.List.{take_more, map-append}
use Rattle.rules.specs.Basics.{keep}
use Rattle.rules.specs.Charge.{Charge}
use Rattle.rules.proofs.Lists.{length_tabulate}
use Rattle.charges.specs.declared.Charges.{Charges}
use Rattle.charges.specs.Arrays.{charge_at, charges_of, Columns, Holds}
use Rattle.charges.specs.Places.{places_where}
use Rattle.charges.proofs.Members.{keep_whole}
use Rattle.charges.proofs.Collecting.{where_charges, where_many}

-- one more charge, behind those at the first k places
module _ (c : Charges) (is : List ℕ) (k : ℕ) {r : Charges} (before : Holds (map (charge_at c) (take k is)) r) (below : k < length is) where
  pub held_so_far : r.held ≡ k
  held_so_far =
      sym (length_tabulate (charge_at r) r.held 0) ∙ ap length before.charges
      ∙ omega (arith, length-map (take k is) (charge_at c), length-take-le k is (omega arith))

  pub holds_next :
      {x : Charge} {next : Charges}
      → x ≡ charge_at c (get_or is k 0)
      → charges_of next ≡ charges_of r ++ (x ∷ [])
      → (Columns r → Columns next)
      → Holds (map (charge_at c) (take (k + 1) is)) next
  holds_next e h columns =
      record {
        charges = h ∙ rw (before.charges, e, take_more is k 0 below, map-append (charge_at c) (take k is) (get_or is k 0 ∷ []));
        columns = columns before.columns;
      }

-- the charges at the places of those that pass a test
pub holds_where :
    (f : Charge → Bool) (c : Charges) (is : List ℕ) {r : Charges}
    → is ≡ places_where f c
    → Holds (map (charge_at c) is) r
    → Holds (keep f (charges_of c)) r
holds_where f c is e h =
    record { charges = h.charges ∙ ap (map (charge_at c)) e ∙ where_charges f c; columns = h.columns }

-- where as many pass as are held, these are those held
pub holds_all :
    (f : Charge → Bool) (c : Charges) (is : List ℕ)
    → Columns c
    → is ≡ places_where f c
    → length is ≡ c.held
    → Holds (keep f (charges_of c)) c
holds_all f c is v e n =
    record {
      charges = sym (keep_whole f (charges_of c) (omega (arith, ap length e, where_many f c, n, length_tabulate (charge_at c) c.held 0)));
      columns = v;
    }
