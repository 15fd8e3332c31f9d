-- The starts at the places of the waiting charges, in ticket order.
use mathlib.Core.Path.{◌≡◌, refl, ap, sym, ◌∙◌}
use Prim.Native.Nat.{ℕ, ◌<◌}
use mathlib.Core.List.{List, [], ◌∷◌, map}
use lib.ListN.{length, get_or, length-map}
use Rattle.rules.specs.Basics.{Each}
use Rattle.rules.specs.Charge.{Charge, is_waiting, waiting_charges}
use Rattle.rules.specs.Replan.{starts_in}
use Rattle.charges.specs.declared.Charges.{Charges}
use Rattle.charges.specs.Arrays.{charge_at, charges_of}
use Rattle.charges.specs.Places.{places_where}
use Rattle.charges.proofs.Collecting.{where_below, where_charges}
use Rattle.planner.specs.Starts.{Stored, WaitingStarts}

-- the starts at these places
abbrev pub starts_at : List ℕ → List ℕ → List ℕ
starts_at by_place is = map (λ i. get_or by_place i 0) is

-- of held charges they are those of the placed ones
stored_starts :
    (c : Charges) (by_place : List ℕ) (placed : List Charge)
    → Stored c by_place placed
    → (is : List ℕ)
    → Each (λ i. i < c.held) is
    → starts_in placed (map (charge_at c) is) ≡ starts_at by_place is
stored_starts c by_place placed s [] h = refl
stored_starts c by_place placed s (i ∷ is) h = rw (s i h.0, stored_starts c by_place placed s is h.1)

pub starts_listed :
    {clock : ℕ} {c : Charges} {by_place lent is starts : List ℕ}
    → lent ≡ is
    → is ≡ places_where (is_waiting clock) c
    → starts ≡ starts_at by_place lent
    → WaitingStarts clock c by_place starts
starts_listed {clock} {c} {by_place} {lent} {is} {starts} same e l =
    let waiting : map (charge_at c) lent ≡ waiting_charges clock (charges_of c) = ap (map (charge_at c)) (same ∙ e) ∙ where_charges (is_waiting clock) c in
    record {
      many = ap length l ∙ length-map lent (λ i. get_or by_place i 0) ∙ sym (length-map lent (charge_at c)) ∙ ap length waiting;
      gives = λ placed s.
          ap (starts_in placed) (sym waiting)
          ∙ stored_starts c by_place placed s lent (rw (same, e) (where_below (is_waiting clock) c))
          ∙ sym l;
    }
