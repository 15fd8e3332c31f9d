-- The report over several feeders, from the last one to the first: the pairs in the list are those of the rules.
use mathlib.Core.Path.{◌≡◌, refl, ap, sym, ◌∙◌}
use Prim.Native.Nat.{ℕ, zero, suc, ◌+◌, ◌*◌, ◌≤◌}
use mathlib.Core.Bool.{true}
use mathlib.Core.List.{List, [], ◌∷◌, ◌++◌, map}
use native.Mathlib.Omega.{arith}
use lib.ListN.{length, get_or, drop, length-append, length-drop, length-map}
use Rattle.rules.specs.Charge.{Charge}
use Rattle.rules.specs.Site.{Feeder, joined}
use Rattle.rules.specs.Calls.{start_before, reported, pairs, written}
use Rattle.rules.proofs.Lists.{map-append}
use Rattle.rules.proofs.Sorting.{length-sorted}
use Rattle.rules.proofs.Queues.{Distinct}
use Rattle.charges.specs.declared.Charges.{Charges}
use Rattle.charges.specs.Arrays.{charge_at, charges_of}
use Rattle.charges.proofs.Words.{map_is}
use Rattle.queues.specs.Queues.{Ordered}
use Rattle.queues.specs.Reports.{pair_at, pairs_in, together, CanReport}
use Rattle.queues.proofs.EveryTwo.{two_map, two_left, two_right, two_places}
use Rattle.queues.proofs.Together.{reported_order_lem, reported_together}
use Rattle.queues.proofs.Pairs.{length_pairs, written_over, bare, pairs_sorted, pairs_told}

pub distinct_from : (gs : List Feeder) (k : ℕ) → Distinct (joined gs) → Distinct (joined (drop k gs))
distinct_from gs zero d = d
distinct_from [] (suc k) d = d
distinct_from (g ∷ gs) (suc k) d = distinct_from gs k (two_right (λ a b. a.ticket ≡ b.ticket → ⊥) g.charges (joined gs) d)

-- the charges of some feeders that a clock move passes stand in the list
pub record Reports (clock target : ℕ) (cs : List Charge) (entry list : List ℕ) (n : ℕ) : Type 0 where
  pub as_many : n ≡ length (reported clock target cs)
  pub list_is : list ≡ written (pairs (reported clock target cs)) entry

pub reports_none : (clock target : ℕ) (entry : List ℕ) → Reports clock target [] entry entry 0
reports_none clock target entry = record { as_many = refl; list_is = refl }

module _
    {clock target : ℕ} {c : Charges} {is : List ℕ} {cs : List Charge} {entry list : List ℕ} {n : ℕ}
    (o : Ordered c (reported clock target (charges_of c)) is) (d : Distinct (charges_of c ++ cs))
    (v : Reports clock target cs entry list n) (room : 2 * (n + length is) ≤ length entry) where
  abbrev before : List Charge
  before = reported clock target cs

  abbrev here : List Charge
  here = reported clock target (charges_of c)

  size : length (pairs before) ≡ 2 * n
  size = length_pairs before ∙ omega (arith, v.as_many)

  as_many_here : length is ≡ length here
  as_many_here = sym (length-map is (charge_at c)) ∙ ap length o.charges

  stand : pairs_in list n ≡ map bare before
  stand = rw (v.list_is, v.as_many) (pairs_told before (drop (length (pairs before)) entry))

  pub can_report : CanReport c is list n
  can_report =
      record {
        places = o.places;
        room =
            omega (
              arith,
              room,
              size,
              ap length v.list_is,
              length-append (pairs before) (drop (length (pairs before)) entry),
              length-drop (length (pairs before)) entry,
            );
        here =
            two_places (λ a b. start_before a b ≡ true) (λ j. charge_at c (get_or is j 0)) (length is)
            (rw (← (map_is (charge_at c) is), o.charges)
            (reported_order_lem clock target (charges_of c) (two_left (λ a b. a.ticket ≡ b.ticket → ⊥) (charges_of c) cs d)));
        before =
            two_places (λ a b. start_before a b ≡ true) (pair_at list) n
            (rw stand
            (two_map bare (λ a b. start_before a b ≡ true) before
            (reported_order_lem clock target cs (two_right (λ a b. a.ticket ≡ b.ticket → ⊥) (charges_of c) cs d))));
      }

  pub reports_join :
      {list' : List ℕ} {n' : ℕ}
      → list' ≡ written (pairs (together c is list n)) list
      → n' ≡ n + length is
      → Reports clock target (charges_of c ++ cs) entry list' n'
  reports_join {list'} {n'} e m =
      record {
        as_many = m ∙ sym all;
        list_is =
            e
            ∙ rw (same, v.list_is)
            (written_over (pairs before) (pairs (reported clock target (charges_of c ++ cs))) entry
            (omega (arith, size, all, length_pairs (reported clock target (charges_of c ++ cs))))
            (omega (arith, size, room)));
      }
    where
      all : length (reported clock target (charges_of c ++ cs)) ≡ n + length is
      all =
          ap length (sym (reported_together clock target (charges_of c) cs d))
          ∙ length-sorted start_before (here ++ before)
          ∙ length-append here before
          ∙ omega (arith, v.as_many, as_many_here)

      same : pairs (together c is list n) ≡ pairs (reported clock target (charges_of c ++ cs))
      same =
          rw (o.charges, stand)
          (pairs_sorted (here ++ map bare before) (here ++ before)
          (rw (map-append bare here (map bare before), map-append bare here before) (ap (λ l. map bare here ++ l) (twice before)))
          ∙ ap pairs (reported_together clock target (charges_of c) cs d))
        where
          twice : (xs : List Charge) → map bare (map bare xs) ≡ map bare xs
          twice [] = refl
          twice (x ∷ xs) = ap (λ l. bare x ∷ l) (twice xs)
