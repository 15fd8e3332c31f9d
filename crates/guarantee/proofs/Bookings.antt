-- What a site holds, as a history: each charge with the feeder that holds it.
use mathlib.Core.Path.{◌≡◌, refl, subst}
use Prim.Native.Nat.{ℕ, zero, suc, ◌+◌, ◌-◌, ◌<◌}
use mathlib.Core.List.{List, [], ◌∷◌, ◌++◌, map, append-nil}
use native.Mathlib.Omega.{arith}
use lib.ListN.{length, get_or}
use borrow.Author.Tests.{eq-eqb, ne_eqb}
use Rattle.rules.specs.Basics.{Each, keep}
use Rattle.rules.specs.Charge.{Charge}
use Rattle.rules.specs.Site.{Feeder, State, no_feeder, charges_on, joined}
use Rattle.rules.specs.Valid.{IsFeeder}
use Rattle.rules.proofs.Ranges.{along}
use Rattle.rules.proofs.Lists.{map-append, keep_append, each_append}
use Rattle.rules.proofs.Sites.{place_number, number_place}
use Rattle.guarantee.specs.Past.{orders_from}
use Rattle.guarantee.proofs.Each.{each_image}
use Rattle.guarantee.proofs.History.{Booked, booked, order_in, orders_in, charges_in, is_on, booked_on}

-- the charges of some feeders, the first of them being number i
abbrev pub booked_from : ℕ → List Feeder → List Booked
booked_from i [] = []
booked_from i (g ∷ gs) = map (booked i) g.charges ++ booked_from (suc i) gs

-- what a site holds
abbrev pub booked_in : State → List Booked
booked_in s = booked_from 1 s.feeders

map_booked : {A : Type 0} (h : Booked → A) (i : ℕ) (cs : List Charge) → map h (map (booked i) cs) ≡ map (λ c. h (booked i c)) cs
map_booked h i [] = refl
map_booked h i (c ∷ cs) = rw (map_booked h i cs)

pub booked_orders : (i : ℕ) (gs : List Feeder) → orders_in (booked_from i gs) ≡ orders_from i gs
booked_orders i [] = refl
booked_orders i (g ∷ gs) =
    rw (
      map-append order_in (map (booked i) g.charges) (booked_from (suc i) gs),
      map_booked order_in i g.charges,
      booked_orders (suc i) gs,
    )

map_same : (cs : List Charge) → map (λ c. c) cs ≡ cs
map_same [] = refl
map_same (c ∷ cs) = rw (map_same cs)

pub booked_charges : (i : ℕ) (gs : List Feeder) → charges_in (booked_from i gs) ≡ joined gs
booked_charges i [] = refl
booked_charges i (g ∷ gs) =
    rw (
      map-append (λ (b : Booked). b.charge) (map (booked i) g.charges) (booked_from (suc i) gs),
      map_booked (λ (b : Booked). b.charge) i g.charges,
      map_same g.charges,
      booked_charges (suc i) gs,
    )

-- the charges of one feeder, by its number
own_booked : (i : ℕ) (cs : List Charge) → booked_on i (map (booked i) cs) ≡ cs
own_booked i [] = refl
own_booked i (c ∷ cs) = rw (eq-eqb i i refl, own_booked i cs)

other_booked : (f i : ℕ) (cs : List Charge) → (i ≡ f → ⊥) → keep (is_on f) (map (booked i) cs) ≡ []
other_booked f i [] d = refl
other_booked f i (c ∷ cs) d = rw (ne_eqb i f d) (other_booked f i cs d)

before_booked : (f i : ℕ) (gs : List Feeder) → f < i → keep (is_on f) (booked_from i gs) ≡ []
before_booked f i [] h = refl
before_booked f i (g ∷ gs) h =
    rw (
      keep_append (is_on f) (map (booked i) g.charges) (booked_from (suc i) gs),
      other_booked f i g.charges (λ e. omega arith),
      before_booked f (suc i) gs (omega arith),
    )

booked_by_number :
    (f i j : ℕ) (gs : List Feeder) → f ≡ i + j → booked_on f (booked_from i gs) ≡ (get_or gs j no_feeder).charges
booked_by_number f i j [] e = refl
booked_by_number f i zero (g ∷ gs) e =
    let same : f ≡ i = omega arith in
    rw (
      same,
      keep_append (is_on i) (map (booked i) g.charges) (booked_from (suc i) gs),
      before_booked i (suc i) gs (omega arith),
      append-nil (keep (is_on i) (map (booked i) g.charges)),
    )
    (own_booked i g.charges)
booked_by_number f i (suc j) (g ∷ gs) e =
    rw (
      keep_append (is_on f) (map (booked i) g.charges) (booked_from (suc i) gs),
      other_booked f i g.charges (λ q. omega arith),
    )
    (booked_by_number f (suc i) j gs (omega arith))

pub booked_on_lem : (s : State) (f : ℕ) → IsFeeder s f → booked_on f (booked_in s) ≡ charges_on s f
booked_on_lem s f h = booked_by_number f 1 (f - 1) s.feeders (omega (arith, h.low))

-- what each charge has, with its feeder
each_from :
    (P : Booked → Type 0) (i : ℕ) (gs : List Feeder)
    → ((j : ℕ) → j < length gs → Each (λ c. P (booked (i + j) c)) (get_or gs j no_feeder).charges)
    → Each P (booked_from i gs)
each_from P i [] h = tt
each_from P i (g ∷ gs) h =
    each_append P (map (booked i) g.charges) (booked_from (suc i) gs)
    (each_image P (booked i) g.charges (subst (λ (k : ℕ). Each (λ c. P (booked k c)) g.charges) (nothing_more i) (h 0 (omega arith))))
    (each_from P (suc i) gs
    (λ j l. subst (λ (k : ℕ). Each (λ c. P (booked k c)) (get_or gs j no_feeder).charges) (along i j) (h (suc j) (omega arith))))
  where
    nothing_more : (i : ℕ) → i + 0 ≡ i
    nothing_more i = omega arith

pub booked_each :
    (s : State) (P : Booked → Type 0)
    → ((f : ℕ) → IsFeeder s f → Each (λ c. P (booked f c)) (charges_on s f))
    → Each P (booked_in s)
booked_each s P h =
    each_from P 1 s.feeders
    (λ j l.
    subst (λ (x : Feeder). Each (λ c. P (booked (1 + j) c)) x.charges) (number_place s j)
    (subst (λ (f : ℕ). Each (λ c. P (booked f c)) (charges_on s (suc j))) (one_more j) (h (suc j) (place_number s j l))))
  where
    one_more : (j : ℕ) → suc j ≡ 1 + j
    one_more j = omega arith
