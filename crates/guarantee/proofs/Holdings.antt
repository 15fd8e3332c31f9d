-- All charges of the site that calls leave: the unfinished ones of the history.
use mathlib.Core.Logic.{◌⊎◌, inl, inr}
use mathlib.Core.Path.{◌≡◌, refl, sym}
use Prim.Native.Nat.{ℕ, zero, suc, ◌+◌, ◌≤◌, ◌<◌}
use mathlib.Core.Bool.{Bool, true, false, cond}
use mathlib.Core.List.{List, [], ◌∷◌, ◌++◌}
use native.Mathlib.Omega.{arith}
use lib.ListN.{length}
use borrow.Author.Tests.{eq-eqb, ne_eqb}
use Rattle.rules.specs.Basics.{Each, tabulate, keep}
use Rattle.rules.specs.Charge.{Charge, is_finished, unfinished_charges}
use Rattle.rules.specs.Site.{Feeder, State, feeder_of, joined, site_charges}
use Rattle.rules.proofs.Ranges.{below_or_not}
use Rattle.rules.proofs.Sorting.{Inserted, here, later, Rearranged, none, more}
use Rattle.guarantee.proofs.History.{Booked, is_on, booked_on, charges_in, Fit}
use Rattle.guarantee.proofs.Held.{holds, station_of}

inserted_behind : (c : Charge) (l m p : List Charge) → Inserted c l m → Inserted c (p ++ l) (p ++ m)
inserted_behind c l m [] i = i
inserted_behind c l m (x ∷ p) i = later (inserted_behind c l m p i)

joined_same :
    (F G : ℕ → Feeder) (n i : ℕ)
    → ((j : ℕ) → i ≤ j → (G j).charges ≡ (F j).charges)
    → joined (tabulate G n i) ≡ joined (tabulate F n i)
joined_same F G zero i h = refl
joined_same F G (suc n) i h =
    rw (h i (omega arith), joined_same F G n (suc i) (λ j l. h j (omega arith)))

joined_nothing : (F : ℕ → Feeder) (n i : ℕ) → ((j : ℕ) → (F j).charges ≡ []) → joined (tabulate F n i) ≡ []
joined_nothing F zero i h = refl
joined_nothing F (suc n) i h = rw (h i, joined_nothing F n (suc i) h)

-- one charge more on feeder f
joined-more :
    (F G : ℕ → Feeder) (f : ℕ) (c : Charge) (n i : ℕ)
    → i ≤ f
    → f < i + n
    → (G f).charges ≡ c ∷ (F f).charges
    → ((j : ℕ) → (j ≡ f → ⊥) → (G j).charges ≡ (F j).charges)
    → Inserted c (joined (tabulate F n i)) (joined (tabulate G n i))
joined-more F G f c zero i low high own others = absurd (omega arith)
joined-more F G f c (suc n) i low high own others =
    go (below_or_not i f) (λ h. joined-more F G f c n (suc i) h (omega arith) own others)
  where
    go :
        (i < f) ⊎ (f ≤ i)
        → (suc i ≤ f → Inserted c (joined (tabulate F n (suc i))) (joined (tabulate G n (suc i))))
        → Inserted c ((F i).charges ++ joined (tabulate F n (suc i))) ((G i).charges ++ joined (tabulate G n (suc i)))
    go (inl h) rest =
        rw (others i (λ e. omega arith))
        (inserted_behind c (joined (tabulate F n (suc i))) (joined (tabulate G n (suc i))) (F i).charges (rest h))
    go (inr h) rest =
        let e : i ≡ f = omega arith in
        rw (e, own, joined_same F G n (suc f) (λ j l. others j (λ q. omega arith))) here

finished_holds :
    (x : ℕ → Feeder) (k : ℕ) (b : Booked) (bs : List Booked)
    → is_finished k b.charge ≡ true
    → (j : ℕ)
    → (holds x k (b ∷ bs) j).charges ≡ (holds x k bs j).charges
finished_holds x k b bs p j = either (is_on j b)
  where
    either :
        (t : Bool)
        → unfinished_charges k (charges_in (cond t (b ∷ keep (is_on j) bs) (keep (is_on j) bs)))
        ≡ unfinished_charges k (booked_on j bs)
    either true = rw p
    either false = refl

-- they are the unfinished charges of the history, and no other
pub station_site_lem :
    (s : State) (k n : ℕ) (hs : List Booked)
    → Each (Fit s k) hs
    → Rearranged (unfinished_charges k (charges_in hs)) (site_charges (station_of s k n hs))
station_site_lem s k n [] e = rw (joined_nothing (holds (feeder_of s) k []) (length s.feeders) 1 (λ j. refl)) none
station_site_lem s k n (b ∷ bs) e = go (is_finished k b.charge) refl (station_site_lem s k n bs e.1)
  where
    go :
        (t : Bool)
        → is_finished k b.charge ≡ t
        → Rearranged (unfinished_charges k (charges_in bs)) (site_charges (station_of s k n bs))
        → Rearranged (unfinished_charges k (charges_in (b ∷ bs))) (site_charges (station_of s k n (b ∷ bs)))
    go true p r =
        rw (
          p,
          joined_same (holds (feeder_of s) k bs) (holds (feeder_of s) k (b ∷ bs)) (length s.feeders) 1
              (λ j h. finished_holds (feeder_of s) k b bs p j),
        ) r
    go false p r =
        rw p
        (more r
        (joined-more (holds (feeder_of s) k bs) (holds (feeder_of s) k (b ∷ bs)) b.feeder b.charge (length s.feeders) 1
        e.0.is_feeder_lem.low (omega (arith, e.0.is_feeder_lem.high))
        (rw (eq-eqb b.feeder b.feeder refl, p))
        (λ j d. rw (ne_eqb b.feeder j (λ q. d (sym q))))))
