-- Charges in another order: the same members, also of those that pass a test, and the same summed time.
use mathlib.Core.Path.{◌≡◌, refl, ap}
use Prim.Native.Nat.{ℕ, ◌+◌, ◌<◌}
use mathlib.Core.Bool.{Bool, true, false, cond}
use mathlib.Core.List.{List, [], ◌∷◌, map}
use Rattle.std.specs.List.{sum_by}
use Rattle.std.proofs.lemmas.List.Sums.{sum_by-cons}
use native.Mathlib.Omega.{arith}
use Rattle.rules.specs.Basics.{Each, tabulate, keep}
use Rattle.rules.specs.Charge.{Charge}
use Rattle.rules.specs.Priority.{total_time}
use Rattle.rules.proofs.Lists.{each_map, each_keep, each_tabulate, tabulate_each}
use Rattle.rules.proofs.Sorting.{Inserted, here, later, Rearranged, none, more, each_rearranged}
use Rattle.rules.proofs.Picking.{Among, front, behind, among_each}

-- Members

pub each_self : (l : List Charge) → Each (λ x. Among x l) l
each_self [] = tt
each_self (a ∷ l) = (front, each_map (λ x. Among x l) (λ x. Among x (a ∷ l)) (λ x m. behind m) l (each_self l))

pub each_among : (P : Charge → Type 0) (l : List Charge) → ((x : Charge) → Among x l → P x) → Each P l
each_among P l h = each_map (λ x. Among x l) P h l (each_self l)

pub among_kept : (f : Charge → Bool) {x : Charge} {l : List Charge} → Among x l → f x ≡ true → Among x (keep f l)
among_kept f front e = rw e front
among_kept f {x} (behind {d = d} {l = l} m) e = go (f d) (among_kept f m e)
  where
    go : (b : Bool) → Among x (keep f l) → Among x (cond b (d ∷ keep f l) (keep f l))
    go true r = behind r
    go false r = r

pub among_passes : (f : Charge → Bool) {x : Charge} (l : List Charge) → Among x (keep f l) → f x ≡ true
among_passes f l m = (among_each (λ y. Among y l × (f y ≡ true)) m (each_keep (λ y. Among y l) f l (each_self l))).1

among_first : {a : Charge} {l m : List Charge} → Inserted a l m → Among a m
among_first here = front
among_first (later i) = behind (among_first i)

among_more : {a x : Charge} {l m : List Charge} → Inserted a l m → Among x l → Among x m
among_more here k = behind k
among_more (later i) front = front
among_more (later i) (behind k) = behind (among_more i k)

pub among_to : {x : Charge} {l m : List Charge} → Rearranged l m → Among x l → Among x m
among_to none k = k
among_to (more r i) front = among_first i
among_to (more r i) (behind k) = among_more i (among_to r k)

pub among_back : {x : Charge} {l m : List Charge} → Rearranged l m → Among x m → Among x l
among_back {l = l} r k = among_each (λ y. Among y l) k (each_rearranged (λ y. Among y l) r (each_self l))

-- Those that pass a test

keep_inserted :
    (f : Charge → Bool) {a : Charge} {l m : List Charge} → Inserted a l m → f a ≡ true → Inserted a (keep f l) (keep f m)
keep_inserted f here e = rw e here
keep_inserted f {a} (later {b = b} {l = l} {m = m} i) e = go (f b) (keep_inserted f i e)
  where
    go :
        (t : Bool) → Inserted a (keep f l) (keep f m)
        → Inserted a (cond t (b ∷ keep f l) (keep f l)) (cond t (b ∷ keep f m) (keep f m))
    go true r = later r
    go false r = r

keep_dropped :
    (f : Charge → Bool) {a : Charge} {l m : List Charge} → Inserted a l m → f a ≡ false → keep f m ≡ keep f l
keep_dropped f here e = rw e refl
keep_dropped f {a} (later {b = b} {l = l} {m = m} i) e = go (f b) (keep_dropped f i e)
  where
    go : (t : Bool) → keep f m ≡ keep f l → cond t (b ∷ keep f m) (keep f m) ≡ cond t (b ∷ keep f l) (keep f l)
    go true r = ap (λ k. b ∷ k) r
    go false r = r

pub keep_rearranged : (f : Charge → Bool) {l m : List Charge} → Rearranged l m → Rearranged (keep f l) (keep f m)
keep_rearranged f none = none
keep_rearranged f (more {a = a} {l = l} {m = m} {n = n} r i) = go (f a) refl (keep_rearranged f r)
  where
    go : (t : Bool) → f a ≡ t → Rearranged (keep f l) (keep f m) → Rearranged (cond t (a ∷ keep f l) (keep f l)) (keep f n)
    go true e s = more s (keep_inserted f i e)
    go false e s = rw (keep_dropped f i e) s

-- For how long

inserted_total : {a : Charge} {l m : List Charge} → Inserted a l m → total_time m ≡ a.time + total_time l
inserted_total here = refl
inserted_total {a} (later {b = b} {l = l} i) = omega (arith, inserted_total i)

pub rearranged_total : {l m : List Charge} → Rearranged l m → total_time m ≡ total_time l
rearranged_total none = refl
rearranged_total (more r i) = omega (arith, inserted_total i, rearranged_total r)

-- by place

pub total_listed : (g : ℕ → Charge) (is : List ℕ) → sum_by (λ i. (g i).time) is ≡ total_time (map g is)
total_listed g [] = refl
total_listed g (i ∷ is) = omega (arith, sum_by-cons (λ i. (g i).time) i is, total_listed g is)

pub among_place : (g : ℕ → Charge) (n j : ℕ) → j < n → Among (g j) (tabulate g n 0)
among_place g n j h =
    tabulate_each (λ x. Among x (tabulate g n 0)) g n 0 (each_self (tabulate g n 0)) j (omega arith) (omega arith)

-- the place of a member
pub record PlaceOf (g : ℕ → Charge) (n : ℕ) (x : Charge) : Type 0 where
  pub place : ℕ
  pub inside : place < n
  pub is : x ≡ g place

pub place_among : (g : ℕ → Charge) (n : ℕ) {x : Charge} → Among x (tabulate g n 0) → PlaceOf g n x
place_among g n m =
    among_each (PlaceOf g n) m
    (each_tabulate (PlaceOf g n) g n 0 (λ i a b. record { place = i; inside = omega arith; is = refl }))
