-- No ticket stands twice on a valid site.
use mathlib.Core.Path.{◌≡◌}
use Prim.Native.Nat.{ℕ, suc, ◌<◌}
use mathlib.Core.Bool.{Bool, true, false, cond}
use mathlib.Core.List.{List, [], ◌∷◌, ◌++◌}
use native.Mathlib.Omega.{arith}
use lib.ListN.{length, get_or}
use Rattle.rules.specs.Basics.{Each, keep}
use Rattle.rules.specs.Charge.{Charge}
use Rattle.rules.specs.Site.{Feeder, no_feeder, feeder_of, joined}
use Rattle.rules.specs.Valid.{Apart}
use Rattle.rules.specs.laws.Withdrawals.{TicketsStandOnce}
use Rattle.rules.proofs.Lists.{each_append, keep_each}
use Rattle.rules.proofs.Sorting.{InOrder}
use Rattle.rules.proofs.Queues.{Distinct, rising_other}
use Rattle.rules.proofs.Sites.{place_number, number_place, by_place}

pub in_order_append :
    {A : Type 0} (R : A → A → Type 0) (l m : List A)
    → InOrder R l
    → InOrder R m
    → Each (λ a. Each (R a) m) l
    → InOrder R (l ++ m)
in_order_append R [] m p q e = q
in_order_append R (a ∷ l) m p q e = (each_append (R a) l m p.0 e.0, in_order_append R l m p.1 q e.1)

pub in_order_keep : {A : Type 0} (R : A → A → Type 0) (f : A → Bool) (l : List A) → InOrder R l → InOrder R (keep f l)
in_order_keep R f [] o = tt
in_order_keep R f (a ∷ l) o = go (f a) (keep_each (R a) f l o.0) (in_order_keep R f l o.1)
  where
    go : (b : Bool) → Each (R a) (keep f l) → InOrder R (keep f l) → InOrder R (cond b (a ∷ keep f l) (keep f l))
    go true e p = (e, p)
    go false e p = p

-- what holds of each charge of each feeder holds of all
pub each_joined :
    (P : Charge → Type 0) (gs : List Feeder)
    → ((i : ℕ) → i < length gs → Each P (get_or gs i no_feeder).charges)
    → Each P (joined gs)
each_joined P [] h = tt
each_joined P (g ∷ gs) h =
    each_append P g.charges (joined gs) (h 0 (omega arith)) (each_joined P gs (λ i j. h (suc i) (omega arith)))

-- a list that stands apart from each feeder stands apart from all
apart_joined :
    (cs : List Charge) (gs : List Feeder)
    → ((i : ℕ) → i < length gs → Apart cs (get_or gs i no_feeder).charges)
    → Apart cs (joined gs)
apart_joined [] gs h = tt
apart_joined (c ∷ cs) gs h = (
  each_joined (λ d. c.ticket ≡ d.ticket → ⊥) gs (λ i j. (h i j).0),
  apart_joined cs gs (λ i j. (h i j).1),
)

distinct_joined :
    (gs : List Feeder)
    → ((i : ℕ) → i < length gs → Distinct (get_or gs i no_feeder).charges)
    → ((i j : ℕ) → i < j → j < length gs → Apart (get_or gs i no_feeder).charges (get_or gs j no_feeder).charges)
    → Distinct (joined gs)
distinct_joined [] d a = tt
distinct_joined (g ∷ gs) d a =
    in_order_append (λ a b. a.ticket ≡ b.ticket → ⊥) g.charges (joined gs) (d 0 (omega arith))
    (distinct_joined gs (λ i h. d (suc i) (omega arith)) (λ i j h k. a (suc i) (suc j) (omega arith) (omega arith)))
    (apart_joined g.charges gs (λ i h. a 0 (suc i) (omega arith) (omega arith)))

pub site_distinct : TicketsStandOnce
site_distinct s v =
    distinct_joined s.feeders
    (by_place s (λ g. Distinct g.charges) (λ f h. rising_other 1 (feeder_of s f).charges (v.plan f h).rising))
    (λ i j h k.
    rw (← (number_place s i), ← (number_place s j))
    (v.apart (suc i) (suc j) (place_number s i (omega arith)) (place_number s j k) (λ e. omega arith)))
