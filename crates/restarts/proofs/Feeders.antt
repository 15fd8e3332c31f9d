-- How many feeders a list of calls leaves, and the orders that stand for the charges of each.
use mathlib.Core.Path.{◌≡◌, refl, ap, ◌∙◌}
use Prim.Native.Nat.{ℕ, zero, suc, ◌+◌, ◌-◌, ◌<◌}
use mathlib.Core.List.{List, [], ◌∷◌, ◌++◌, map}
use native.Mathlib.Omega.{arith}
use lib.Dec.{eqb}
use lib.ListN.{length, get_or}
use Rattle.rules.specs.Basics.{Each}
use Rattle.rules.specs.Site.{Feeder, State, no_feeder, charges_on}
use Rattle.rules.specs.Calls.{Call, step}
use Rattle.rules.specs.Valid.{IsFeeder}
use Rattle.guarantee.specs.Past.{Order, Past, order_of, orders_from, orders_of, extended, beginning, after}
use Rattle.layout.specs.Saving.{has_one}
use Rattle.layout.proofs.Calling.{feeders_stay}
use Rattle.restarts.specs.Events.{CallList, first, left, is_saved}

after_many : (calls : List Call) (h : Past) → length (after step h calls).station.feeders ≡ length h.station.feeders
after_many [] h = refl
after_many (c ∷ calls) h =
    after_many calls (extended h c (step h.station c)) ∙ feeders_stay h.station c

pub left_many : (l : CallList) → length (left l).feeders ≡ length (first l.beginning).feeders
left_many l = after_many l.calls (beginning (first l.beginning))

-- a save is refused of what a list of calls leaves exactly where it is of what the list began with
pub left_saved : (l : CallList) → has_one (left l) ≡ is_saved l
left_saved l = ap (λ (n : ℕ). eqb n 1) (left_many l)

-- Orders

pub each_left : {A : Type 0} (P : A → Type 0) (l m : List A) → Each P (l ++ m) → Each P l
each_left P [] m e = tt
each_left P (a ∷ l) m e = (e.0, each_left P l m e.1)

each_right : {A : Type 0} (P : A → Type 0) (l m : List A) → Each P (l ++ m) → Each P m
each_right P [] m e = e
each_right P (a ∷ l) m e = each_right P l m e.1

orders_at :
    (P : Order → Type 0) (i : ℕ) (gs : List Feeder) (j f : ℕ)
    → f ≡ i + j
    → j < length gs
    → Each P (orders_from i gs)
    → Each P (map (order_of f) (get_or gs j no_feeder).charges)
orders_at P i [] j f n h e = absurd (omega arith)
orders_at P i (g ∷ gs) zero f n h e =
    let s : f ≡ i = omega arith in
    rw s (each_left P (map (order_of i) g.charges) (orders_from (suc i) gs) e)
orders_at P i (g ∷ gs) (suc j) f n h e =
    orders_at P (suc i) gs j f (omega arith) (omega arith) (each_right P (map (order_of i) g.charges) (orders_from (suc i) gs) e)

-- of one feeder among those of all
pub orders_on :
    (P : Order → Type 0) (s : State) (f : ℕ) → IsFeeder s f → Each P (orders_of s) → Each P (map (order_of f) (charges_on s f))
orders_on P s f h e = orders_at P 1 s.feeders (f - 1) f (omega (arith, h.low)) (omega (arith, h.low, h.high)) e
