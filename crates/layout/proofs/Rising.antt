-- Charges by place and along a list: what each has, and "tickets, the next one last, are 1 or more and rise".
use mathlib.Core.Logic.{◌⊎◌, inl, inr}
use mathlib.Core.Path.{◌≡◌}
use Prim.Native.Nat.{ℕ, zero, suc, ◌≤◌, ◌<◌}
use mathlib.Core.Bool.{cond}
use mathlib.Core.List.{List, [], ◌∷◌}
use native.Mathlib.Omega.{arith}
use lib.Dec.{ltb}
use lib.ListN.{length, get_or}
use borrow.Author.Tests.{lt-ltb, le-ltb}
use Rattle.rules.specs.Basics.{Each}
use Rattle.rules.specs.Charge.{Charge}
use Rattle.rules.specs.Valid.{Rising}
use Rattle.rules.proofs.Ranges.{below_or_not}
use Rattle.layout.specs.Image.{no_charge}

-- What each charge has

pub each_place :
    (P : Charge → Type 0) (cs : List Charge) → Each P cs → (q : ℕ) → q < length cs → P (get_or cs q no_charge)
each_place P [] e q h = absurd (omega arith)
each_place P (c ∷ cs) e zero h = e.0
each_place P (c ∷ cs) e (suc q) h = each_place P cs e.1 q (omega arith)

pub place_each :
    (P : Charge → Type 0) (cs : List Charge) → ((q : ℕ) → q < length cs → P (get_or cs q no_charge)) → Each P cs
place_each P [] h = tt
place_each P (c ∷ cs) h = (h zero (omega arith), place_each P cs (λ q l. h (suc q) (omega arith)))

-- Tickets

-- the tickets of these charges, and this one last
abbrev pub tickets_then : List Charge → ℕ → ℕ → ℕ
tickets_then [] next q = next
tickets_then (c ∷ cs) next zero = c.ticket
tickets_then (c ∷ cs) next (suc q) = tickets_then cs next q

-- the same by place
pub tickets_by_place :
    (cs : List Charge) (next q : ℕ) → cond (ltb q (length cs)) (get_or cs q no_charge).ticket next ≡ tickets_then cs next q
tickets_by_place [] next q = rw (le-ltb q 0 (omega arith))
tickets_by_place (c ∷ cs) next zero = rw (lt-ltb 0 (suc (length cs)) (omega arith))
tickets_by_place (c ∷ cs) next (suc q) = go (below_or_not q (length cs)) (tickets_by_place cs next q)
  where
    go :
        (q < length cs) ⊎ (length cs ≤ q)
        → cond (ltb q (length cs)) (get_or cs q no_charge).ticket next ≡ tickets_then cs next q
        → cond (ltb (suc q) (suc (length cs))) (get_or cs q no_charge).ticket next ≡ tickets_then cs next q
    go (inl l) e = rw (lt-ltb (suc q) (suc (length cs)) (omega arith)) (rw (lt-ltb q (length cs) l) at e)
    go (inr l) e = rw (le-ltb (suc q) (suc (length cs)) (omega arith)) (rw (le-ltb q (length cs) l) at e)

-- they rise from place to place
abbrev pub Rises : List Charge → ℕ → Type 0
Rises cs next = (q : ℕ) → q < length cs → tickets_then cs next q < tickets_then cs next (suc q)

rises_behind : (c : Charge) (cs : List Charge) (next : ℕ) → Rises (c ∷ cs) next → Rises cs next
rises_behind c cs next r q h = r (suc q) (omega arith)

first_rises : (c : Charge) (cs : List Charge) (next : ℕ) → Rises (c ∷ cs) next → c.ticket < tickets_then cs next 0
first_rises c cs next r = r zero (omega arith)

first_most : (cs : List Charge) (next : ℕ) → Rises cs next → tickets_then cs next 0 ≤ next
first_most [] next r = omega arith
first_most (c ∷ cs) next r =
    omega (arith, first_rises c cs next r, first_most cs next (rises_behind c cs next r))

pub rising_list : (i : ℕ) (cs : List Charge) (next : ℕ) → i ≤ tickets_then cs next 0 → Rises cs next → Rising i cs
rising_list i [] next h r = tt
rising_list i (c ∷ cs) next h r =
    (h, rising_list (suc c.ticket) cs next (first_rises c cs next r) (rises_behind c cs next r))

pub below_next : (cs : List Charge) (next : ℕ) → Rises cs next → Each (λ c. c.ticket < next) cs
below_next [] next r = tt
below_next (c ∷ cs) next r = (
  omega (arith, first_rises c cs next r, first_most cs next (rises_behind c cs next r)),
  below_next cs next (rises_behind c cs next r),
)

pub ticket_from :
    (i : ℕ) (cs : List Charge) (next : ℕ)
    → Rising i cs
    → Each (λ c. c.ticket < next) cs
    → i ≤ next
    → (q : ℕ)
    → i ≤ tickets_then cs next q
ticket_from i [] next r e h q = h
ticket_from i (c ∷ cs) next r e h zero = r.0
ticket_from i (c ∷ cs) next r e h (suc q) =
    omega (arith, r.0, ticket_from (suc c.ticket) cs next r.1 e.1 e.0 q)

pub rising_places :
    (i : ℕ) (cs : List Charge) (next : ℕ) → Rising i cs → Each (λ c. c.ticket < next) cs → Rises cs next
rising_places i [] next r e q h = absurd (omega arith)
rising_places i (c ∷ cs) next r e zero h = ticket_from (suc c.ticket) cs next r.1 e.1 e.0 0
rising_places i (c ∷ cs) next r e (suc q) h = rising_places (suc c.ticket) cs next r.1 e.1 q (omega arith)
