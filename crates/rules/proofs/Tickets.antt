-- Tickets that rise along a list of charges.
use Prim.Native.Nat.{ℕ, suc, ◌≤◌, ◌<◌}
use mathlib.Core.Bool.{Bool, true, false, cond}
use mathlib.Core.List.{List, [], ◌∷◌, ◌++◌}
use native.Mathlib.Omega.{arith}
use Rattle.rules.specs.Basics.{Each, keep}
use Rattle.rules.specs.Charge.{Charge}
use Rattle.rules.specs.Valid.{Rising}
use Rattle.rules.proofs.Lists.{each_map}

rising_down : (i j : ℕ) (cs : List Charge) → i ≤ j → Rising j cs → Rising i cs
rising_down i j [] h r = tt
rising_down i j (c ∷ cs) h r = (omega (arith, r.0), r.1)

pub rising_from : (i : ℕ) (cs : List Charge) → Rising i cs → Each (λ c. i ≤ c.ticket) cs
rising_from i [] r = tt
rising_from i (c ∷ cs) r = (
  r.0,
  each_map (λ d. suc c.ticket ≤ d.ticket) (λ d. i ≤ d.ticket) (λ d h. omega (arith, r.0)) cs
      (rising_from (suc c.ticket) cs r.1),
)

pub rising_keep : (i : ℕ) (f : Charge → Bool) (cs : List Charge) → Rising i cs → Rising i (keep f cs)
rising_keep i f [] r = tt
rising_keep i f (c ∷ cs) r = go (f c) (rising_keep (suc c.ticket) f cs r.1)
  where
    go : (b : Bool) → Rising (suc c.ticket) (keep f cs) → Rising i (cond b (c ∷ keep f cs) (keep f cs))
    go true s = (r.0, s)
    go false s = rising_down i (suc c.ticket) (keep f cs) (omega (arith, r.0)) s

pub rising_append :
    (i : ℕ) (cs : List Charge) (d : Charge)
    → Rising i cs
    → i ≤ d.ticket
    → Each (λ c. c.ticket < d.ticket) cs
    → Rising i (cs ++ (d ∷ []))
rising_append i [] d r h e = (h, tt)
rising_append i (c ∷ cs) d r h e = (r.0, rising_append (suc c.ticket) cs d r.1 (omega (arith, e.0)) e.1)
