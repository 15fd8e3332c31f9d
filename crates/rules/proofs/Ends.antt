-- Ends of charges: the last one, up to when they draw, and that finished charges draw nothing.
use mathlib.Core.Path.{◌≡◌, refl}
use Prim.Native.Nat.{ℕ, ◌+◌, max, ◌≤◌}
use mathlib.Core.Bool.{Bool, true, false, cond, not}
use mathlib.Core.List.{List, [], ◌∷◌, ◌++◌}
use native.Mathlib.Omega.{arith}
use borrow.Author.Tests.{leb-true}
use Rattle.rules.specs.Basics.{Each, keep}
use Rattle.rules.specs.Load.{count, draws, last_until}
use Rattle.rules.specs.Charge.{Charge, end_of, active_until, load_of, loads_of, is_finished, unfinished_charges, last_end}
use Rattle.rules.proofs.Counts.{draws_after}

pub each_last_end : (b : ℕ) (cs : List Charge) → last_end cs ≤ b → Each (λ c. end_of c ≤ b) cs
each_last_end b [] h = tt
each_last_end b (c ∷ cs) h = (omega arith, each_last_end b cs (omega arith))

pub last_end_each : (b : ℕ) (cs : List Charge) → Each (λ c. end_of c ≤ b) cs → last_end cs ≤ b
last_end_each b [] e = omega arith
last_end_each b (c ∷ cs) e = omega (arith, e.0, last_end_each b cs e.1)

pub until_each : (b : ℕ) (cs : List Charge) → Each (λ c. active_until c ≤ b) cs → last_until (loads_of cs) ≤ b
until_each b [] e = omega arith
until_each b (c ∷ cs) e = omega (arith, e.0, until_each b cs e.1)

pub each_until : (b : ℕ) (cs : List Charge) → last_until (loads_of cs) ≤ b → Each (λ c. active_until c ≤ b) cs
each_until b [] h = tt
each_until b (c ∷ cs) h = (omega arith, each_until b cs (omega arith))

-- a charge draws up to r minutes after its end
pub last_until_lem :
    (r : ℕ) (cs : List Charge) → Each (λ c. c.active_time ≡ c.time + r) cs → last_until (loads_of cs) ≤ last_end cs + r
last_until_lem r [] e = omega arith
last_until_lem r (c ∷ cs) e = omega (arith, e.0, last_until_lem r cs e.1)

pub until_kept : (f : Charge → Bool) (cs : List Charge) → last_until (loads_of (keep f cs)) ≤ last_until (loads_of cs)
until_kept f [] = omega arith
until_kept f (c ∷ cs) = go (f c) (until_kept f cs)
  where
    go :
        (b : Bool)
        → last_until (loads_of (keep f cs)) ≤ last_until (loads_of cs)
        → last_until (loads_of (cond b (c ∷ keep f cs) (keep f cs))) ≤ max (active_until c) (last_until (loads_of cs))
    go true h = omega arith
    go false h = omega arith

pub last_end_more : (cs : List Charge) (c : Charge) → last_end (cs ++ (c ∷ [])) ≡ max (last_end cs) (end_of c)
last_end_more [] c = omega arith
last_end_more (x ∷ cs) c = rw (last_end_more cs c) (omega arith)

-- finished charges draw nothing from the clock on
pub count_unfinished :
    (clock : ℕ) (cs : List Charge) (l t : ℕ)
    → clock ≤ t
    → count (loads_of (unfinished_charges clock cs)) l t ≡ count (loads_of cs) l t
count_unfinished clock [] l t h = refl
count_unfinished clock (c ∷ cs) l t h = go (is_finished clock c) refl (count_unfinished clock cs l t h)
  where
    rest : List Charge
    rest = unfinished_charges clock cs

    go :
        (b : Bool)
        → is_finished clock c ≡ b
        → count (loads_of (unfinished_charges clock cs)) l t ≡ count (loads_of cs) l t
        → count (loads_of (cond (not b) (c ∷ unfinished_charges clock cs) (unfinished_charges clock cs))) l t
        ≡ draws (load_of c) l t + count (loads_of cs) l t
    go true p later =
        rw (later, draws_after (load_of c) l t (omega (arith, leb-true (active_until c) clock p))) (omega arith)
    go false p later = rw later
