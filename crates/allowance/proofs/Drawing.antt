-- The minutes that charges draw in all, and up to when a placement draws.
use mathlib.Core.Path.{◌≡◌, refl}
use Prim.Native.Nat.{ℕ, ◌+◌, max, ◌≤◌}
use mathlib.Core.Bool.{Bool, true, false, cond, not}
use mathlib.Core.List.{List, [], ◌∷◌, ◌++◌}
use native.Mathlib.Omega.{arith}
use lib.Dec.{eqb}
use borrow.Author.Tests.{eqb-true, eq-eqb}
use Rattle.rules.specs.Basics.{keep}
use Rattle.rules.specs.Load.{Load, last_until}
use Rattle.rules.specs.Charge.{Charge, starting, load_of, loads_of}
use Rattle.rules.specs.Search.{Caps}
use Rattle.rules.specs.Priority.{without_ticket}
use Rattle.rules.specs.Replan.{of_line}
use Rattle.rules.proofs.Fitting.{loads_more}
use Rattle.rules.proofs.Picking.{Among, front, behind}
use Rattle.allowance.specs.Allowance.{drawn_time}
use Rattle.allowance.proofs.Placings.{PlacedUnder, done, next}

pub drawn_append : (cs ds : List Charge) → drawn_time (cs ++ ds) ≡ drawn_time cs + drawn_time ds
drawn_append [] ds = omega arith
drawn_append (c ∷ cs) ds = rw (drawn_append cs ds) (omega arith)

drawn_kept : (f : Charge → Bool) (cs : List Charge) → drawn_time (keep f cs) ≤ drawn_time cs
drawn_kept f [] = omega arith
drawn_kept f (c ∷ cs) = go (f c) (drawn_kept f cs)
  where
    go : (b : Bool) → drawn_time (keep f cs) ≤ drawn_time cs → drawn_time (cond b (c ∷ keep f cs) (keep f cs)) ≤ drawn_time (c ∷ cs)
    go true h = omega arith
    go false h = omega arith

-- a charge that is taken leaves those without its ticket
pub drawn_without :
    {c : Charge} {l : List Charge} → Among c l → drawn_time (without_ticket c.ticket l) + c.active_time ≤ drawn_time l
drawn_without {c} (front {l = l}) =
    rw (eq-eqb c.ticket c.ticket refl) (omega (arith, drawn_kept (λ d. not (eqb d.ticket c.ticket)) l))
drawn_without {c} (behind {d = d} {l = l} m) = go (eqb d.ticket c.ticket) (drawn_without m)
  where
    go :
        (b : Bool)
        → drawn_time (without_ticket c.ticket l) + c.active_time ≤ drawn_time l
        → drawn_time (cond (not b) (d ∷ without_ticket c.ticket l) (without_ticket c.ticket l)) + c.active_time
        ≤ d.active_time + drawn_time l
    go true h = omega arith
    go false h = omega arith

-- a charge stands on one line at most
pub drawn_lines_lem :
    (cs : List Charge) → drawn_time (of_line 1 cs) + (drawn_time (of_line 2 cs) + drawn_time (of_line 3 cs)) ≤ drawn_time cs
drawn_lines_lem [] = omega arith
drawn_lines_lem (c ∷ cs) =
    go (eqb c.line 1) refl (eqb c.line 2) refl (eqb c.line 3) refl (drawn_lines_lem cs)
  where
    go :
        (x : Bool)
        → eqb c.line 1 ≡ x
        → (y : Bool)
        → eqb c.line 2 ≡ y
        → (z : Bool)
        → eqb c.line 3 ≡ z
        → drawn_time (of_line 1 cs) + (drawn_time (of_line 2 cs) + drawn_time (of_line 3 cs)) ≤ drawn_time cs
        → drawn_time (cond x (c ∷ of_line 1 cs) (of_line 1 cs))
        + (drawn_time (cond y (c ∷ of_line 2 cs) (of_line 2 cs)) + drawn_time (cond z (c ∷ of_line 3 cs) (of_line 3 cs)))
        ≤ drawn_time (c ∷ cs)
    go true p true q z r ih = absurd (omega (arith, eqb-true c.line 1 p, eqb-true c.line 2 q))
    go true p false q true r ih = absurd (omega (arith, eqb-true c.line 1 p, eqb-true c.line 3 r))
    go true p false q false r ih = omega arith
    go false p true q true r ih = absurd (omega (arith, eqb-true c.line 2 q, eqb-true c.line 3 r))
    go false p true q false r ih = omega arith
    go false p false q true r ih = omega arith
    go false p false q false r ih = omega arith

-- The last minute drawn

last_more : (xs : List Load) (x : Load) → last_until (xs ++ (x ∷ [])) ≡ max (last_until xs) x.until
last_more [] x = omega arith
last_more (y ∷ xs) x = rw (last_more xs x) (omega arith)

pub under_until :
    {cap : Caps} {clock : ℕ} {base : List Load} {placed plan : List Charge}
    → PlacedUnder cap clock base placed plan
    → last_until (base ++ loads_of plan) + drawn_time placed
    ≤ max clock (last_until (base ++ loads_of placed)) + drawn_time plan
under_until done = omega arith
under_until {cap} {clock} {base} (next {placed = placed} {plan = plan} c s u h r) =
    go (last_until (base ++ loads_of placed)) (drawn_time placed) h
    (rw (
      loads_more base placed (starting c s),
      last_more (base ++ loads_of placed) (load_of (starting c s)),
      drawn_append placed (starting c s ∷ []),
    ) at (under_until r))
  where
    go :
        (last before : ℕ)
        → s ≤ max clock last
        → last_until (base ++ loads_of plan) + (before + (c.active_time + 0))
        ≤ max clock (max last (s + c.active_time)) + drawn_time plan
        → last_until (base ++ loads_of plan) + before ≤ max clock last + drawn_time plan
    go last before h ih = omega arith
