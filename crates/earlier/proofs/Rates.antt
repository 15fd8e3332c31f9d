-- Sums of rates: what all charges draw together at most.
use mathlib.Core.Path.{◌≡◌, refl, ap, ◌∙◌}
use Prim.Native.Nat.{ℕ, zero, suc, ◌+◌, ◌*◌, ◌≤◌}
use mathlib.Core.Bool.{Bool, true, false, cond, not}
use mathlib.Core.List.{List, [], ◌∷◌, ◌++◌}
use native.Mathlib.Omega.{arith}
use lib.Dec.{leb, eqb}
use lib.ListN.{length}
use borrow.Author.Tests.{leb-true, leb-false, eq-eqb, eqb-true}
use Rattle.rules.specs.Basics.{Each, keep}
use Rattle.rules.specs.Load.{Load, counts, whole_of}
use Rattle.rules.specs.Charge.{Charge, starting, loads_of, is_begun, begun_charges, waiting_charges, has_ticket, without_ticket}
use Rattle.rules.specs.Replan.{of_line}
use Rattle.rules.specs.Judgement.{restarted}
use Rattle.earlier.specs.LawsOfBefore.{rates}
use Rattle.rules.proofs.Lists.{each_map}
use Rattle.rules.proofs.Sorting.{Inserted, here, later, Rearranged, none, more}
use Rattle.rules.proofs.Counts.{whole_draws}

abbrev pub rates_in : List Load → ℕ
rates_in [] = 0
rates_in (x ∷ xs) = x.rate + rates_in xs

-- no more is drawn in a minute
pub whole_most : (xs : List Load) (t : ℕ) → whole_of (counts xs t) ≤ rates_in xs
whole_most [] t = omega arith
whole_most (x ∷ xs) t = omega (arith, whole_draws x t, whole_most xs t)

pub rates_in_append : (xs ys : List Load) → rates_in (xs ++ ys) ≡ rates_in xs + rates_in ys
rates_in_append [] ys = omega arith
rates_in_append (x ∷ xs) ys = rw (rates_in_append xs ys) (omega arith)

pub rates_in_loads : (cs : List Charge) → rates_in (loads_of cs) ≡ rates cs
rates_in_loads [] = refl
rates_in_loads (c ∷ cs) = rw (rates_in_loads cs)

pub rates_append : (cs ds : List Charge) → rates (cs ++ ds) ≡ rates cs + rates ds
rates_append [] ds = omega arith
rates_append (c ∷ cs) ds = rw (rates_append cs ds) (omega arith)

-- rates of 1 or 2
pub rates_most : (cs : List Charge) → Each (λ c. c.rate ≤ 2) cs → rates cs ≤ 2 * length cs
rates_most [] e = omega arith
rates_most (c ∷ cs) e = omega (arith, e.0, rates_most cs e.1)

-- Parts of a list

pub rates_parts : (k : ℕ) (cs : List Charge) → rates (begun_charges k cs) + rates (waiting_charges k cs) ≡ rates cs
rates_parts k [] = refl
rates_parts k (c ∷ cs) = go (is_begun k c) (rates_parts k cs)
  where
    go :
        (b : Bool)
        → rates (begun_charges k cs) + rates (waiting_charges k cs) ≡ rates cs
        → rates (cond b (c ∷ begun_charges k cs) (begun_charges k cs))
        + rates (cond (not b) (c ∷ waiting_charges k cs) (waiting_charges k cs))
        ≡ c.rate + rates cs
    go true e = omega arith
    go false e = omega arith

pub rates_kept : (f : Charge → Bool) (cs : List Charge) → rates (keep f cs) ≤ rates cs
rates_kept f [] = omega arith
rates_kept f (c ∷ cs) = go (f c) (rates_kept f cs)
  where
    go : (b : Bool) → rates (keep f cs) ≤ rates cs → rates (cond b (c ∷ keep f cs) (keep f cs)) ≤ c.rate + rates cs
    go true e = omega arith
    go false e = omega arith

-- a charge and those without its ticket
pub rates_without : (cs : List Charge) → Each (λ d. d.rate + rates (without_ticket d.ticket cs) ≤ rates cs) cs
rates_without [] = tt
rates_without (c ∷ cs) = (
  rw (eq-eqb c.ticket c.ticket refl) (omega (arith, rates_kept (λ x. not (has_ticket c.ticket x)) cs)),
  each_map (λ d. d.rate + rates (without_ticket d.ticket cs) ≤ rates cs)
      (λ d. d.rate + rates (without_ticket d.ticket (c ∷ cs)) ≤ c.rate + rates cs)
      (λ d h. other d (has_ticket d.ticket c) h)
      cs
      (rates_without cs),
)
  where
    other :
        (d : Charge) (b : Bool)
        → d.rate + rates (without_ticket d.ticket cs) ≤ rates cs
        → d.rate + rates (cond (not b) (c ∷ without_ticket d.ticket cs) (without_ticket d.ticket cs)) ≤ c.rate + rates cs
    other d true h = omega arith
    other d false h = omega arith

-- the first l lines
abbrev pub lines_to : ℕ → List Charge → ℕ
lines_to zero cs = 0
lines_to (suc l) cs = lines_to l cs + rates (of_line (suc l) cs)

-- a charge stands on one line
lines-one : (l : ℕ) (c : Charge) (cs : List Charge) → lines_to l (c ∷ cs) ≤ cond (leb c.line l) c.rate 0 + lines_to l cs
lines-one zero c cs = omega arith
lines-one (suc l) c cs =
    go (eqb c.line (suc l)) refl (leb c.line l) refl (leb c.line (suc l)) refl (lines-one l c cs)
  where
    go :
        (x : Bool)
        → eqb c.line (suc l) ≡ x
        → (y : Bool)
        → leb c.line l ≡ y
        → (z : Bool)
        → leb c.line (suc l) ≡ z
        → lines_to l (c ∷ cs) ≤ cond (leb c.line l) c.rate 0 + lines_to l cs
        → lines_to l (c ∷ cs) + rates (cond x (c ∷ of_line (suc l) cs) (of_line (suc l) cs))
        ≤ cond z c.rate 0 + (lines_to l cs + rates (of_line (suc l) cs))
    go true p true q z r h = absurd (omega (arith, eqb-true c.line (suc l) p, leb-true c.line l q))
    go true p false q true r h = let u = rw q at h in omega arith
    go true p false q false r h = absurd (omega (arith, eqb-true c.line (suc l) p, leb-false c.line (suc l) r))
    go false p true q true r h = let u = rw q at h in omega arith
    go false p true q false r h = absurd (omega (arith, leb-true c.line l q, leb-false c.line (suc l) r))
    go false p false q true r h = let u = rw q at h in omega arith
    go false p false q false r h = let u = rw q at h in omega arith

lines_none : (l : ℕ) → lines_to l [] ≡ 0
lines_none zero = refl
lines_none (suc l) = rw (lines_none l)

pub lines_most : (l : ℕ) (cs : List Charge) → lines_to l cs ≤ rates cs
lines_most l [] = omega (arith, lines_none l)
lines_most l (c ∷ cs) = omega (arith, lines-one l c cs, part (leb c.line l), lines_most l cs)
  where
    part : (b : Bool) → cond b c.rate 0 ≤ c.rate
    part true = omega arith
    part false = omega arith

-- Other orders and other starts

rates_inserted : {c : Charge} {l m : List Charge} → Inserted c l m → rates m ≡ c.rate + rates l
rates_inserted here = refl
rates_inserted (later i) = rw (rates_inserted i) (omega arith)

pub rates_rearranged : {l m : List Charge} → Rearranged l m → rates m ≡ rates l
rates_rearranged none = refl
rates_rearranged (more {a = a} r i) = rates_inserted i ∙ ap (λ (x : ℕ). a.rate + x) (rates_rearranged r)

pub rates_restarted : (k : ℕ) (cs : List Charge) (ss : List ℕ) → rates (restarted k cs ss) ≡ rates cs
rates_restarted k [] ss = refl
rates_restarted k (c ∷ cs) [] = refl
rates_restarted k (c ∷ cs) (s ∷ ss) = go (is_begun k c) (rates_restarted k cs (s ∷ ss)) (rates_restarted k cs ss)
  where
    go :
        (b : Bool)
        → rates (restarted k cs (s ∷ ss)) ≡ rates cs
        → rates (restarted k cs ss) ≡ rates cs
        → rates (cond b (c ∷ restarted k cs (s ∷ ss)) (starting c s ∷ restarted k cs ss)) ≡ c.rate + rates cs
    go true u v = rw u
    go false u v = rw v
