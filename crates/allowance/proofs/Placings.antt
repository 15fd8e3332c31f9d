-- Charges placed one after another under the caps, and what that says of the counts.
use mathlib.Core.Path.{◌≡◌, refl, sym, ◌∙◌}
use Prim.Native.Nat.{ℕ, ◌+◌, max, ◌≤◌, ◌<◌}
use mathlib.Core.Bool.{Bool, true, false, ◌&&◌, ◌||◌}
use mathlib.Core.List.{List, [], ◌∷◌, ◌++◌}
use native.Mathlib.Omega.{arith}
use lib.Dec.{ltb, leb, eqb}
use borrow.Author.Tests.{leb-true, ltb-true, eqb-true}
use Rattle.rules.specs.Load.{Load, Draw, active, draws, count, last_until}
use Rattle.rules.specs.Charge.{Charge, starting, draw_of, load_of, loads_of}
use Rattle.rules.specs.Search.{Caps, room_for, fits_under}
use Rattle.rules.specs.Replan.{placed_active}
use Rattle.rules.proofs.Ranges.{and_left, and_right, either_way, throughout_at}
use Rattle.rules.proofs.Lists.{some_append}
use Rattle.rules.proofs.Counts.{share_own}
use Rattle.rules.proofs.Searches.{count_added, room_under_lem}
use Rattle.rules.proofs.Fitting.{loads_more}

-- "with the line's count, itself included, at or below the cap in all its minutes"
abbrev pub UnderCap : Caps → List Load → Draw → ℕ → Type 0
UnderCap cap xs a s = (t : ℕ) → s ≤ t → t < s + a.time → count xs a.line t + a.rate ≤ cap a.line t

pub under_at : (w : ℕ) (cap : Caps) (xs : List Load) (a : Draw) (s : ℕ) → fits_under w cap xs a s ≡ true → UnderCap cap xs a s
under_at w cap xs a s e t i j =
    (room_under_lem w cap xs a.line a.rate t
    (throughout_at (room_for w cap xs a.line a.rate) a.time s e t i j)).own

-- from `placed` on to `plan`, each charge with a start under its line's cap, not past the last end; in whatever order
pub data PlacedUnder (cap : Caps) (clock : ℕ) (base : List Load) : List Charge → List Charge → Type 0 where
  done : {placed : List Charge} → PlacedUnder cap clock base placed placed
  next :
      {placed plan : List Charge} (c : Charge) (s : ℕ)
      → UnderCap cap (base ++ loads_of placed) (draw_of c) s
      → s ≤ max clock (last_until (base ++ loads_of placed))
      → PlacedUnder cap clock base (placed ++ (starting c s ∷ [])) plan
      → PlacedUnder cap clock base placed plan

pub under_then :
    {cap : Caps} {clock : ℕ} {base : List Load} {xs ys zs : List Charge}
    → PlacedUnder cap clock base xs ys
    → PlacedUnder cap clock base ys zs
    → PlacedUnder cap clock base xs zs
under_then done q = q
under_then (next c s u h p) q = next c s u h (under_then p q)

-- Counts under the caps

-- where a placed charge of a line is active, the line's count is at or below its cap
abbrev pub Within : Caps → List Load → List Charge → Type 0
Within cap base placed =
    (l t : ℕ) → placed_active placed l t ≡ true → count (base ++ loads_of placed) l t ≤ cap l t

count_placed :
    (base : List Load) (placed : List Charge) (x : Charge) (l t : ℕ)
    → count (base ++ loads_of (placed ++ (x ∷ []))) l t ≡ count (base ++ loads_of placed) l t + draws (load_of x) l t
count_placed base placed x l t = rw (loads_more base placed x) (count_added (base ++ loads_of placed) (draw_of x) x.start l t)

only : (x : Bool) → x || false ≡ true → x ≡ true
only true f = refl
only false f = f

-- the last one placed there saw the whole count
within_more :
    (cap : Caps) (base : List Load) (placed : List Charge) (c : Charge) (s : ℕ)
    → UnderCap cap (base ++ loads_of placed) (draw_of c) s
    → Within cap base placed
    → Within cap base (placed ++ (starting c s ∷ []))
within_more cap base placed c s u w l t h =
    rw (count_placed base placed (starting c s) l t)
    (go (eqb c.line l) (active (load_of (starting c s)) t) refl refl
    (sym (some_append (λ d. eqb d.line l && active (load_of d) t) placed (starting c s ∷ [])) ∙ h))
  where
    go :
        (a b : Bool)
        → eqb c.line l ≡ a
        → active (load_of (starting c s)) t ≡ b
        → placed_active placed l t || ((eqb c.line l && active (load_of (starting c s)) t) || false) ≡ true
        → count (base ++ loads_of placed) l t + draws (load_of (starting c s)) l t ≤ cap l t
    go true true p q e =
        let same : c.line ≡ l = eqb-true c.line l p in
        let from : s ≤ t = leb-true s t (and_left (leb s t) (ltb t (s + c.active_time)) q) in
        let until : t < s + c.active_time
        = ltb-true t (s + c.active_time) (and_right (leb s t) (ltb t (s + c.active_time)) q) in
        rw (q, ← same, share_own c.line c.rate) (u t from until)
    go true false p q e = rw q (let j = w l t (only (placed_active placed l t) (rw (p, q) at e)) in omega arith)
    go false b p q e = rw (p, q, either_way b 0) (let j = w l t (only (placed_active placed l t) (rw p at e)) in omega arith)

pub under_within :
    {cap : Caps} {clock : ℕ} {base : List Load} {placed plan : List Charge}
    → PlacedUnder cap clock base placed plan
    → Within cap base placed
    → Within cap base plan
under_within done w = w
under_within {cap} {clock} {base} (next {placed = placed} c s u h r) w =
    under_within r (within_more cap base placed c s u w)
