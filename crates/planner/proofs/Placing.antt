-- Charges placed one after another, and the starts of the placed ones.
use mathlib.Core.Path.{◌≡◌, refl, sym, ◌∙◌, ap}
use Prim.Native.Nat.{ℕ, ◌+◌}
use mathlib.Core.Bool.{Bool, true, false, cond, ◌&&◌, ◌||◌}
use mathlib.Core.List.{List, [], ◌∷◌, ◌++◌}
use native.Mathlib.Omega.{arith}
use lib.Dec.{ltb, eqb}
use borrow.Author.Tests.{eq-eqb, ne_eqb, lt-ltb}
use Rattle.rules.specs.Basics.{Found, at, nothing, Each}
use Rattle.rules.specs.Load.{active, count}
use Rattle.rules.specs.Charge.{Charge, starting, load_of, loads_of}
use Rattle.rules.specs.Replan.{all, stuck, place_all, start_in, placed_active}
use Rattle.profile.specs.Shows.{Rated}
use Rattle.planner.specs.Placed.{Missing}

-- One charge more

module _ (find : List Charge → Charge → Found) (placed : List Charge) where
  pub place_none : place_all find placed [] ≡ all placed
  unfolding place_all
  place_none = refl

  pub place_on_lem :
      (c : Charge) (cs : List Charge) (s : ℕ)
      → find placed c ≡ at s
      → place_all find placed (c ∷ cs) ≡ place_all find (placed ++ (starting c s ∷ [])) cs
  unfolding place_all
  place_on_lem c cs s e = rw (e, place_all)

  pub place_stuck :
      (c : Charge) (cs : List Charge) → find placed c ≡ nothing → place_all find placed (c ∷ cs) ≡ stuck
  unfolding place_all
  place_stuck c cs e = rw (e, place_all)

-- Starts of the placed charges

-- the last of the placed charges has the start that it was given
pub start_last :
    (placed : List Charge) (c : Charge) (s : ℕ)
    → Missing c.ticket placed
    → start_in (placed ++ (starting c s ∷ [])) c.ticket ≡ s
start_last [] c s m = rw (eq-eqb c.ticket c.ticket refl)
start_last (x ∷ xs) c s m = rw (ne_eqb x.ticket c.ticket m.0) (start_last xs c s m.1)

-- and those of the others stay
pub start_other :
    (placed : List Charge) (c : Charge) (s t : ℕ)
    → (c.ticket ≡ t → ⊥)
    → start_in (placed ++ (starting c s ∷ [])) t ≡ start_in placed t
start_other [] c s t h = rw (ne_eqb c.ticket t h)
start_other (x ∷ xs) c s t h = go (eqb x.ticket t) (start_other xs c s t h)
  where
    go :
        (b : Bool)
        → start_in (xs ++ (starting c s ∷ [])) t ≡ start_in xs t
        → cond b x.start (start_in (xs ++ (starting c s ∷ [])) t) ≡ cond b x.start (start_in xs t)
    go true e = refl
    go false e = e

-- A placed charge of a line is active exactly where the placed charges count on that line: no rate is 0

pub placed_active_lem :
    (placed : List Charge) (i t : ℕ) → Each Rated (loads_of placed) → placed_active placed i t ≡ ltb 0 (count (loads_of placed) i t)
placed_active_lem [] i t h = refl
placed_active_lem (c ∷ cs) i t h = go (eqb c.line i) (active (load_of c) t) (placed_active_lem cs i t h.1)
  where
    go :
        (a b : Bool)
        → placed_active cs i t ≡ ltb 0 (count (loads_of cs) i t)
        → ((a && b) || placed_active cs i t) ≡ ltb 0 (cond b (cond a c.rate 0) 0 + count (loads_of cs) i t)
    go true true e = sym (lt-ltb 0 (c.rate + count (loads_of cs) i t) (omega (arith, h.0.low)))
    go true false e = e ∙ ap (ltb 0) (plus (count (loads_of cs) i t))
      where
        plus : (n : ℕ) → n ≡ 0 + n
        plus n = omega arith
    go false b e = e ∙ ap (ltb 0) (nothing_more b (count (loads_of cs) i t))
      where
        nothing_more : (b : Bool) (n : ℕ) → n ≡ cond b 0 0 + n
        nothing_more true n = omega arith
        nothing_more false n = omega arith
