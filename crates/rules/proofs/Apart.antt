-- Tickets of two feeders.
use mathlib.Core.Path.{◌≡◌, sym}
use mathlib.Core.Bool.{Bool}
use mathlib.Core.List.{List, [], ◌∷◌}
use Rattle.rules.specs.Basics.{Each, keep}
use Rattle.rules.specs.Charge.{Charge}
use Rattle.rules.specs.Valid.{Apart}
use Rattle.rules.proofs.Lists.{each_map, keep_each}

each_swap :
    {A : Type 0} {B : Type 0} (R : A → B → Type 0) (k : List A) (l : List B)
    → Each (λ a. Each (λ b. R a b) l) k
    → Each (λ b. Each (λ a. R a b) k) l
each_swap R k [] e = tt
each_swap R k (b ∷ l) e = (
  each_map (λ a. Each (λ b. R a b) (b ∷ l)) (λ a. R a b) (λ a p. p.0) k e,
  each_swap R k l (each_map (λ a. Each (λ b. R a b) (b ∷ l)) (λ a. Each (λ b. R a b) l) (λ a p. p.1) k e),
)

pub apart_turn : (cs ds : List Charge) → Apart cs ds → Apart ds cs
apart_turn cs ds e =
    each_map (λ d. Each (λ c. c.ticket ≡ d.ticket → ⊥) cs) (λ d. Each (λ c. d.ticket ≡ c.ticket → ⊥) cs)
    (λ d p. each_map (λ c. c.ticket ≡ d.ticket → ⊥) (λ c. d.ticket ≡ c.ticket → ⊥) (λ c n q. n (sym q)) cs p)
    ds
    (each_swap (λ (c d : Charge). c.ticket ≡ d.ticket → ⊥) cs ds e)

pub apart_keep : (f g : Charge → Bool) (cs ds : List Charge) → Apart cs ds → Apart (keep f cs) (keep g ds)
apart_keep f g cs ds e =
    each_map (λ c. Each (λ d. c.ticket ≡ d.ticket → ⊥) ds) (λ c. Each (λ d. c.ticket ≡ d.ticket → ⊥) (keep g ds))
    (λ c p. keep_each (λ d. c.ticket ≡ d.ticket → ⊥) g ds p)
    (keep f cs)
    (keep_each (λ c. Each (λ d. c.ticket ≡ d.ticket → ⊥) ds) f cs e)
