-- What charges show of a ticket, and the answers that some charges give.
use mathlib.Core.Path.{◌≡◌, refl, ap, sym, ◌∙◌}
use Prim.Native.Nat.{ℕ, zero, suc, ◌≤◌, ◌<◌}
use mathlib.Core.Bool.{Bool, true, false, cond}
use mathlib.Core.List.{List, [], ◌∷◌, ◌++◌, map}
use native.Mathlib.Omega.{arith}
use lib.Dec.{eqb}
use lib.ListN.{length, get_or, set, replicate}
use Rattle.std.proofs.lemmas.List.{set-get_or}
use borrow.Author.Tests.{eqb-true, eq-eqb, ne_eqb}
use Rattle.rules.specs.Basics.{Each}
use Rattle.rules.specs.Charge.{Charge}
use Rattle.rules.specs.Calls.{not_held, start_or_not_held}
use Rattle.boards.specs.Board.{start_or, answered_by}

-- One ticket

-- no charge of a list has the ticket
abbrev pub HeldByNone : ℕ → List Charge → Type 0
HeldByNone t xs = Each (λ c. c.ticket ≡ t → ⊥) xs

shown-append : (x t : ℕ) (cs ds : List Charge) → start_or x (cs ++ ds) t ≡ start_or (start_or x ds t) cs t
shown-append x t [] ds = refl
shown-append x t (c ∷ cs) ds = rw (shown-append x t cs ds)

shown_none : (x t : ℕ) (cs : List Charge) → HeldByNone t cs → start_or x cs t ≡ x
shown_none x t [] e = refl
shown_none x t (c ∷ cs) e = rw (ne_eqb c.ticket t e.0) (shown_none x t cs e.1)

shown_not_held : (t : ℕ) (cs : List Charge) → start_or not_held cs t ≡ start_or_not_held cs t
shown_not_held t [] = refl
shown_not_held t (c ∷ cs) = rw (shown_not_held t cs)

-- one charge more, with a ticket that none before it has
shown_more : (x t : ℕ) (cs : List Charge) (c : Charge) → HeldByNone c.ticket cs → start_or x (cs ++ (c ∷ [])) t ≡ cond (eqb c.ticket t) c.start (start_or x cs t)
shown_more x t cs c e = shown-append x t cs (c ∷ []) ∙ go (eqb c.ticket t) refl
  where
    go : (b : Bool) → eqb c.ticket t ≡ b → start_or (cond b c.start x) cs t ≡ cond b c.start (start_or x cs t)
    go true p = let same : c.ticket ≡ t = eqb-true c.ticket t p in shown_none c.start t cs (rw same at e)
    go false p = refl

-- the answer at a place, after a charge was looked at
module _ (list : List ℕ) (j start ticket asked : ℕ) {next : List ℕ} where
  pub shown_here : ticket ≡ asked → next ≡ set list j start → next ≡ set list j (cond (eqb ticket asked) start (get_or list j 0))
  shown_here e s = s ∙ rw (eq-eqb ticket asked e)

  pub shown_before : (ticket ≡ asked → ⊥) → next ≡ list → next ≡ set list j (cond (eqb ticket asked) start (get_or list j 0))
  shown_before ne s = s ∙ rw (ne_eqb ticket asked ne) (sym (set-get_or list j 0))

-- The tickets asked for

-- the first match wins
pub answered_append :
    (cs ds : List Charge) (asked list : List ℕ)
    → answered_by (cs ++ ds) asked list ≡ answered_by cs asked (answered_by ds asked list)
answered_append cs ds [] list = refl
answered_append cs ds (t ∷ asked) [] = refl
answered_append cs ds (t ∷ asked) (x ∷ list) = rw (shown-append x t cs ds, answered_append cs ds asked list)

pub answered_none : (asked list : List ℕ) → answered_by [] asked list ≡ list
answered_none [] list = refl
answered_none (t ∷ asked) [] = refl
answered_none (t ∷ asked) (x ∷ list) = rw (answered_none asked list)

-- charges that have none of the tickets
pub answered_before :
    (cs ds : List Charge) (asked list : List ℕ)
    → ((l : ℕ) → l < length asked → HeldByNone (get_or asked l 0) ds)
    → answered_by (cs ++ ds) asked list ≡ answered_by cs asked list
answered_before cs ds [] list h = refl
answered_before cs ds (t ∷ asked) [] h = refl
answered_before cs ds (t ∷ asked) (x ∷ list) h =
    rw (
      shown-append x t cs ds,
      shown_none x t ds (h 0 (omega arith)),
      answered_before cs ds asked list (λ l a. h (suc l) (omega arith)),
    )

-- one charge more, which has the j-th ticket or none
pub answered_more :
    (cs : List Charge) (c : Charge) (asked list : List ℕ) (j : ℕ)
    → HeldByNone c.ticket cs
    → j < length asked
    → length asked ≤ length list
    → ((l : ℕ) → l < length asked → (l ≡ j → ⊥) → c.ticket ≡ get_or asked l 0 → ⊥)
    → set (answered_by cs asked list) j (cond (eqb c.ticket (get_or asked j 0)) c.start (get_or (answered_by cs asked list) j 0))
    ≡ answered_by (cs ++ (c ∷ [])) asked list
answered_more cs c [] list j e h room other = absurd (omega arith)
answered_more cs c (t ∷ asked) [] j e h room other = absurd (omega arith)
answered_more cs c (t ∷ asked) (x ∷ list) zero e h room other =
    rw (
      shown_more x t cs c e,
      answered_before cs (c ∷ []) asked list (λ l a. (other (suc l) (omega arith) (λ z. omega arith), tt)),
    )
answered_more cs c (t ∷ asked) (x ∷ list) (suc j) e h room other =
    rw (
      shown_more x t cs c e,
      ne_eqb c.ticket t (other 0 (omega arith) (λ z. omega arith)),
    )
    (ap (λ l. start_or x cs t ∷ l) (answered_more cs c asked list j e (omega arith) (omega arith) (λ l a n. other (suc l) (omega arith) (λ z. n (omega arith)))))

-- where no charge was looked at before
pub answered_all :
    (cs : List Charge) (asked rest : List ℕ)
    → answered_by cs asked (replicate (length asked) not_held ++ rest) ≡ map (start_or_not_held cs) asked ++ rest
answered_all cs [] rest = refl
answered_all cs (t ∷ asked) rest = rw (shown_not_held t cs, answered_all cs asked rest)
