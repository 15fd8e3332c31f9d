-- Two ways of placing charges that agree as long as something holds of those placed and those left place them alike.
use mathlib.Core.Path.{◌≡◌, refl, ap, ◌∙◌}
use Prim.Native.Nat.{ℕ, zero, suc}
use mathlib.Core.Bool.{Bool, true, false, cond}
use mathlib.Core.List.{List, [], ◌∷◌, ◌++◌}
use Rattle.rules.specs.Basics.{Each, Found, at, nothing, keep}
use Rattle.rules.specs.Load.{Load}
use Rattle.rules.specs.Charge.{Charge, starting}
use Rattle.rules.specs.Priority.{Crowd, taken_before, Pick, chosen, nobody, better, foremost, taken_at, Fitting, first_fit, picked, without_ticket}
use Rattle.rules.specs.Replan.{Placed, all, stuck, place_all, place_on}
use Rattle.rules.proofs.Lists.{keep_each}

-- what holds of those placed and those left
abbrev pub Holds : Type 1
Holds = List Charge → List Charge → Type 0

-- In a given order

module _
    (find other : List Charge → Charge → Found) (Ok : Holds)
    (same : (placed : List Charge) (c : Charge) (left : List Charge) → Ok placed (c ∷ left) → find placed c ≡ other placed c)
    (next :
    (placed : List Charge) (c : Charge) (left : List Charge) (s : ℕ)
    → Ok placed (c ∷ left)
    → Ok (placed ++ (starting c s ∷ [])) left)
  where
    pub all_alike : (placed cs : List Charge) → Ok placed cs → place_all find placed cs ≡ place_all other placed cs
    unfolding place_all
    all_alike placed [] e = refl
    all_alike placed (c ∷ cs) e =
        ap (λ (r : Found). elim r as (λ x. Placed) [ at s ↦ place_all find (placed ++ (starting c s ∷ [])) cs | nothing ↦ stuck ])
        (same placed c cs e)
        ∙ go (other placed c) (λ s. all_alike (placed ++ (starting c s ∷ [])) cs (next placed c cs s e))
      where
        go :
            (r : Found)
            → ((s : ℕ) → place_all find (placed ++ (starting c s ∷ [])) cs ≡ place_all other (placed ++ (starting c s ∷ [])) cs)
            → ◌≡◌ {A = Placed} (elim r [ at s ↦ place_all find (placed ++ (starting c s ∷ [])) cs | nothing ↦ stuck ])
            (elim r [ at s ↦ place_all other (placed ++ (starting c s ∷ [])) cs | nothing ↦ stuck ])
        go (at s) rest = rest s
        go nothing rest = refl

-- By choice

-- what a choice has
abbrev pub IsPick : (Charge → Type 0) → Pick → Type 0
IsPick Q (chosen c) = Q c
IsPick Q nobody = Unit {0}

foremost_is : (Q : Charge → Type 0) (before : Charge → Charge → Bool) (l : List Charge) → Each Q l → IsPick Q (foremost before l)
foremost_is Q before [] h = tt
foremost_is Q before (c ∷ l) h = go (foremost before l) (foremost_is Q before l h.1)
  where
    go : (p : Pick) → IsPick Q p → IsPick Q (better before c p)
    go nobody r = h.0
    go (chosen d) r = either (before d c)
      where
        either : (b : Bool) → Q (cond b d c)
        either true = r
        either false = h.0

-- one of those left, with some start
pub picked_is :
    (Q : Charge → Type 0) (fits : Fitting) (clock : ℕ) (xs : List Load) (q : Crowd) (left : List Charge)
    → Each (λ c. (s : ℕ) → Q (starting c s)) left
    → IsPick Q (picked fits clock xs q left)
unfolding picked
picked_is Q fits clock xs q left h = go (first_fit fits clock xs left)
  where
    taken : (s : ℕ) (p : Pick) → IsPick (λ c. (u : ℕ) → Q (starting c u)) p → IsPick Q (taken_at s p)
    taken s (chosen c) r = r s
    taken s nobody r = tt

    go :
        (r : Found)
        → IsPick Q
        (elim r as (λ x. Pick) [
          | at s ↦ taken_at s (foremost (taken_before q s) (keep (fits xs s) left))
          | nothing ↦ nobody
        ])
    go (at s) =
        taken s (foremost (taken_before q s) (keep (fits xs s) left))
        (foremost_is (λ c. (u : ℕ) → Q (starting c u)) (taken_before q s) (keep (fits xs s) left)
        (keep_each (λ c. (u : ℕ) → Q (starting c u)) (fits xs s) left h))
    go nothing = tt

-- what holds of all placed, with some left
abbrev pub Ends : Holds → Placed → Type 0
Ends Ok (all placed) = (left : List Charge) × Ok placed left
Ends Ok stuck = Unit {0}

module _
    (pick other : List Charge → List Charge → Pick) (Ok : Holds)
    (same : (placed left : List Charge) → Ok placed left → pick placed left ≡ other placed left)
    (next :
    (placed left : List Charge)
    → Ok placed left
    → IsPick (λ c. Ok (placed ++ (c ∷ [])) (without_ticket c.ticket left)) (other placed left))
  where
    pub on_alike : (k : ℕ) (placed left : List Charge) → Ok placed left → place_on pick k placed left ≡ place_on other k placed left
    unfolding place_on
    on_alike zero placed left e = refl
    on_alike (suc k) placed left e =
        ap
        (λ (p : Pick).
        elim p as (λ x. Placed) [
          | chosen c ↦ place_on pick k (placed ++ (c ∷ [])) (without_ticket c.ticket left)
          | nobody ↦ stuck
        ])
        (same placed left e)
        ∙ go (other placed left) (next placed left e) (on_alike k)
      where
        go :
            (p : Pick)
            → IsPick (λ c. Ok (placed ++ (c ∷ [])) (without_ticket c.ticket left)) p
            → ((more rest : List Charge) → Ok more rest → place_on pick k more rest ≡ place_on other k more rest)
            → ◌≡◌ {A = Placed}
            (elim p [
              | chosen c ↦ place_on pick k (placed ++ (c ∷ [])) (without_ticket c.ticket left)
              | nobody ↦ stuck
            ])
            (elim p [
              | chosen c ↦ place_on other k (placed ++ (c ∷ [])) (without_ticket c.ticket left)
              | nobody ↦ stuck
            ])
        go (chosen c) r rest = rest (placed ++ (c ∷ [])) (without_ticket c.ticket left) r
        go nobody r rest = refl

    pub on_ends : (k : ℕ) (placed left : List Charge) → Ok placed left → Ends Ok (place_on other k placed left)
    unfolding place_on
    on_ends zero placed left e = (left, e)
    on_ends (suc k) placed left e = go (other placed left) (next placed left e) (on_ends k)
      where
        go :
            (p : Pick)
            → IsPick (λ c. Ok (placed ++ (c ∷ [])) (without_ticket c.ticket left)) p
            → ((more rest : List Charge) → Ok more rest → Ends Ok (place_on other k more rest))
            → Ends Ok
            (elim p as (λ x. Placed) [
              | chosen c ↦ place_on other k (placed ++ (c ∷ [])) (without_ticket c.ticket left)
              | nobody ↦ stuck
            ])
        go (chosen c) r rest = rest (placed ++ (c ∷ [])) (without_ticket c.ticket left) r
        go nobody r rest = tt
