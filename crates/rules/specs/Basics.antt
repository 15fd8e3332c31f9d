-- What the rules need of numbers and lists: tests over a range, the first of a range, ordered tables, sorting.
use Rattle.std.specs.Prelude.{ℕ, zero, suc, Bool, true, false, cond, ◌&&◌, ◌||◌, List, [], ◌∷◌}

-- f holds at each of the k numbers from a on
abbrev pub throughout : (ℕ → Bool) → ℕ → ℕ → Bool
throughout f zero a = true
throughout f (suc k) a = f a && throughout f k (suc a)

-- f at each of the k numbers from a on
abbrev pub tabulate : {A : Type 0} → (ℕ → A) → ℕ → ℕ → List A
tabulate f zero a = []
tabulate f (suc k) a = f a ∷ tabulate f k (suc a)

-- what a search answers
pub data Found : Type 0 where
  at : ℕ → Found
  nothing : Found

-- the first of the k numbers from a on at which f holds
abbrev pub first : (ℕ → Bool) → ℕ → ℕ → Found
first f zero a = nothing
first f (suc k) a = elim (f a) [ true ↦ at a | false ↦ first f k (suc a) ]

-- how many of the k numbers from a on pass f, up to the first at which it fails
abbrev pub run_of : (ℕ → Bool) → ℕ → ℕ → ℕ
run_of f zero a = 0
run_of f (suc k) a = cond (f a) (suc (run_of f k (suc a))) 0

-- a table of conditions with their numbers: the number of the first condition that holds, 0 where none does
abbrev pub first_of : List (Bool × ℕ) → ℕ
first_of [] = 0
first_of (row ∷ rows) = cond row.0 row.1 (first_of rows)

-- the members at which f holds, in the same order
abbrev pub keep : {A : Type 0} → (A → Bool) → List A → List A
keep f [] = []
keep f (a ∷ l) = cond (f a) (a ∷ keep f l) (keep f l)

-- f holds at some member
abbrev pub some : {A : Type 0} → (A → Bool) → List A → Bool
some f [] = false
some f (a ∷ l) = f a || some f l

-- P holds of each member of a list
abbrev pub Each {ℓ} : {A : Type ℓ} → (A → Type 0) → List A → Type 0
Each P [] = Unit {0}
Each P (a ∷ l) = P a × Each P l

-- a list sorted by `before`, by insertion
abbrev pub insert_by : {A : Type 0} → (A → A → Bool) → A → List A → List A
insert_by before a [] = a ∷ []
insert_by before a (b ∷ l) = cond (before a b) (a ∷ b ∷ l) (b ∷ insert_by before a l)

abbrev pub sorted_by : {A : Type 0} → (A → A → Bool) → List A → List A
sorted_by before [] = []
sorted_by before (a ∷ l) = insert_by before a (sorted_by before l)
