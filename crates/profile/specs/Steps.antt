-- A step function: n steps, of which step i begins in minute `at` i and has the level `c` i from there on. And the steps of the code.
use Rattle.std.specs.Prelude.{ℕ, zero, suc, ◌+◌, ◌≤◌, ◌<◌, ◌≡◌, cond, List, map, eqb, leb, length, get_or}
use Rattle.rules.specs.Load.{IsColumn, share}
use Rattle.profile.specs.declared.steps.Step.{Step}

-- the level in the last of the n steps that begins at or before t, 0 if none does
abbrev pub level_at : List ℕ → (ℕ → ℕ) → ℕ → ℕ → ℕ
level_at ats f zero t = 0
level_at ats f (suc i) t = cond (leb (get_or ats i 0) t) (f i) (level_at ats f i t)

-- so many steps are enough for all charges of four feeders: one, and two more for each of 720 loads
abbrev pub most_steps : ℕ
most_steps = 1441

-- the one of four that belongs to line l, of which the fourth stands for the other feeders
abbrev pub of_lines : {A : Type 0} → A → A → A → A → ℕ → A
of_lines a b c d l = cond (eqb l 1) a (cond (eqb l 2) b (cond (eqb l 3) c d))

-- the counts of a step, line by line
abbrev pub counts_of : Step → ℕ → ℕ
counts_of s = of_lines s.one s.two s.three s.others

-- the minutes in which steps begin
abbrev pub minutes_of : List Step → List ℕ
minutes_of p = map (λ (s : Step). s.minute) p

-- a step in which nothing is drawn, from minute t on
abbrev pub empty_step : ℕ → Step
empty_step t = record { minute = t; one = 0; two = 0; three = 0; others = 0 }

-- a step from another minute on
abbrev pub begun_at : ℕ → Step → Step
begun_at t s = record { minute = t; one = s.one; two = s.two; three = s.three; others = s.others }

-- minute t lies in step i: it is the last that begins at or before t
pub record In (p : List Step) (i t : ℕ) : Type 0 where
  pub below : i < length p
  pub begun : get_or (minutes_of p) i 0 ≤ t
  pub later : (j : ℕ) → i < j → j < length p → t < get_or (minutes_of p) j 0

-- steps begin in rising minutes
abbrev pub Rising : List Step → Type 0
Rising p = (i j : ℕ) → i < j → j < length p → get_or (minutes_of p) i 0 < get_or (minutes_of p) j 0

-- b is a with v put in at place k of the first n
pub record Inserted (a b : List ℕ) (n k v : ℕ) : Type 0 where
  pub before : (m : ℕ) → m < k → get_or b m 0 ≡ get_or a m 0
  pub here : get_or b k 0 ≡ v
  pub after : (m : ℕ) → k ≤ m → m < n → get_or b (suc m) 0 ≡ get_or a m 0

-- g is f with step i there twice, among the first n
pub record Doubled (f g : ℕ → ℕ) (n i : ℕ) : Type 0 where
  pub before : (m : ℕ) → m ≤ i → g m ≡ f m
  pub after : (m : ℕ) → i ≤ m → m < n → g (suc m) ≡ f m

-- g is f with x more in the steps from i up to j
pub record Raised (f g : ℕ → ℕ) (i j x : ℕ) : Type 0 where
  pub before : (m : ℕ) → m < i → g m ≡ f m
  pub between : (m : ℕ) → i ≤ m → m < j → g m ≡ f m + x
  pub after : (m : ℕ) → j ≤ m → g m ≡ f m

-- b is a with the rate more on a line
pub record RaisedOn (a : Step) (line rate : ℕ) (b : Step) : Type 0 where
  pub minute : b.minute ≡ a.minute
  pub each : (l : ℕ) → IsColumn l → IsColumn line → counts_of b l ≡ counts_of a l + share line rate l
