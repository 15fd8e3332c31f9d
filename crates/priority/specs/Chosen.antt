-- The charges left on a line: which of them fit at a start, and which one is taken.
use Rattle.std.specs.Prelude.{◌⊎◌, ◌≡◌, ℕ, ◌+◌, ◌-◌, ◌*◌, ◌/◌, ◌≤◌, ◌<◌, Bool, true, false, cond, Option, Some, None, leb, eqb, length, get_or}
use Rattle.rules.specs.Site.{places}
use Rattle.rules.specs.Priority.{weight_of}
use Rattle.priority.specs.Numbers.{number_of, InRange}
use Rattle.priority.specs.Crowds.{TimesOf}
use Rattle.priority.specs.declared.crowd.Times.{Times}
use Rattle.priority.specs.declared.choice.Left.{Left}
use Rattle.priority.specs.declared.choice.Runs.{Runs}
use Rattle.priority.specs.declared.choice.Weighed.{Weighed}

-- what the j-th of those left has
abbrev pub time_at : Left → ℕ → ℕ
time_at l j = number_of l.charges.now.times l.places.now j

abbrev pub active_time_at : Left → ℕ → ℕ
active_time_at l j = number_of l.charges.now.active_times l.places.now j

abbrev pub rate_at : Left → ℕ → ℕ
rate_at l j = number_of l.charges.now.rates l.places.now j

abbrev pub due_at : Left → ℕ → ℕ
due_at l j = number_of l.charges.now.dues l.places.now j

-- they have these times
abbrev pub with_times : Left → Times → Left
with_times l t = record l { times = t }

pub record Narrowed (l r : Left) : Type 0 where
  pub same : r ≡ with_times l r.times
  pub times : TimesOf l.charges.now l.places.now r.times

-- the run of minutes with room for a rate
abbrev pub run_for : Runs → ℕ → ℕ
run_for runs rate = cond (eqb rate 1) runs.one runs.two

-- the j-th charge is active for no longer than the run for its rate
abbrev pub fits_run : Left → Runs → ℕ → Bool
fits_run l runs j = leb (active_time_at l j) (run_for runs (rate_at l j))

-- what the charge at a place weighs at a start
abbrev pub weight_there : Left → ℕ → ℕ → ℕ
weight_there l start i =
    weight_of (256 * (get_or l.charges.now.dues i 0 - (start + get_or l.charges.now.times i 0)) * l.crowd.number / l.crowd.total)

-- what the j-th charge weighs at a start
abbrev pub weight_at : Left → ℕ → ℕ → ℕ
weight_at l start j = weight_there l start (get_or l.places.now j 0)

-- what weighing the charge at a place asks
pub record CanWeigh (l : Left) (i : ℕ) : Type 0 where
  pub inside : i < places
  pub due_most : get_or l.charges.now.dues i 0 ≤ 2000000
  pub number_most : l.crowd.number ≤ places
  pub total_low : 1 ≤ l.crowd.total

pub record WeighedAt (l : Left) (start i : ℕ) (r : Weighed) : Type 0 where
  pub time_is : r.time ≡ get_or l.charges.now.times i 0
  pub weight_is : r.weight ≡ weight_there l start i

-- a is heavier for its time than b, or it is as heavy and stands before it
abbrev pub Ahead : (ℕ → ℕ) → (ℕ → ℕ) → ℕ → ℕ → Type 0
Ahead w t a b = (w b * t a < w a * t b) ⊎ ((w b * t a ≡ w a * t b) × (a < b))

-- none of those from the given one up to another fits
abbrev pub NoneFits : Left → Runs → ℕ → ℕ → Type 0
NoneFits l runs from to = (j : ℕ) → from ≤ j → j < to → fits_run l runs j ≡ false

pub record FitsFirst (l : Left) (runs : Runs) (from r : ℕ) : Type 0 where
  pub low : from ≤ r
  pub inside : r < length l.places.now
  pub passed : NoneFits l runs from r
  pub here : fits_run l runs r ≡ true

-- the first that fits, if any
abbrev pub FirstFitting : Left → Runs → ℕ → Option ℕ → Type 0
FirstFitting l runs from (Some r) = FitsFirst l runs from r
FirstFitting l runs from None = NoneFits l runs from (length l.places.now)

-- the charges are in the order of d − p, and none is below the shortest
pub record CanChoose (l : Left) : Type 0 where
  pub range : InRange l.charges.now l.places.now
  pub number_most : l.crowd.number ≤ places
  pub total_low : 1 ≤ l.crowd.total
  pub shortest_low : (j : ℕ) → j < length l.places.now → l.times.shortest ≤ time_at l j
  pub in_order : (i j : ℕ) → i < j → j < length l.places.now → due_at l i + time_at l j ≤ due_at l j + time_at l i

-- the r-th fits, and is ahead of all others that do
pub record Foremost (l : Left) (start : ℕ) (runs : Runs) (r : ℕ) : Type 0 where
  pub inside : r < length l.places.now
  pub fits : fits_run l runs r ≡ true
  pub ahead :
      (j : ℕ) → j < length l.places.now → fits_run l runs j ≡ true → (j ≡ r → ⊥) → Ahead (weight_at l start) (time_at l) r j

-- none fits, or the foremost
abbrev pub Choice : Left → ℕ → Runs → Option ℕ → Type 0
Choice l start runs (Some r) = Foremost l start runs r
Choice l start runs None = NoneFits l runs 0 (length l.places.now)
