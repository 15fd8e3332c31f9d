-- The charges of a line, taken together: all of them when the round begins, and those that are left.
use Rattle.std.specs.Prelude.{◌≡◌, ⊤, ℕ, min, max, ◌≤◌, ◌<◌, List, length, get_or, Option, Some, None}
use Rattle.std.specs.List.{sum_by}
use Rattle.charges.specs.declared.Charges.{Charges}
use Rattle.priority.specs.Numbers.{number_of}
use Rattle.priority.specs.declared.crowd.Span.{Span}
use Rattle.priority.specs.declared.crowd.Crowd.{Crowd}
use Rattle.priority.specs.declared.crowd.Times.{Times}

-- the number and the summed time of those that wait
pub record CrowdOf (q : Charges) (waiting : List ℕ) (r : Crowd) : Type 0 where
  pub number : r.number ≡ length waiting
  pub total : r.total ≡ sum_by (λ i. get_or q.times i 0) waiting

-- the shortest time, and the longest; 0 where there is none
abbrev pub shortest_of : Option Span → ℕ
shortest_of (Some s) = s.shortest
shortest_of None = 0

abbrev pub longest_of : Option Span → ℕ
longest_of (Some s) = s.longest
longest_of None = 0

-- one more time
abbrev pub widened : Option Span → ℕ → Span
widened (Some s) time = record { shortest = min s.shortest time; longest = max s.longest time }
widened None time = record { shortest = time; longest = time }

-- the times of one more charge
pub record Joined (t : Times) (time active rate : ℕ) (r : Times) : Type 0 where
  pub shortest : r.shortest ≡ min t.shortest time
  pub one : rate ≡ 1 → (r.one ≡ Some (widened t.one active)) × (r.two ≡ t.two)
  pub two : (rate ≡ 1 → ⊥) → (r.two ≡ Some (widened t.two active)) × (r.one ≡ t.one)

-- a charge with this rate and active time
pub record Found (q : Charges) (left : List ℕ) (n rate time : ℕ) : Type 0 where
  pub who : ℕ
  pub inside : who < n
  pub rate_is : rate ≡ number_of q.rates left who
  pub time_is : time ≡ number_of q.active_times left who

-- one is as short as the shortest, where there is a span
abbrev pub FoundIf : Charges → List ℕ → ℕ → ℕ → Option Span → Type 0
FoundIf q left n rate (Some s) = Found q left n rate s.shortest
FoundIf q left n rate None = ⊤

-- no charge of the rate is shorter or longer, and one is as short as that; none where no charge has the rate
pub record SpanOf (q : Charges) (left : List ℕ) (n rate : ℕ) (r : Option Span) : Type 0 where
  pub most : longest_of r ≤ 1445
  pub in_order : shortest_of r ≤ longest_of r
  pub each :
      (j : ℕ)
      → j < n
      → rate ≡ number_of q.rates left j
      → (1 ≤ shortest_of r) × (shortest_of r ≤ number_of q.active_times left j) × (number_of q.active_times left j ≤ longest_of r)
  pub found : FoundIf q left n rate r

-- the times of the first n of those left
pub record FirstTimes (q : Charges) (left : List ℕ) (n : ℕ) (r : Times) : Type 0 where
  pub one : SpanOf q left n 1 r.one
  pub two : SpanOf q left n 2 r.two
  pub shortest_low : (j : ℕ) → j < n → r.shortest ≤ number_of q.times left j

abbrev pub TimesOf : Charges → List ℕ → Times → Type 0
TimesOf q left r = FirstTimes q left (length left) r
