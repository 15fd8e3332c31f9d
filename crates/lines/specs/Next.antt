-- The next charge of a line, by the numbers of those left.
use Rattle.std.specs.Prelude.{◌≡◌, ⊤, ℕ, ◌+◌, min, max, ◌^◌, ◌≤◌, ◌<◌, Bool, List, [], length, Option, Some, None}
use Rattle.rules.specs.Basics.{run_of}
use Rattle.charges.specs.declared.Charges.{Charges}
use Rattle.profile.specs.Shows.{first_minute, last_minute}
use Rattle.search.specs.Rooms.{Misses}
use Rattle.search.specs.Starts.{CanStart}
use Rattle.search.specs.Caps.{room_under, CanRun, CanCap, EarliestStartUnder}
use Rattle.priority.specs.declared.crowd.Span.{Span}
use Rattle.priority.specs.declared.crowd.Times.{Times}
use Rattle.priority.specs.declared.choice.Left.{Left}
use Rattle.priority.specs.declared.choice.Runs.{Runs}
use Rattle.priority.specs.Numbers.{number_of}
use Rattle.priority.specs.Crowds.{shortest_of, longest_of}
use Rattle.priority.specs.Chosen.{active_time_at, rate_at, with_times, CanChoose, Choice}
use Rattle.lines.specs.declared.next.Room.{Room}
use Rattle.lines.specs.declared.next.Next.{Next}

-- a minute has room for a rate
abbrev pub room_for : Room → ℕ → ℕ → Bool
room_for r rate = room_under r.steps.now r.caps.now r.line rate

-- how many minutes from a start on have room for the two rates
abbrev pub runs_at : Room → Times → ℕ → Runs
runs_at r t start =
    record { one = run_of (room_for r 1) (longest_of t.one) start; two = run_of (room_for r 2) (longest_of t.two) start }

-- what the choice at a start asks
pub record CanChooseAt (r : Room) (l : Left) (start : ℕ) : Type 0 where
  pub one : CanRun r.steps.now (longest_of l.times.one) start
  pub two : CanRun r.steps.now (longest_of l.times.two) start
  pub can_choose : CanChoose l

-- the charge that is taken at a start
abbrev pub ChosenAt : Room → Left → ℕ → Option ℕ → Type 0
ChosenAt r l start result = Choice l start (runs_at r l.times start) result

-- the cap has room for a rate, where there is a charge of it
abbrev pub CappedIf : Room → ℕ → Option Span → Type 0
CappedIf r rate (Some s) = (1 ≤ s.shortest) × CanCap r.caps.now r.line rate
CappedIf r rate None = ⊤

-- what a search for a rate and the shortest time of its charges asks
pub record CanSeek (r : Room) (rate : ℕ) (span : Option Span) (from : ℕ) : Type 0 where
  pub can_start : CanStart r.steps.now (shortest_of span)
  pub capped : CappedIf r rate span
  pub low : first_minute r.steps.now ≤ from

-- the smallest start for a rate; none where there is no charge of it, which has no time either
abbrev pub StartFor : Room → ℕ → ℕ → ℕ → Option ℕ → Type 0
StartFor r rate time from (Some start) =
    (1 ≤ time) × EarliestStartUnder r.steps.now r.caps.now r.line time rate (min from (last_minute r.steps.now)) start
StartFor r rate time from None = time ≡ 0

-- the smaller one of two starts, either of which may be missing
abbrev pub smaller_of : Option ℕ → Option ℕ → Option ℕ
smaller_of (Some a) (Some b) = Some (min a b)
smaller_of (Some a) None = Some a
smaller_of None r = r

-- the smaller one of those for the shortest of the two rates
pub record NextStart (r : Room) (t : Times) (from : ℕ) (result : Option ℕ) : Type 0 where
  pub first : Option ℕ
  pub second : Option ℕ
  pub for_one : StartFor r 1 (shortest_of t.one) from first
  pub for_two : StartFor r 2 (shortest_of t.two) from second
  pub smaller : result ≡ smaller_of first second

-- none of those left is active for longer than the longest of its rate, and none is below the shortest
pub record Bounds (c : Charges) (left : List ℕ) (t : Times) : Type 0 where
  pub one_most : longest_of t.one ≤ 1445
  pub two_most : longest_of t.two ≤ 1445
  pub one : (j : ℕ) → j < length left → 1 ≡ number_of c.rates left j → number_of c.active_times left j ≤ longest_of t.one
  pub two : (j : ℕ) → j < length left → 2 ≡ number_of c.rates left j → number_of c.active_times left j ≤ longest_of t.two
  pub shortest_low : (j : ℕ) → j < length left → t.shortest ≤ number_of c.times left j

pub record CanNext (r : Room) (l : Left) (from : ℕ) : Type 0 where
  pub can_start : CanStart r.steps.now 1445
  pub capped : (j : ℕ) → j < length l.places.now → CanCap r.caps.now r.line (rate_at l j)
  pub can_choose : 1 ≤ length l.places.now → CanChoose l
  pub bounds : Bounds l.charges.now l.places.now l.times
  pub low : first_minute r.steps.now ≤ from
  pub from_fits : from + 1445 < 2 ^ 32

-- one is taken, and from `from` on none of those left has room at an earlier start
pub record NextAt (r : Room) (l : Left) (from : ℕ) (next : Next) : Type 0 where
  pub inside : next.position < length l.places.now
  pub choice : ChosenAt r (with_times l next.times) next.start (Some next.position)
  pub bounds : Bounds l.charges.now l.places.now next.times
  pub low : first_minute r.steps.now ≤ next.start
  pub high : next.start ≤ max from (last_minute r.steps.now)
  pub none :
      (u : ℕ) → from ≤ u → u < next.start → (j : ℕ) → j < length l.places.now
      → Misses (room_for r (rate_at l j)) (active_time_at l j) u

-- the one that is taken, or none is left
abbrev pub NextIs : Room → Left → ℕ → Option Next → Type 0
NextIs r l from (Some next) = NextAt r l from next
NextIs r l from None = l.places.now ≡ []
