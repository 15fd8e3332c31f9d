-- The smallest start for the charges of one rate, which is that of the shortest of them.
use mathlib.Core.Logic.{◌⊎◌, inl, inr, ⊎_elim}
use mathlib.Core.Path.{◌≡◌, sym, ◌∙◌}
use Prim.Native.Nat.{ℕ, ◌+◌, ◌≤◌, ◌<◌}
use mathlib.Core.Bool.{Bool, true≢false}
use mathlib.Core.List.{List}
use native.Mathlib.Omega.{arith}
use lib.ListN.{length}
use Rattle.std.specs.declared.option.Option.{Option}
use Rattle.std.specs.declared.option.Option.TheVariants.{Some, None}
use Rattle.rules.specs.Basics.{run_of}
use Rattle.rules.proofs.Ranges.{below_or_not}
use Rattle.rules.proofs.Fitting.{Run, run_has}
use Rattle.charges.specs.declared.Charges.{Charges}
use Rattle.profile.specs.Shows.{first_minute, last_minute}
use Rattle.search.specs.Rooms.{Misses, Least}
use Rattle.search.proofs.Within.{first_last}
use Rattle.priority.specs.declared.crowd.Span.{Span}
use Rattle.priority.specs.declared.choice.Left.{Left}
use Rattle.priority.specs.Crowds.{shortest_of, longest_of, Found, FoundIf, SpanOf}
use Rattle.priority.specs.Chosen.{active_time_at, rate_at}
use Rattle.lines.specs.declared.next.Room.{Room}
use Rattle.lines.specs.Next.{room_for, StartFor, CanNext}

-- a start that passes has a run at least as long
run_least : (f : ℕ → Bool) (time most start r : ℕ) → Least f time start r → time ≤ most → time ≤ run_of f most r
run_least f time most start r m h = go (run_has f most r) (below_or_not (run_of f most r) time)
  where
    go : Run f most r (run_of f most r) → (run_of f most r < time) ⊎ (time ≤ run_of f most r) → time ≤ run_of f most r
    go x (inl l) = absurd (true≢false (sym (m.passes (r + run_of f most r) (omega arith) (omega arith)) ∙ x.stops (omega arith)))
    go x (inr l) = l

module _ {room : Room} {l : Left} {from : ℕ} (can : CanNext room l from) where
  abbrev c : Charges
  c = l.charges.now

  abbrev left : List ℕ
  left = l.places.now

  -- a rate of a charge left
  pub rate_of : (j : ℕ) → j < length left → (1 ≡ rate_at l j) ⊎ (2 ≡ rate_at l j)
  rate_of j h =
      let rated = (can.can_choose (omega arith)).range.rated j h in
      ⊎_elim (λ x. inl (omega (arith, rated.low))) (λ x. inr (omega (arith, rated.high))) (below_or_not (rate_at l j) 2)

  pub rate_range : {rate time a : ℕ} → StartFor room rate time from (Some a) → (first_minute room.steps.now ≤ a) × (a ≤ last_minute room.steps.now)
  rate_range t = (omega (arith, t.1.least.low, can.low, first_last can.can_start), t.1.high)

  module _ {rate : ℕ} {s : Option Span} (z : SpanOf c left (length left) rate s) where
    -- one is as short as the shortest time, if there is one
    pub rate_found : 1 ≤ shortest_of s → Found c left (length left) rate (shortest_of s)
    rate_found = go s z.found
      where
        go : (x : Option Span) → FoundIf c left (length left) rate x → 1 ≤ shortest_of x → Found c left (length left) rate (shortest_of x)
        go (Some x) f h = f
        go None f h = absurd (omega arith)

    -- where no charge has the rate, none is left with it
    pub rate_missing : StartFor room rate (shortest_of s) from None → (j : ℕ) → j < length left → rate ≡ rate_at l j → ⊥
    rate_missing e j h same = omega (arith, (z.each j h same).0)

    module _ {a : ℕ} (t : StartFor room rate (shortest_of s) from (Some a)) where
      pub rate_none :
          (u : ℕ) → from ≤ u → u < a → (j : ℕ) → j < length left → rate ≡ rate_at l j
          → Misses (room_for room (rate_at l j)) (active_time_at l j) u
      rate_none u b d j h same =
          let e = z.each j h same in
          let w = t.1.least.failed u (omega arith) d in
          record {
            minute = w.minute;
            low = w.low;
            high = omega (arith, w.high, e.1);
            fails = rw (← same) w.fails;
          }

      -- one that is as short as that is no longer than the run
      pub rate_long : (f : Found c left (length left) rate (shortest_of s)) → active_time_at l f.who ≤ run_of (room_for room rate) (longest_of s) a
      rate_long f =
          omega (
            arith,
            f.time_is,
            run_least (room_for room rate) (shortest_of s) (longest_of s) _ a t.1.least z.in_order,
          )
