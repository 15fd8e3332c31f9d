-- The numbers of the charges of a line that are left are in range.
use Prim.Native.Nat.{ℕ, ◌≤◌, ◌<◌}
use mathlib.Core.List.{List, [], ◌∷◌}
use native.Mathlib.Omega.{arith}
use lib.ListN.{length, get_or}
use Rattle.rules.specs.Basics.{Each}
use Rattle.rules.specs.Charge.{Charge}
use Rattle.rules.specs.Priority.{total_time}
use Rattle.charges.specs.declared.Charges.{Charges}
use Rattle.charges.specs.Held.{Small, Listed}
use Rattle.priority.specs.Numbers.{InRange}
use Rattle.lines.proofs.Lefts.{left_at, AreLeft}

-- what the numbers of those left meet
module _ {c : Charges} {line : ℕ} {left : List ℕ} {rest : List Charge} (h : Listed c) (v : AreLeft c line left rest) where
  small : (j : ℕ) → j < length left → Small (left_at c left j)
  small j b = h.small (get_or left j 0) (v.inside j b)

  pub left_range : InRange c left
  left_range =
      record {
        inside = record { few = v.few; below = λ j b. omega (arith, v.inside j b, c.few) };
        short = λ j b. let s = small j b in (s.time_low, omega (arith, s.time_most));
        active = λ j b. let s = small j b in (omega (arith, s.time_low, s.active_least), s.active_most);
        dues_most = λ j b. (small j b).due_most;
        rated = λ j b. (small j b).is_rate;
      }

-- a sum of times is not 0, if there is one
pub total_some : (cs : List Charge) → Each (λ x. 1 ≤ x.time) cs → 1 ≤ length cs → 1 ≤ total_time cs
total_some [] e l = absurd (omega arith)
total_some (x ∷ cs) e l = omega (arith, e.0)
